-- What holds of every number of a list.
use mathlib.Core.Bool.{Bool, true, ◌&&◌}
use mathlib.Core.List.{List, [], ◌∷◌}
use mathlib.Core.Path.{◌≡◌, ap, ◌∙◌}
use mathlib.Core.Logic.{⊎_elim}
use Prim.Native.Nat.{ℕ}
use native.Mathlib.Omega.{arith}
use lib.Dec.{eqb}
use mir.Val.{bool_byte}
use borrow.Author.Tests.{eqb-true}
use Rattle.counting.specs.Listed.{is_one_of}
use Rattle.counting.proofs.Facts.{both_parts, either_case}

-- ---- a test that every number of a list passes

abbrev pub all_pass : (ℕ → Bool) → List ℕ → Bool
all_pass test [] = true
all_pass test (n ∷ list) = test n && all_pass test list

pub of_list : (test : ℕ → Bool) (list : List ℕ) → all_pass test list ≡ true → (x : ℕ) → is_one_of list x ≡ true → test x ≡ true
of_list test [] h x e = absurd (omega (arith, ap bool_byte e))
of_list test (n ∷ list) h x e =
    let p = both_parts (test n) (all_pass test list) h in
    ⊎_elim (λ w. ap test (eqb-true x n w) ∙ p.0) (λ w. of_list test list p.1 x w) (either_case (eqb x n) (is_one_of list x) e)
