-- That `any` answers what the test says of a list.
use mathlib.Core.Bool.{Bool, true, false, ◌||◌, or-true}
use mathlib.Core.List.{List, [], ◌∷◌}
use mathlib.Core.Path.{◌≡◌, refl, sym, ap, ◌∙◌}
use Prim.Native.Nat.{ℕ, zero, suc, ◌<◌}
use native.Mathlib.Omega.{arith}
use lib.ListN.{length}
use Rattle.std.specs.Bool.{MatchBool}
use Rattle.std.specs.List.{list_any, HoldsAt, AllWithin}
use Rattle.std.proofs.lemmas.List.Folds.{list_any_none}

module _ {X : Type 0} (p : X → Bool) where
  some : (xs : List X) (k : ℕ) → k < length xs → HoldsAt (λ x. p x ≡ true) xs k → list_any p xs ≡ true
  some [] k l h = absurd (omega arith)
  some (x ∷ xs) zero l h = rw (h x) refl
  some (x ∷ xs) (suc k) l h = ap (λ (b : Bool). p x || b) (some xs k (omega arith) h) ∙ or-true (p x)

  pub any_is : (xs : List X) (r : Bool)
      → MatchBool r ((k : ℕ) × (k < length xs) × HoldsAt (λ x. p x ≡ true) xs k) (AllWithin (λ x. p x ≡ false) xs 0 (length xs))
      → r ≡ list_any p xs
  any_is xs true h = sym (some xs h.0 h.1 h.2)
  any_is xs false h = sym (list_any_none p xs (λ k d l. h k d (omega arith) l))
