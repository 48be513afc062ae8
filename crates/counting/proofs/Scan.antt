-- Looking for the k-th that passes a test from f on, one number at a time: at t, `left` of them are still to be passed.
use mathlib.Core.Bool.{Bool, true}
use mathlib.Core.Path.{◌≡◌, ap, ◌∙◌}
use mathlib.Core.Logic.{⊎_elim}
use Prim.Native.Nat.{ℕ, ◌+◌, ◌≤◌, ◌<◌}
use native.Mathlib.Omega.{arith}
use Rattle.counting.specs.Counting.{rank, select}
use Rattle.counting.proofs.Facts.{order}
use Rattle.counting.proofs.Select.{nth_of}
use Rattle.counting.proofs.Period.{select_is, is_select}

module _ (u : ℕ → Bool) (p : ℕ) (again : (t : ℕ) → u (t + p) ≡ u t) (some : 0 < rank u p) (f k : ℕ) where
  -- t passes and none is left: it is the one looked for
  pub here : (t left : ℕ) → rank u t + left ≡ rank u f + k → u t ≡ true → left ≡ 0 → t ≡ select u p f k
  here t left e y z = is_select u p again some f k t (nth_of u f k t y (omega arith))

  -- t does not pass, or some are left: it lies beyond t
  pub beyond :
      (t left : ℕ) → t ≤ select u p f k → rank u t + left ≡ rank u f + k → (u t ≡ true → left ≡ 0 → ⊥) → t < select u p f k
  beyond t left h e n =
      ⊎_elim (λ w. w)
      (λ w.
      let z : t ≡ select u p f k = omega arith in
      let s = select_is u p again some f k in
      absurd (n (ap u z ∙ s.passes) (omega (arith, s.before, ap (rank u) z))))
      (order t (select u p f k))
