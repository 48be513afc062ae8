-- Powers of two: their bounds, and that they have one binary digit that is 1.
use mathlib.Core.Bool.{true, false, ◌&&◌}
use mathlib.Core.Path.{◌≡◌, refl, sym}
use mathlib.Core.Logic.{⊎_elim}
use Prim.Native.Nat.{ℕ, zero, suc, ◌*◌, ◌^◌, ◌≤◌, ◌<◌}
use native.Mathlib.Nat.{pow-succ'}
use native.Mathlib.Omega.{arith}
use lib.Count.{ones}
use lib.Dec.{T, leb, eqb}
use lib.Pow.{pow_pos}
use borrow.Author.Tests.{le-leb, lt-leb, ne_eqb, eqb-true}
use Rattle.counting.specs.Bits.{power_below}
use Rattle.counting.proofs.Facts.{order, each, each_at, alike, alike_eq, either_case}

no_power : (n x : ℕ) → 2 ^ n < 2 * x → power_below n x ≡ false
no_power zero x h = refl
no_power (suc n) x h = rw (ne_eqb x (2 ^ n) (λ e. omega (arith, pow-succ' 2 n)), no_power n x (omega (arith, pow-succ' 2 n))) refl

-- up to 2048, a number with one digit set is a power of two
one_digit_table : T (each 2049 (λ x. alike (eqb (ones x) 1) (power_below 12 x)))
unfolding ones
one_digit_table = tt

pub one_digit_below : (x : ℕ) → (leb x 2048 && eqb (ones x) 1) ≡ power_below 12 x
one_digit_below x = ⊎_elim above below (order 2048 x)
  where
    above : 2048 < x → (leb x 2048 && eqb (ones x) 1) ≡ power_below 12 x
    above h = rw (lt-leb x 2048 h) (sym (no_power 12 x (omega arith)))

    below : x ≤ 2048 → (leb x 2048 && eqb (ones x) 1) ≡ power_below 12 x
    below h = rw (le-leb x 2048 h) (alike_eq (eqb (ones x) 1) (power_below 12 x) (each_at 2049 (λ x. alike (eqb (ones x) 1) (power_below 12 x)) one_digit_table x (omega arith)))

pub power_bounds : (n x : ℕ) → power_below n x ≡ true → (1 ≤ x) × (2 * x ≤ 2 ^ n)
power_bounds zero x h = let z : ◌≡◌ {A = ℕ} 0 1 = cc in absurd (omega arith)
power_bounds (suc n) x h =
    ⊎_elim
    (λ e.
    let f = eqb-true x (2 ^ n) e in
    (omega (arith, pow_pos n), omega (arith, pow-succ' 2 n)))
    (λ r.
    let b = power_bounds n x r in
    (b.0, omega (arith, b.1, pow-succ' 2 n)))
    (either_case (eqb x (2 ^ n)) (power_below n x) h)
