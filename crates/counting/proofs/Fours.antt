-- Four digits of a number at a time, by tests computed at the numbers below 16.
use mathlib.Core.Bool.{Bool, true, false, cond, not, ◌&&◌, ◌||◌}
use mathlib.Core.Path.{◌≡◌, refl, sym, ap, subst, ◌∙◌}
use Prim.Native.Nat.{ℕ, ◌+◌, ◌*◌, ◌/◌, ◌%◌, ◌^◌, ◌<◌}
use native.Mathlib.Nat.{div-add-mod', mod-lt}
use native.Mathlib.Omega.{arith}
use lib.Count.{ones, ones-le}
use lib.Dec.{T, lit<, eqb, ltb, eqb→eq, ltb→lt}
use lib.Pow.{shr-shr}
use borrow.Author.Tests.{lt-ltb}
use Rattle.counting.specs.Counting.{rank}
use Rattle.counting.specs.Bits.{bit_at}
use Rattle.counting.specs.Scaffold.{NthOne}
use Rattle.counting.proofs.Facts.{each, each_at}
use Rattle.counting.proofs.Ones.{low_digit, span_part, span_whole, ones_low}

-- ---- the tables

ones_table : T (each 16 (λ x. eqb (0x4332322132212110 / 2 ^ (4 * x) % 16) (ones x)))
unfolding ones
ones_table = tt

pub ones_packed : (x : ℕ) → x < 16 → 0x4332322132212110 / 2 ^ (4 * x) % 16 ≡ ones x
ones_packed x h =
    eqb→eq (0x4332322132212110 / 2 ^ (4 * x) % 16) (ones x)
    (each_at 16 (λ x. eqb (0x4332322132212110 / 2 ^ (4 * x) % 16) (ones x)) ones_table x h)

-- the two places tables, as one
abbrev pub place_of : Bool → ℕ → ℕ → ℕ
place_of below x k = cond below 0x2409080204010000 0xe439380e340d0c03 / 2 ^ (8 * (x % 8) + 2 * k) % 4

abbrev placed : ℕ → ℕ → Bool
placed x k =
    not (ltb k (ones x)) || (ltb (place_of (ltb x 8) x k) 4 && (bit_at x (place_of (ltb x 8) x k) && eqb (rank (bit_at x) (place_of (ltb x 8) x k)) k))

places_table : T (each 16 (λ x. each 4 (placed x)))
unfolding ones rank
places_table = tt

from_test : (a b c d : Bool) → T a → T (not a || (b && (c && d))) → T b × (c ≡ true) × T d
from_test true true true true s t = (tt, refl, tt)
from_test true true true false s t = absurd t
from_test true true false d s t = absurd t
from_test true false c d s t = absurd t
from_test false b c d s t = absurd s

pub place_packed : (below : Bool) (x k : ℕ) → below ≡ ltb x 8 → x < 16 → k < ones x → NthOne x k (place_of below x k) × (place_of below x k < 4)
place_packed below x k e h l =
    let four : k < 4 = omega (arith, ones-le 4 x h) in
    let p = place_of (ltb x 8) x k in
    let r = from_test (ltb k (ones x)) (ltb p 4) (bit_at x p) (eqb (rank (bit_at x) p) k) (subst T (sym (lt-ltb k (ones x) l)) tt) (each_at 4 (placed x) (each_at 16 (λ x. each 4 (placed x)) places_table x h) k four) in
    rw e (record { set = r.1; before = eqb→eq (rank (bit_at x) p) k r.2 }, ltb→lt p 4 r.0)

-- ---- four digits of m, from digit i on

module _ (m i rest : ℕ) (e : rest ≡ m / 2 ^ i) where
  four_digits : (j : ℕ) → j < 4 → bit_at (rest % 16) j ≡ bit_at m (i + j)
  four_digits j h =
      sym (low_digit (rest / 16) (rest % 16) 4 (mod-lt rest (lit< tt)) j h)
      ∙ ap (λ (x : ℕ). bit_at x j) (div-add-mod' rest 16 ∙ e) ∙ ap (λ (x : ℕ). eqb (x % 2) 1) (shr-shr m i j)

  pub four_on : rest / 16 ≡ m / 2 ^ (i + 4)
  four_on = ap (λ (x : ℕ). x / 16) e ∙ shr-shr m i 4

  pub four_passed : rank (bit_at m) i + ones (rest % 16) ≡ rank (bit_at m) (i + 4)
  four_passed = span_whole (bit_at m) (rest % 16) i 4 four_digits (mod-lt rest (lit< tt))

  pub four_found : (k left r : ℕ) → rank (bit_at m) i + left ≡ k → NthOne (rest % 16) left r × (r < 4) → NthOne m k (i + r)
  four_found k left r f n = record {
    set = sym (four_digits r n.1) ∙ n.0.set;
    before = omega (arith, span_part (bit_at m) (rest % 16) i 4 four_digits r (omega (arith, n.1)), ones_low r (rest % 16), n.0.before);
  }
