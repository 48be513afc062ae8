-- The ones of a mask are the numbers of a span that pass.
use mathlib.Core.Bool.{Bool, true, false, ◌&&◌}
use mathlib.Core.Path.{◌≡◌, refl, sym, ap, ◌∙◌}
use mathlib.Core.Logic.{◌⊎◌, inl, inr, ⊎_elim}
use Prim.Native.Nat.{ℕ, zero, suc, ◌+◌, ◌-◌, ◌*◌, ◌/◌, ◌%◌, ◌^◌, ◌≤◌, ◌<◌}
use native.Mathlib.Nat.{add-zero, add_comm, zero-add, mod-lt, mod-eq_of_lt, mod-one, div-one, div-eq_of_lt, div-div-eq-div-mul, div-add-mod', pow-succ'}
use native.Mathlib.Numerals.{add-one}
use native.Mathlib.Omega.{arith}
use lib.Dec.{lit<, eqb}
use lib.Bits.{bit_and, and_shr, and_mod}
use lib.Count.{ones, ones_step, ones_cat}
use lib.Arith.{digits_lt}
use lib.Pow.{mod-pow-add, mod-mod-pow, shr-shr, field, low, high, pow_mono, pow-add, pow_pos}
use mir.Val.{bool_byte}
use Rattle.counting.specs.Counting.{rank, count}
use Rattle.counting.specs.Bits.{bit_at}
use Rattle.counting.specs.Scaffold.{NthOne}
use Rattle.counting.proofs.Facts.{order}
use Rattle.counting.proofs.Rank.{rank_count, rank_suc, count_same, count_from_zero}

byte_digit : (d : ℕ) → d < 2 → bool_byte (eqb d 1) ≡ d
byte_digit zero h = refl
byte_digit (suc zero) h = refl
byte_digit (suc (suc d)) h = absurd (omega arith)

ones_digit : (d : ℕ) → d < 2 → ones d ≡ d
unfolding ones
ones_digit zero h = refl
ones_digit (suc zero) h = refl
ones_digit (suc (suc d)) h = absurd (omega arith)

pub bit_suc : (m i : ℕ) → bit_at m (suc i) ≡ bit_at (m / 2) i
bit_suc m i = ap (λ (x : ℕ). eqb (x % 2) 1) (ap (λ (x : ℕ). m / x) (pow-succ' 2 i) ∙ sym (div-div-eq-div-mul m 2 (2 ^ i)))

-- the ones among the k lowest digits
pub ones_count : (k m : ℕ) → ones (m % 2 ^ k) ≡ count (bit_at m) 0 k
unfolding count ones
ones_count zero m = ap ones (mod-one m)
ones_count (suc k) m =
    ap (λ (x : ℕ). ones (m % 2 ^ x)) (sym (add-one k)) ∙ ap ones (mod-pow-add m k 1)
    ∙ ones_cat 1 (m / 2 ^ 1 % 2 ^ k) (m % 2 ^ 1) (mod-lt m (lit< tt))
    ∙ omega (
      arith,
      ones_count k (m / 2),
      ones_digit (m % 2) (mod-lt m (lit< tt)),
      byte_digit (m % 2) (mod-lt m (lit< tt)),
      ap (λ (x : ℕ). bool_byte (eqb (x % 2) 1)) (div-one m),
      count_same (bit_at (m / 2)) (bit_at m) k 0 1 (λ i h. sym (bit_suc m (0 + i)) ∙ ap (bit_at m) (omega arith)),
    )

pub ones_low : (k m : ℕ) → ones (m % 2 ^ k) ≡ rank (bit_at m) k
ones_low k m = ones_count k m ∙ count_from_zero (bit_at m) k

pub ones_rank : (k m : ℕ) → m < 2 ^ k → ones m ≡ rank (bit_at m) k
ones_rank k m h = ap ones (sym (mod-eq_of_lt h)) ∙ ones_low k m

-- a span of n numbers from s, whose mask m has digit i for number s + i
module _ (u : ℕ → Bool) (m s n : ℕ) (mask : (i : ℕ) → i < n → bit_at m i ≡ u (s + i)) where
  pub span_part : (k : ℕ) → k ≤ n → rank u s + ones (m % 2 ^ k) ≡ rank u (s + k)
  span_part k h =
      omega (
        arith,
        rank_count u k s,
        ones_count k m,
        count_same (bit_at m) u k 0 s (λ i l. ap (bit_at m) (zero-add i) ∙ mask i (omega arith)),
      )

  pub span_whole : m < 2 ^ n → rank u s + ones m ≡ rank u (s + n)
  span_whole h = rw (← mod-eq_of_lt h) (span_part n (omega arith))

-- a span of n numbers from s, whose mask m is read from the highest of n digits on
module _ (u : ℕ → Bool) (m s n : ℕ) (small : m < 2 ^ n) (mask : (i : ℕ) → i < n → bit_at m (n - 1 - i) ≡ u (s + i)) where
  pub span_top : (k : ℕ) → k ≤ n → rank u s + ones (m / 2 ^ (n - k)) ≡ rank u (s + k)
  span_top zero h =
      let e : n - 0 ≡ n = omega arith in
      omega (arith, ap (λ (y : ℕ). ones (m / 2 ^ y)) e, ap ones (div-eq_of_lt {n = m} {m = 2 ^ n} small), ones_digit 0 (lit< tt), ap (rank u) (add-zero s))
  span_top (suc k) h =
      let x : ℕ = m / 2 ^ (n - suc k) in
      let e : n - suc k + 1 ≡ n - k = omega arith in
      let d : n - 1 - k ≡ n - suc k = omega arith in
      let a : s + suc k ≡ suc (s + k) = omega arith in
      omega (
        arith,
        span_top k (omega arith),
        ones_step x,
        ap ones (shr-shr m (n - suc k) 1 ∙ ap (λ (y : ℕ). m / 2 ^ y) e),
        byte_digit (x % 2) (mod-lt x (lit< tt)),
        ap bool_byte (ap (bit_at m) (sym d) ∙ mask k (omega arith)),
        ap (rank u) a,
        rank_suc u (s + k),
      )

  pub span_all : rank u s + ones m ≡ rank u (s + n)
  span_all =
      let e : n - n ≡ 0 = omega arith in
      omega (arith, span_top n (omega arith), ap ones (ap (λ (y : ℕ). m / 2 ^ y) e ∙ div-one m))

-- the ones above a digit that is 1
pub ones_above : (m k r : ℕ) → NthOne m k r → ones (m / 2 ^ (1 + r)) + (1 + k) ≡ ones m
ones_above m k r d =
    omega (
      arith,
      ap ones (sym (div-add-mod' m (2 ^ (1 + r)))) ∙ ones_cat (1 + r) (m / 2 ^ (1 + r)) (m % 2 ^ (1 + r)) (mod-lt m (pow_pos (1 + r))),
      ones_low (1 + r) m,
      rank_suc (bit_at m) r,
      ap (rank (bit_at m)) (add_comm 1 r ∙ add-one r),
      ap bool_byte d.set,
      d.before,
    )

-- ---- what is set in both of two masks

both_digits : (x y : ℕ) → x < 2 → y < 2 → eqb (bit_and x y) 1 ≡ (eqb x 1 && eqb y 1)
both_digits zero zero hx hy = refl
both_digits zero (suc zero) hx hy = refl
both_digits (suc zero) zero hx hy = refl
both_digits (suc zero) (suc zero) hx hy = refl
both_digits zero (suc (suc y)) hx hy = absurd (omega arith)
both_digits (suc zero) (suc (suc y)) hx hy = absurd (omega arith)
both_digits (suc (suc x)) y hx hy = absurd (omega arith)

pub and_bits : (m n i : ℕ) → bit_at (bit_and m n) i ≡ (bit_at m i && bit_at n i)
and_bits m n i =
    ap (λ (x : ℕ). eqb (x % 2) 1) (and_shr m n i) ∙ ap (λ (x : ℕ). eqb x 1) (and_mod (m / 2 ^ i) (n / 2 ^ i) 1)
    ∙ both_digits (m / 2 ^ i % 2) (n / 2 ^ i % 2) (omega arith) (omega arith)

-- ---- two masks one above the other: x has the w lowest digits

module _ (y x w : ℕ) (small : x < 2 ^ w) where
  front : (i : ℕ) → i < w → (y * 2 ^ w + x) % 2 ^ (1 + i) ≡ x % 2 ^ (1 + i)
  front i h =
      let e : w - (1 + i) + (1 + i) ≡ w = omega arith in
      sym (mod-mod-pow (y * 2 ^ w + x) (w - (1 + i)) (1 + i))
      ∙ ap (λ (j : ℕ). (y * 2 ^ w + x) % 2 ^ j % 2 ^ (1 + i)) e ∙ ap (λ (z : ℕ). z % 2 ^ (1 + i)) (low y w small)

  pub low_digit : (i : ℕ) → i < w → bit_at (y * 2 ^ w + x) i ≡ bit_at x i
  low_digit i h =
      ap (λ (z : ℕ). eqb z 1)
      (sym (field (y * 2 ^ w + x) 1 i) ∙ ap (λ (z : ℕ). z / 2 ^ i) (front i h) ∙ field x 1 i)

  pub high_digit : (i : ℕ) → bit_at (y * 2 ^ w + x) (w + i) ≡ bit_at y i
  high_digit i =
      ap (λ (z : ℕ). eqb (z % 2) 1) (sym (shr-shr (y * 2 ^ w + x) w i) ∙ ap (λ (z : ℕ). z / 2 ^ i) (high y w small))

-- ---- a mask made from the top: its k digits are the first k answers of v, the first the highest

pub record Front (v : ℕ → Bool) (k m : ℕ) : Type 0 where
  pub small : m < 2 ^ k
  pub bits : (x : ℕ) → x < k → bit_at m (k - 1 - x) ≡ v x

pub front_none : (v : ℕ → Bool) → Front v 0 0
front_none v = record { small = omega arith; bits = λ x h. absurd (omega arith) }

-- w digits more
pub front_more : (v : ℕ → Bool) (k w m d : ℕ) → d < 2 ^ w → ((x : ℕ) → x < w → bit_at d (w - 1 - x) ≡ v (k + x)) → Front v k m
    → Front v (k + w) (m * 2 ^ w + d)
front_more v k w m d h e p = record { small = rw (pow-add 2 k w) (digits_lt p.small h); bits = λ x l. at x l (order x k) }
  where
    at : (x : ℕ) → x < k + w → (x < k) ⊎ (k ≤ x) → bit_at (m * 2 ^ w + d) (k + w - 1 - x) ≡ v x
    at x l (inl a) =
        let f : k + w - 1 - x ≡ w + (k - 1 - x) = omega arith in
        ap (bit_at (m * 2 ^ w + d)) f ∙ high_digit m d w h (k - 1 - x) ∙ p.bits x a
    at x l (inr a) =
        let f : k + w - 1 - x ≡ w - 1 - (x - k) = omega arith in
        let g : k + (x - k) ≡ x = omega arith in
        ap (bit_at (m * 2 ^ w + d)) f ∙ low_digit m d w h (w - 1 - (x - k)) (omega arith) ∙ e (x - k) (omega arith) ∙ ap v g

-- a digit that is 1 lies below the width of its number
pub one_below : (w m k r : ℕ) → m < 2 ^ w → NthOne m k r → r < w
one_below w m k r h d = ⊎_elim (λ l. l) (λ l. absurd (none l)) (order r w)
  where
    none : w ≤ r → ⊥
    none l =
        let z : m / 2 ^ r % 2 ≡ 0 = ap (λ (x : ℕ). x % 2) (div-eq_of_lt {n = m} {m = 2 ^ r} (omega (arith, pow_mono {i = w} {j = r} l))) in
        let f : true ≡ false = sym d.set ∙ ap (λ (x : ℕ). eqb x 1) z in
        let g : ◌≡◌ {A = ℕ} 0 1 = cc in
        omega arith
