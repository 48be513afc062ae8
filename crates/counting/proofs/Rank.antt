-- Rank: it is linear in ranges, so ranges split by subtraction.
use mathlib.Core.Bool.{Bool, true, false, not}
use mathlib.Core.Path.{◌≡◌, refl, sym, ap, ap₂, ◌∙◌}
use mathlib.Core.Logic.{⊎_elim}
use Prim.Native.Nat.{ℕ, zero, suc, ◌+◌, ◌-◌, ◌≤◌, ◌<◌}
use native.Mathlib.Nat.{add-zero, add-suc, suc-add, zero-add, add_assoc, le_dest}
use native.Mathlib.Numerals.{add-one}
use native.Mathlib.Omega.{arith}
use mir.Val.{bool_byte}
use Rattle.counting.specs.Counting.{rank, count}
use Rattle.counting.proofs.Facts.{order, byte_le}

module _ (u : ℕ → Bool) where
  pub rank_zero : rank u 0 ≡ 0
  unfolding rank
  rank_zero = refl

  pub rank_suc : (t : ℕ) → rank u (suc t) ≡ rank u t + bool_byte (u t)
  unfolding rank
  rank_suc t = refl

  pub rank_on : (t : ℕ) → rank u (t + 1) ≡ rank u t + bool_byte (u t)
  rank_on t = ap (rank u) (add-one t) ∙ rank_suc t

  pub rank_yes : (t : ℕ) → u t ≡ true → rank u (suc t) ≡ suc (rank u t)
  rank_yes t h = omega (arith, rank_suc t, ap bool_byte h)

  pub rank_no : (t : ℕ) → u t ≡ false → rank u (suc t) ≡ rank u t
  rank_no t h = omega (arith, rank_suc t, ap bool_byte h)

  pub rank_le : (t : ℕ) → rank u t ≤ t
  unfolding rank
  rank_le zero = omega arith
  rank_le (suc t) = omega (arith, rank_le t, byte_le (u t))

  -- ranges split
  pub rank_count : (n f : ℕ) → rank u f + count u f n ≡ rank u (f + n)
  unfolding count
  rank_count zero f = omega (arith, ap (rank u) (add-zero f))
  rank_count (suc n) f = rw (add-suc, ← suc-add) (omega (arith, rank_count n (suc f), rank_suc f))

  pub count_from_zero : (n : ℕ) → count u 0 n ≡ rank u n
  count_from_zero n = omega (arith, rank_count n 0, rank_zero, ap (rank u) (zero-add n))

  pub count_split : (f m n : ℕ) → count u f (m + n) ≡ count u f m + count u (f + m) n
  count_split f m n =
      omega (arith, rank_count (m + n) f, rank_count m f, rank_count n (f + m), ap (rank u) (add_assoc f m n))

  -- what lies in [f, t)
  pub count_between : (f t : ℕ) → f ≤ t → rank u f + count u f (t - f) ≡ rank u t
  count_between f t h =
      let e : f + (t - f) ≡ t = omega arith in
      rank_count (t - f) f ∙ ap (rank u) e

  -- later numbers have at least as many before them
  pub rank_mono : (s t : ℕ) → s ≤ t → rank u s ≤ rank u t
  rank_mono s t h = omega (arith, rank_count (le_dest h).0 s, ap (rank u) (le_dest h).1)

  pub rank_strict : (s t : ℕ) → u s ≡ true → s < t → rank u s < rank u t
  rank_strict s t y h = omega (arith, rank_yes s y, rank_mono (suc s) t h)

  pub rank_later : (s t : ℕ) → rank u s < rank u t → s < t
  rank_later s t h = ⊎_elim (λ w. w) (λ w. omega (arith, rank_mono t s w)) (order s t)

  -- two that pass with as many before them are one
  pub rank_unique : (s t : ℕ) → u s ≡ true → u t ≡ true → rank u s ≡ rank u t → s ≡ t
  rank_unique s t a b e =
      ⊎_elim (λ w. omega (arith, rank_strict s t a w))
      (λ w. ⊎_elim (λ v. omega (arith, rank_strict t s b v)) (λ v. omega arith) (order t s)) (order s t)

  -- a stretch in which none passes
  pub rank_none : (s n : ℕ) → ((i : ℕ) → s ≤ i → i < s + n → u i ≡ false) → rank u (s + n) ≡ rank u s
  rank_none s zero h = ap (rank u) (add-zero s)
  rank_none s (suc n) h =
      ap (rank u) (add-suc s n) ∙ rank_no (s + n) (h (s + n) (omega arith) (omega (arith, add-suc s n)))
      ∙ rank_none s n (λ i a b. h i a (omega (arith, add-suc s n)))

  -- only one passes below n
  pub rank_one : (a n : ℕ) → a < n → u a ≡ true → ((i : ℕ) → i < n → (i ≡ a → ⊥) → u i ≡ false) → rank u n ≡ 1
  rank_one a n l y h =
      let e : suc a + (n - suc a) ≡ n = omega arith in
      omega (
        arith,
        rank_zero,
        rank_none 0 a (λ i p q. h i (omega arith) (λ e. omega arith)),
        ap (rank u) (zero-add a),
        rank_yes a y,
        rank_none (suc a) (n - suc a) (λ i p q. h i (omega arith) (λ e. omega arith)),
        ap (rank u) e,
      )

-- two ranges that two tests treat alike have the same count
pub count_same : (u v : ℕ → Bool) (n f g : ℕ) → ((i : ℕ) → i < n → u (f + i) ≡ v (g + i)) → count u f n ≡ count v g n
unfolding count
count_same u v zero f g h = refl
count_same u v (suc n) f g h =
    ap₂ (λ (x y : ℕ). x + y) (ap bool_byte (ap u (sym (add-zero f)) ∙ h 0 (omega arith) ∙ ap v (add-zero g)))
    (count_same u v n (suc f) (suc g)
    (λ i k. ap u (suc-add f i ∙ sym (add-suc f i)) ∙ h (suc i) (omega arith) ∙ ap v (add-suc g i ∙ sym (suc-add g i))))

pub rank_same : (u v : ℕ → Bool) (n : ℕ) → ((i : ℕ) → i < n → u i ≡ v i) → rank u n ≡ rank v n
rank_same u v n h =
    omega (
      arith,
      count_from_zero u n,
      count_from_zero v n,
      count_same u v n 0 0 (λ i l. ap u (zero-add i) ∙ h i l ∙ ap v (sym (zero-add i))),
    )

-- what passes and what does not are all
pub rank_not : (u : ℕ → Bool) (n : ℕ) → rank u n + rank (λ i. not (u i)) n ≡ n
rank_not u zero = omega (arith, rank_zero u, rank_zero (λ i. not (u i)))
rank_not u (suc n) = omega (arith, rank_not u n, rank_suc u n, rank_suc (λ i. not (u i)) n, one_of (u n))
  where
    one_of : (b : Bool) → bool_byte b + bool_byte (not b) ≡ 1
    one_of true = refl
    one_of false = refl
