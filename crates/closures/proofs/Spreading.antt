-- What four closures leave, beside a fifth whose places are spread evenly over their periods: in n of their longest periods each place comes at each of n places
-- of the fifth once.
use mathlib.Core.Bool.{Bool, true, false, not, ◌&&◌}
use mathlib.Core.Path.{◌≡◌, refl, sym, ap, ap₂, ◌∙◌}
use mathlib.Core.Logic.{⊎_elim}
use Prim.Native.Nat.{ℕ, zero, suc, ◌+◌, ◌-◌, ◌*◌, ◌/◌, ◌%◌, ◌≤◌, ◌<◌}
use native.Mathlib.Nat.{zero-add, zero-mul, mul-zero, mul-one, add-mul, mul-add, one-mul, mul_assoc, mod-lt, add-mul-div_right, mul-le-mul_right}
use native.Mathlib.Numerals.{add-one}
use native.Mathlib.Omega.{arith}
use lib.Dec.{ltb}
use lib.Arith.{mod-mul, digits_lt}
use borrow.Author.Tests.{lt-ltb, le-ltb}
use mir.Val.{bool_byte}
use Rattle.counting.specs.Counting.{rank, count}
use Rattle.counting.proofs.Facts.{order, truth}
use Rattle.counting.proofs.Rank.{rank_zero, rank_suc, rank_count, rank_none, rank_same}
use Rattle.counting.proofs.Range.{and_none}
use Rattle.counting.proofs.Period.{repeats_times}
use Rattle.closures.specs.declared.Closure.{Closure}
use Rattle.closures.specs.declared.Closures.{Closures}
use Rattle.closures.specs.Closures.{is_closed, leaves_open, clear, is_free}

-- ---- sums

sum : (ℕ → ℕ) → ℕ → ℕ
sum f zero = 0
sum f (suc n) = sum f n + f n

sum_plus : (f g : ℕ → ℕ) (n : ℕ) → sum (λ k. f k + g k) n ≡ sum f n + sum g n
unfolding sum
sum_plus f g zero = refl
sum_plus f g (suc n) = omega (arith, sum_plus f g n)

sum_same : (f g : ℕ → ℕ) (n : ℕ) → ((k : ℕ) → f k ≡ g k) → sum f n ≡ sum g n
unfolding sum
sum_same f g zero h = refl
sum_same f g (suc n) h = ap₂ ◌+◌ (sum_same f g n h) (h n)

sum_none : (n : ℕ) → sum (λ k. 0) n ≡ 0
unfolding sum
sum_none zero = refl
sum_none (suc n) = omega (arith, sum_none n)

sum_rank : (u : ℕ → Bool) (n : ℕ) → sum (λ k. bool_byte (u k)) n ≡ rank u n
unfolding sum
sum_rank u zero = sym (rank_zero u)
sum_rank u (suc n) = ap (λ (x : ℕ). x + bool_byte (u n)) (sum_rank u n) ∙ sym (rank_suc u n)

-- a count by columns, one more column
count_one : (u : ℕ → Bool) (f j : ℕ) → count u f (suc j) ≡ count u f j + bool_byte (u (f + j))
count_one u f j =
    ap (count u f) (sym (add-one j))
    ∙ omega (arith, rank_count u (j + 1) f, rank_count u j f, ap (rank u) (shift f j), rank_suc u (f + j))
  where
    shift : (f j : ℕ) → f + (j + 1) ≡ suc (f + j)
    shift f j = omega arith

module _ (u : ℕ → Bool) (w : ℕ) where
  -- a rank by rows
  by_rows : (n : ℕ) → rank u (n * w) ≡ sum (λ k. count u (k * w) w) n
  unfolding sum
  by_rows zero = ap (rank u) (zero-mul w) ∙ rank_zero u
  by_rows (suc n) =
      let e : suc n * w ≡ n * w + w = omega (arith, add-mul n 1 w, one-mul w, ap (λ (x : ℕ). x * w) (add-one n)) in
      ap (rank u) e ∙ sym (rank_count u w (n * w)) ∙ ap (λ (x : ℕ). x + count u (n * w) w) (by_rows n)

  -- where each column has m times what v has there
  module _ (v : ℕ → Bool) (n m : ℕ) (col : (j : ℕ) → rank (λ k. u (k * w + j)) n ≡ m * bool_byte (v j)) where
    by_columns : (j : ℕ) → sum (λ k. count u (k * w) j) n ≡ m * rank v j
    unfolding count
    by_columns zero = sum_none n ∙ sym (ap (λ (x : ℕ). m * x) (rank_zero v) ∙ mul-zero m)
    by_columns (suc j) =
        sum_same _ _ n (λ k. count_one u (k * w) j)
        ∙ sum_plus (λ k. count u (k * w) j) (λ k. bool_byte (u (k * w + j))) n
        ∙ ap₂ ◌+◌ (by_columns j) (sum_rank (λ k. u (k * w + j)) n ∙ col j)
        ∙ sym (ap (λ (x : ℕ). m * x) (rank_suc v j) ∙ mul-add m (rank v j) (bool_byte (v j)))

    pub rank_columns : rank u (n * w) ≡ m * rank v w
    rank_columns = by_rows n ∙ by_columns w

-- ---- a fifth closure of n parts of e numbers, the first n - m of them closed; the longest period of the others is M such parts

module _ (gap : Closure) (b : Closures) (n m e times : ℕ) (part : 0 < e) (parts : 0 < n) (hp : gap.period ≡ n * e) (hc : gap.closed ≡ (n - m) * e)
    (spread : (c : ℕ) → rank (λ k. not (ltb ((c + k * times) % n) (n - m))) n ≡ m) (again : (t : ℕ) → clear b (t + times * e) ≡ clear b t) where
  -- a place of the fifth closure, by its part
  module _ (x : ℕ) where
    abbrev y : ℕ
    y = x + gap.phase

    abbrev d : ℕ
    d = y / e % n

    whole : y % gap.period ≡ d * e + y % e
    whole = ap (λ (z : ℕ). y % z) hp ∙ mod-mul y parts part

    below : d < n - m → ltb (y % gap.period) gap.closed ≡ ltb d (n - m)
    below h = lt-ltb (y % gap.period) gap.closed (omega (arith, whole, hc, digits_lt h (mod-lt y part))) ∙ sym (lt-ltb d (n - m) h)

    above : n - m ≤ d → ltb (y % gap.period) gap.closed ≡ ltb d (n - m)
    above h = le-ltb (y % gap.period) gap.closed (omega (arith, whole, hc, mul-le-mul_right e h)) ∙ sym (le-ltb d (n - m) h)

    by_part : leaves_open gap x ≡ not (ltb d (n - m))
    unfolding leaves_open is_closed
    by_part = ap not (⊎_elim below above (order d (n - m)))

  col : (j : ℕ) → rank (λ k. is_free gap b (k * (times * e) + j)) n ≡ m * bool_byte (clear b j)
  unfolding is_free
  col j =
      rank_same _ (λ k. not (ltb ((((j + gap.phase) / e) + k * times) % n) (n - m)) && clear b j) n
      (λ k h. ap₂ ◌&&◌ (at k) (ap (clear b) (turn k) ∙ repeats_times (clear b) (times * e) again k j))
      ∙ ⊎_elim
      (λ (h : clear b j ≡ true). rw h (rank_same _ _ n (λ k l. and_all _) ∙ spread ((j + gap.phase) / e) ∙ sym (mul-one m)))
      (λ (h : clear b j ≡ false). rw h (none ∙ sym (mul-zero m)))
      (truth (clear b j))
    where
      turn : (k : ℕ) → k * (times * e) + j ≡ j + k * (times * e)
      turn k = omega arith

      at : (k : ℕ) → leaves_open gap (k * (times * e) + j) ≡ not (ltb ((((j + gap.phase) / e) + k * times) % n) (n - m))
      at k =
          let d : k * (times * e) + j + gap.phase ≡ j + gap.phase + k * times * e = omega (arith, mul_assoc k times e) in
          by_part (k * (times * e) + j)
          ∙ ap (λ (z : ℕ). not (ltb (z % n) (n - m))) (ap (λ (z : ℕ). z / e) d ∙ add-mul-div_right (j + gap.phase) (k * times) part)

      and_all : (x : Bool) → (x && true) ≡ x
      and_all true = refl
      and_all false = refl

      none : rank (λ k. not (ltb ((((j + gap.phase) / e) + k * times) % n) (n - m)) && false) n ≡ 0
      none = let t : ℕ → Bool = λ k. not (ltb ((((j + gap.phase) / e) + k * times) % n) (n - m)) && false in
          ap (rank t) (sym (zero-add n)) ∙ rank_none t 0 n (λ i a l. and_none (not (ltb ((((j + gap.phase) / e) + i * times) % n) (n - m)))) ∙ rank_zero t

  -- so many are free in n of the longest periods
  pub spread_free : rank (is_free gap b) (n * (times * e)) ≡ m * rank (clear b) (times * e)
  spread_free = rank_columns (is_free gap b) (times * e) (clear b) n m col
