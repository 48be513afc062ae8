-- A test that repeats with a period of p numbers: a period adds a constant, and where one number passes, the j-th exists for every j.
use mathlib.Core.Bool.{Bool, true}
use mathlib.Core.Path.{◌≡◌, sym, ap, ◌∙◌}
use mathlib.Core.Logic.{⊎_elim}
use Prim.Native.Nat.{ℕ, zero, suc, ◌+◌, ◌-◌, ◌*◌, ◌/◌, ◌%◌, ◌≤◌, ◌<◌}
use native.Mathlib.Nat.{add-zero, suc-add, zero-add, add_assoc, mod-lt, mod-add-div', zero-mul, suc-mul, mul-le-mul_left, sub-zero}
use native.Mathlib.Omega.{arith}
use mir.Val.{bool_byte}
use Rattle.counting.specs.Counting.{rank, count, next, select, among_first}
use Rattle.counting.specs.Scaffold.{Nth, Lists}
use Rattle.counting.proofs.Facts.{order}
use Rattle.counting.proofs.Rank.{rank_zero, rank_suc, rank_yes, rank_count, rank_strict, rank_later, count_between, count_from_zero}
use Rattle.counting.proofs.Select.{nth_of, nth_unique, next_is, among, among_parts, choice_rank}

module _ (u : ℕ → Bool) (p : ℕ) (repeats : (t : ℕ) → u (t + p) ≡ u t) where
  pub rank_period : (t : ℕ) → rank u (t + p) ≡ rank u t + rank u p
  rank_period zero = omega (arith, rank_zero u, ap (rank u) (zero-add p))
  rank_period (suc t) =
      omega (arith, ap (rank u) (suc-add t p), rank_suc u (t + p), rank_suc u t, ap bool_byte (repeats t), rank_period t)

  pub rank_periods : (k t : ℕ) → rank u (t + k * p) ≡ rank u t + k * rank u p
  rank_periods zero t = rw (zero-mul p, zero-mul (rank u p)) (omega (arith, ap (rank u) (add-zero t)))
  rank_periods (suc k) t =
      rw (suc-mul k p, suc-mul k (rank u p), ← add_assoc t (k * p) p)
      (omega (arith, rank_period (t + k * p), rank_periods k t))

  pub rank_whole : (k : ℕ) → rank u (k * p) ≡ k * rank u p
  rank_whole k = omega (arith, rank_zero u, rank_periods k 0, ap (rank u) (zero-add (k * p)))

  pub repeats_times : (k t : ℕ) → u (t + k * p) ≡ u t
  repeats_times zero t = ap u (ap (λ (x : ℕ). t + x) (zero-mul p) ∙ add-zero t)
  repeats_times (suc k) t =
      ap u (ap (λ (x : ℕ). t + x) (suc-mul k p) ∙ sym (add_assoc t (k * p) p)) ∙ repeats (t + k * p) ∙ repeats_times k t

  -- whole periods by division
  pub rank_split : (t : ℕ) → rank u t ≡ t / p * rank u p + rank u (t % p)
  rank_split t = omega (arith, rank_periods (t / p) (t % p), ap (rank u) (mod-add-div' t p))

  pub test_split : (t : ℕ) → u t ≡ u (t % p)
  test_split t = ap u (sym (mod-add-div' t p)) ∙ repeats_times (t / p) (t % p)

  -- any p in a row have as many as the first p
  pub count_window : (f : ℕ) → count u f p ≡ rank u p
  count_window f = omega (arith, rank_count u p f, rank_period f)

  -- one that passes anywhere, and every period has one
  pub some_of : (t : ℕ) → 0 < p → u t ≡ true → 0 < rank u p
  some_of t h y = omega (arith, rank_strict u (t % p) p (sym (test_split t) ∙ y) (mod-lt t h))

  module _ (some : 0 < rank u p) where
    pub next_first : (f : ℕ) → Nth u f 0 (next u p f)
    next_first f = next_is u p f (omega (arith, rank_period f))

    pub select_is : (f j : ℕ) → Nth u f j (select u p f j)
    unfolding select
    select_is f zero = next_first f
    select_is f (suc j) =
        let s = select_is f j in
        let n = next_first (suc (select u p f j)) in
        record {
          late = omega (arith, s.late, n.late);
          passes = n.passes;
          before = omega (arith, s.before, n.before, rank_yes u (select u p f j) s.passes);
        }

    -- whatever way the j-th was found, it is select's
    pub is_select : (f j t : ℕ) → Nth u f j t → t ≡ select u p f j
    is_select f j t h = nth_unique u f j t (select u p f j) h (select_is f j)

    pub select_rises : (f i j : ℕ) → i < j → select u p f i < select u p f j
    select_rises f i j h =
        rank_later u (select u p f i) (select u p f j) (omega (arith, (select_is f i).before, (select_is f j).before))

    -- none is skipped: each that passes from f on is selected, at its count
    pub select_back : (f t : ℕ) → f ≤ t → u t ≡ true → select u p f (count u f (t - f)) ≡ t
    select_back f t h y =
        sym (is_select f (count u f (t - f)) t (record { late = h; passes = y; before = omega (arith, count_between u f t h) }))

    pub count_select : (f j : ℕ) → count u f (select u p f j - f) ≡ j
    count_select f j = omega (arith, count_between u f (select u p f j) (select_is f j).late, (select_is f j).before)

    -- the first K from f on, listed
    pub lists : (f K : ℕ) → Lists K (select u p f) (among_first u f K) (λ t. count u f (t - f))
    lists f K = record {
      passes = λ i h. among u f K (select u p f i) (select_is f i).late (select_is f i).passes (omega (arith, count_select f i));
      placed = λ i h. count_select f i;
      below = λ t h. (among_parts u f K t h).2;
      back = λ t h. select_back f t (among_parts u f K t h).0 (among_parts u f K t h).1;
      rises = λ i j l h. select_rises f i j l;
    }

    -- the first K of all
    pub lists_from_zero : (K : ℕ) → Lists K (select u p 0) (among_first u 0 K) (rank u)
    lists_from_zero K =
        let L = lists 0 K in
        let e : (t : ℕ) → count u 0 (t - 0) ≡ rank u t = λ t. ap (count u 0) (sub-zero t) ∙ count_from_zero u t in
        record {
          passes = L.passes;
          placed = λ i h. sym (e (select u p 0 i)) ∙ L.placed i h;
          below = λ t h. omega (arith, e t, L.below t h);
          back = λ t h. ap (select u p 0) (sym (e t)) ∙ L.back t h;
          rises = L.rises;
        }

    -- counting on from the j-th is counting from f
    pub select_from : (f i j : ℕ) → select u p (select u p f i) j ≡ select u p f (i + j)
    select_from f i j =
        is_select f (i + j) (select u p (select u p f i) j)
        (nth_of u f (i + j) (select u p (select u p f i) j) (select_is (select u p f i) j).passes
        (omega (arith, (select_is f i).before, (select_is (select u p f i) j).before)))

    -- a bound, for numbers that have to fit
    pub select_below : (f j : ℕ) → select u p f j < f + (j + 1) * p
    select_below f j =
        rank_later u (select u p f j) (f + (j + 1) * p)
        (omega (arith, (select_is f j).before, rank_periods (j + 1) f, mul-le-mul_left (j + 1) some))

    -- the first K of them lie within q periods, where q periods have K
    pub select_span : (f K q : ℕ) → K ≤ q * rank u p → 0 < K → select u p f (K - 1) < select u p f 0 + q * p
    select_span f K q h k =
        rank_later u (select u p f (K - 1)) (select u p f 0 + q * p)
        (omega (arith, (select_is f 0).before, (select_is f (K - 1)).before, rank_periods q (select u p f 0)))

    -- no rising choice from f on is ahead of it
    pub select_first : (f K : ℕ) (s : ℕ → ℕ) → f ≤ s 0 → ((i : ℕ) → i < K → u (s i) ≡ true) → ((i : ℕ) → suc i < K → s i < s (suc i))
        → (i : ℕ) → i < K → select u p f i ≤ s i
    select_first f K s h y r i l =
        ⊎_elim (λ w. absurd (omega (arith, rank_strict u (s i) (select u p f i) (y i l) w, (select_is f i).before, choice_rank u f K s h y r i l)))
        (λ w. w) (order (s i) (select u p f i))

    -- the quick way: counted from 0, whole periods by division
    pub select_jump : (f j r : ℕ) → u r ≡ true → rank u r ≡ (rank u f + j) % rank u p → r + (rank u f + j) / rank u p * p ≡ select u p f j
    select_jump f j r y e =
        is_select f j (r + (rank u f + j) / rank u p * p)
        (nth_of u f j (r + (rank u f + j) / rank u p * p) (repeats_times ((rank u f + j) / rank u p) r ∙ y)
        (omega (arith, rank_periods ((rank u f + j) / rank u p) r, mod-add-div' (rank u f + j) (rank u p))))

-- select does not depend on the period by which it is looked for
pub select_same : (u : ℕ → Bool) (p q : ℕ) (rp : (t : ℕ) → u (t + p) ≡ u t) (rq : (t : ℕ) → u (t + q) ≡ u t) → 0 < rank u p → 0 < rank u q
    → (f j : ℕ) → select u p f j ≡ select u q f j
select_same u p q rp rq hp hq f j = is_select u q rq hq f j (select u p f j) (select_is u p rp hp f j)
