-- The j-th that passes: what select gives has the property Nth, and Nth determines it.
use mathlib.Core.Bool.{Bool, true, false, ◌&&◌}
use mathlib.Core.Path.{◌≡◌, refl, sym, ap, ◌∙◌}
use mathlib.Core.Logic.{⊎_elim}
use Prim.Native.Nat.{ℕ, zero, suc, ◌+◌, ◌-◌, ◌≤◌, ◌<◌}
use native.Mathlib.Nat.{add-zero, add-suc, suc-add, zero-add, sub-zero}
use native.Mathlib.Omega.{arith}
use lib.Dec.{leb, ltb}
use mir.Val.{bool_byte}
use borrow.Author.Tests.{le-leb, lt-ltb, leb-true, ltb-true}
use Rattle.counting.specs.Counting.{rank, count, next, select, among_first}
use Rattle.counting.specs.Scaffold.{Nth, Lists}
use Rattle.counting.proofs.Facts.{order, byte_some, both, both_parts}
use Rattle.counting.proofs.Rank.{rank_zero, rank_on, rank_yes, rank_no, rank_mono, rank_strict, rank_later, rank_unique, rank_none, count_from_zero}

module _ (u : ℕ → Bool) where
  -- it passes, and has j more before it than f has: then it lies from f on
  pub nth_of : (f j t : ℕ) → u t ≡ true → rank u t ≡ rank u f + j → Nth u f j t
  nth_of f j t y e = record {
    late = ⊎_elim (λ w. absurd (omega (arith, rank_strict u t f y w))) (λ w. w) (order t f);
    passes = y;
    before = e;
  }

  pub nth_unique : (f j s t : ℕ) → Nth u f j s → Nth u f j t → s ≡ t
  nth_unique f j s t a b = rank_unique u s t a.passes b.passes (omega arith)

  -- the scan finds the first, where one among the d passes
  next_by : (f d : ℕ) (b : Bool) → u f ≡ b → rank u f < rank u (f + suc d) → (rank u (suc f) < rank u (suc f + d) → Nth u (suc f) 0 (next u d (suc f)))
      → Nth u f 0 (elim b [ true ↦ f | false ↦ next u d (suc f) ])
  next_by f d true e h rest = record { late = omega arith; passes = e; before = omega arith }
  next_by f d false e h rest =
      let r = rest (omega (arith, rank_no u f e, ap (rank u) (add-suc f d ∙ sym (suc-add f d)))) in
      record { late = omega (arith, r.late); passes = r.passes; before = omega (arith, r.before, rank_no u f e) }

  pub next_is : (d f : ℕ) → rank u f < rank u (f + d) → Nth u f 0 (next u d f)
  unfolding next
  next_is zero f h = absurd (omega (arith, ap (rank u) (add-zero f)))
  next_is (suc d) f h = next_by f d (u f) refl h (next_is d (suc f))

  -- a number that passes, with none before it, is the first
  pub next_least : (d f t : ℕ) → f ≤ t → t < f + d → u t ≡ true → ((i : ℕ) → f ≤ i → i < t → u i ≡ false) → t ≡ next u d f
  next_least d f t a b y h =
      let e : f + (t - f) ≡ t = omega arith in
      let z : rank u t ≡ rank u f = sym (ap (rank u) e) ∙ rank_none u f (t - f) (λ i p q. h i p (omega arith)) in
      nth_unique f 0 t (next u d f) (nth_of f 0 t y (omega arith))
      (next_is d f (omega (arith, rank_strict u t (f + d) y b)))

  -- the scan over a stretch of n from f on, as long as so many pass there
  pub select_within : (f n j : ℕ) → rank u f + j < rank u (f + n) → Nth u f j (select u n f j)
  unfolding select
  select_within f n zero h = next_is n f (omega arith)
  select_within f n (suc j) h =
      let s = select_within f n j (omega arith) in
      let t : ℕ = suc (select u n f j) in
      let y : rank u t ≡ rank u f + suc j = omega (arith, s.before, rank_yes u (select u n f j) s.passes) in
      let r = next_is n t (omega (arith, rank_mono u (f + n) (t + n) (omega (arith, s.late)))) in
      record { late = omega (arith, s.late, r.late); passes = r.passes; before = omega (arith, r.before) }

  -- below n the j-th is select's, whatever way it was found
  pub is_select_below : (n j t : ℕ) → j < rank u n → u t ≡ true → rank u t ≡ j → t ≡ select u n 0 j
  is_select_below n j t h y e =
      nth_unique 0 j t (select u n 0 j) (nth_of 0 j t y (omega (arith, rank_zero u)))
      (select_within 0 n j (omega (arith, rank_zero u, ap (rank u) (zero-add n))))

  -- what passes below n only, listed
  pub lists_below : (n : ℕ) → ((t : ℕ) → u t ≡ true → t < n) → Lists (rank u n) (select u n 0) u (rank u)
  lists_below n inside =
      let at : (i : ℕ) → i < rank u n → Nth u 0 i (select u n 0 i) =
      λ i h. select_within 0 n i (omega (arith, rank_zero u, ap (rank u) (zero-add n))) in
      let in-rank : (t : ℕ) → u t ≡ true → rank u t < rank u n = λ t h. rank_strict u t n h (inside t h) in
      record {
        passes = λ i h. (at i h).passes;
        placed = λ i h. omega (arith, rank_zero u, (at i h).before);
        below = in-rank;
        back = λ t h. sym (is_select_below n (rank u t) t (in-rank t h) h refl);
        rises = λ i j l h. rank_later u (select u n 0 i) (select u n 0 j) (omega (arith, (at i (omega arith)).before, (at j h).before));
      }

  -- ---- the first K from f on

  pub among : (f K t : ℕ) → f ≤ t → u t ≡ true → count u f (t - f) < K → among_first u f K t ≡ true
  unfolding among_first
  among f K t h y l = both _ _ (le-leb f t h) (both _ _ y (lt-ltb (count u f (t - f)) K l))

  pub among_parts : (f K t : ℕ) → among_first u f K t ≡ true → (f ≤ t) × (u t ≡ true) × (count u f (t - f) < K)
  unfolding among_first
  among_parts f K t h =
      let a = both_parts (leb f t) (u t && ltb (count u f (t - f)) K) h in
      let b = both_parts (u t) (ltb (count u f (t - f)) K) a.1 in
      (leb-true f t a.0, b.0, ltb-true (count u f (t - f)) K b.1)

  -- counted from 0, the count is the rank
  pub among_from_zero : (K t : ℕ) → among_first u 0 K t ≡ (u t && ltb (rank u t) K)
  unfolding among_first
  among_from_zero K t =
      rw (le-leb 0 t (omega arith)) (ap (λ (n : ℕ). u t && ltb n K) (ap (count u 0) (sub-zero t) ∙ count_from_zero u t))

  -- no rising choice of numbers that pass is ahead of the count
  pub choice_rank : (f K : ℕ) (s : ℕ → ℕ) → f ≤ s 0 → ((i : ℕ) → i < K → u (s i) ≡ true) → ((i : ℕ) → suc i < K → s i < s (suc i))
      → (i : ℕ) → i < K → rank u f + i ≤ rank u (s i)
  choice_rank f K s h y r zero l = omega (arith, rank_mono u f (s 0) h)
  choice_rank f K s h y r (suc i) l =
      omega (arith, choice_rank f K s h y r i (omega arith), rank_strict u (s i) (s (suc i)) (y i (omega arith)) (r i l))

-- a list moved on by s
pub lists_moved : (s n : ℕ) (item : ℕ → ℕ) (test : ℕ → Bool) (place : ℕ → ℕ) → Lists n item test place
    → Lists n (λ i. s + item i) (λ t. leb s t && test (t - s)) (λ t. place (t - s))
lists_moved s n item test place L =
    let off : (i : ℕ) → s + item i - s ≡ item i = λ i. omega arith in
    let parts : (t : ℕ) → (leb s t && test (t - s)) ≡ true → (s ≤ t) × (test (t - s) ≡ true) =
    λ t h. (leb-true s t (both_parts (leb s t) (test (t - s)) h).0, (both_parts (leb s t) (test (t - s)) h).1) in
    record {
      passes = λ i h. both _ _ (le-leb s (s + item i) (omega arith)) (ap test (off i) ∙ L.passes i h);
      placed = λ i h. ap place (off i) ∙ L.placed i h;
      below = λ t h. L.below (t - s) (parts t h).1;
      back = λ t h. omega (arith, L.back (t - s) (parts t h).1, (parts t h).0);
      rises = λ i j l h. omega (arith, L.rises i j l h);
    }

-- ---- looking for the e-th below n one number at a time: d is 1 where x passes

module _ (u : ℕ → Bool) (x d : ℕ) (hd : d ≡ bool_byte (u x)) where
  pub scan_on : rank u (x + 1) ≡ rank u x + d
  scan_on = omega (arith, rank_on u x)

  pub scan_found : (n e left : ℕ) → e < rank u n → rank u x + left ≡ e → left < d → x ≡ select u n 0 e
  scan_found n e left h inv l =
      let w = byte_some (u x) left (omega arith) in
      is_select_below u n e x h w.0 (omega (arith, w.1))
