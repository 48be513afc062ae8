-- What a chain over a range counts and finds: the numbers of the range that pass a test.
use mathlib.Core.Bool.{Bool, true, false, cond, ◌||◌}
use mathlib.Core.List.{List, ◌∷◌}
use mathlib.Core.Path.{◌≡◌, refl, sym, ap, subst, ◌∙◌}
use Prim.Native.Nat.{ℕ, zero, suc, ◌+◌, ◌*◌, ◌<◌}
use native.Mathlib.Nat.{mul-le-mul, le_refl}
use native.Mathlib.Omega.{arith}
use lib.Dec.{ltb}
use borrow.Author.Tests.{lt-ltb}
use mir.Val.{bool_byte}
use lib.ListN.{length}
use Rattle.std.specs.Prelude.{Some, slice_get}
use Rattle.std.specs.List.{filter, list_any, range_with_len}
use Rattle.counting.specs.Counting.{rank, count, select}
use Rattle.counting.specs.Scaffold.{Nth}
use Rattle.counting.proofs.Rank.{rank_zero, rank_count, rank_yes, rank_no, count_from_zero}
use Rattle.counting.proofs.Select.{is_select_below}
use Rattle.counting.proofs.Period.{is_select, rank_periods}

on : (a : ℕ) → suc a ≡ a + 1
on a = omega arith

module _ (u : ℕ → Bool) where
  -- how many pass
  pub counted : (a n : ℕ) → length (filter u (range_with_len a n)) ≡ count u a n
  unfolding count
  counted a zero = refl
  counted a (suc n) = by (u a) (subst (λ (x : ℕ). length (filter u (range_with_len x n)) ≡ count u (suc a) n) (on a) (counted (suc a) n))
    where
      by : (b : Bool) → length (filter u (range_with_len (a + 1) n)) ≡ count u (suc a) n
          → length (cond b (a ∷ filter u (range_with_len (a + 1) n)) (filter u (range_with_len (a + 1) n))) ≡ bool_byte b + count u (suc a) n
      by true e = omega (arith, e)
      by false e = omega (arith, e)

  -- the j-th of them
  abbrev pub Found : ℕ → ℕ → List ℕ → Type 0
  Found a j xs = (t : ℕ) × (slice_get xs j ≡ Some t) × Nth u a j t

  pub found : (a n j : ℕ) → j < count u a n → Found a j (filter u (range_with_len a n))
  unfolding count
  found a zero j h = absurd (omega arith)
  found a (suc n) j h = by (u a) refl j h (λ k l. subst (λ (x : ℕ). Found (suc a) k (filter u (range_with_len x n))) (on a) (found (suc a) n k l))
    where
      by : (b : Bool) → u a ≡ b → (j : ℕ) → j < bool_byte b + count u (suc a) n
          → ((k : ℕ) → k < count u (suc a) n → Found (suc a) k (filter u (range_with_len (a + 1) n)))
          → Found a j (cond b (a ∷ filter u (range_with_len (a + 1) n)) (filter u (range_with_len (a + 1) n)))
      by true e zero l rest = (a, refl, record { late = omega arith; passes = e; before = omega arith })
      by true e (suc k) l rest =
          let r = rest k (omega arith) in (
            r.0,
            r.1,
            record { late = omega (arith, r.2.late); passes = r.2.passes; before = omega (arith, r.2.before, rank_yes u a e) },
          )
      by false e k l rest =
          let r = rest k (omega arith) in (
            r.0,
            r.1,
            record { late = omega (arith, r.2.late); passes = r.2.passes; before = omega (arith, r.2.before, rank_no u a e) },
          )

  -- from 0 on
  pub range_counts : (n : ℕ) → length (filter u (range_with_len 0 n)) ≡ rank u n
  range_counts n = counted 0 n ∙ count_from_zero u n

  pub range_selects : (n j : ℕ) → j < rank u n → slice_get (filter u (range_with_len 0 n)) j ≡ Some (select u n 0 j)
  range_selects n j h =
      let r = found 0 n j (omega (arith, count_from_zero u n)) in
      r.1 ∙ ap Some (is_select_below u n j r.0 h r.2.passes (omega (arith, r.2.before, rank_zero u)))

  -- from any number on, over so many of the periods after which the test repeats that each has one
  pub period_selects : (p : ℕ) → ((t : ℕ) → u (t + p) ≡ u t) → 0 < rank u p
      → (f k : ℕ) → slice_get (filter u (range_with_len f ((k + 1) * p))) k ≡ Some (select u p f k)
  period_selects p again some f k =
      let n : ℕ = (k + 1) * p in
      let enough : k < count u f n =
      omega (arith, rank_count u n f, rank_periods u p again (k + 1) f, mul-le-mul (le_refl (k + 1)) some) in
      let r = found f n k enough in
      r.1 ∙ ap Some (is_select u p again some f k r.0 r.2)

  -- whether any does
  any_counted : (a n : ℕ) → list_any u (range_with_len a n) ≡ ltb 0 (count u a n)
  unfolding count
  any_counted a zero = refl
  any_counted a (suc n) =
      by (u a) (subst (λ (x : ℕ). list_any u (range_with_len x n) ≡ ltb 0 (count u (suc a) n)) (on a) (any_counted (suc a) n))
    where
      by : (b : Bool) → list_any u (range_with_len (a + 1) n) ≡ ltb 0 (count u (suc a) n)
          → (b || list_any u (range_with_len (a + 1) n)) ≡ ltb 0 (bool_byte b + count u (suc a) n)
      by true e = sym (lt-ltb 0 (1 + count u (suc a) n) (omega arith))
      by false e = e ∙ ap (ltb 0) (omega arith)

  pub range_any : (n : ℕ) → list_any u (range_with_len 0 n) ≡ ltb 0 (rank u n)
  range_any n = any_counted 0 n ∙ ap (ltb 0) (count_from_zero u n)
