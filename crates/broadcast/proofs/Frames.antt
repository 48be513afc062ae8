-- In which frames a channel's subframes stand, and which of them a frame has.
use mathlib.Core.Bool.{Bool, true, ◌&&◌}
use mathlib.Core.Path.{◌≡◌, sym, ap, ◌∙◌}
use Prim.Native.Nat.{ℕ, zero, suc, ◌+◌, ◌-◌, ◌*◌, ◌/◌, ◌%◌, ◌≤◌, ◌<◌}
use native.Mathlib.Nat.{add-zero, add-suc, mod-lt}
use native.Mathlib.Omega.{arith}
use lib.Dec.{lit<, eqb, ltb}
use borrow.Author.Tests.{eq-eqb, lt-ltb, eqb-true, ltb-true}
use Rattle.counting.specs.Counting.{rank, select}
use Rattle.counting.proofs.Facts.{both, both_parts}
use Rattle.counting.proofs.Rank.{rank_zero, rank_strict}
use Rattle.counting.proofs.Select.{nth_of, choice_rank}
use Rattle.counting.proofs.Period.{is_select}
use Rattle.grid.specs.Grid.{frame}
use Rattle.sync.specs.Sync.{even, npbch, by_schedule, sib1_copies, sib1_first, sib1_place, sib1}
use Rattle.sync.proofs.Broadcast.{npbch_again, npbch_rank, sib1_again, sib1_rank}
use Rattle.broadcast.specs.Channels.{sib1_frame}

-- all K that pass below n, in rising order: the i-th has i before it
module _ (u : ℕ → Bool) (n K : ℕ) (s : ℕ → ℕ) (all : rank u n ≡ K) (passes : (i : ℕ) → i < K → u (s i) ≡ true)
    (rises : (i : ℕ) → suc i < K → s i < s (suc i)) (below : (i : ℕ) → i < K → s i < n) where
  at_most : (i : ℕ) → i < K → rank u (s i) ≤ i
  at_most i h =
      let e : i + (K - 1 - i) ≡ K - 1 = omega arith in
      omega (
        arith,
        choice_rank u (s i) (K - i) (λ j. s (i + j)) (omega (arith, ap s (add-zero i))) (λ j l. passes (i + j) (omega arith))
            (λ j l. omega (arith, rises (i + j) (omega arith), ap s (add-suc i j))) (K - 1 - i) (omega arith),
        ap (λ (x : ℕ). rank u (s x)) e,
        rank_strict u (s (K - 1)) n (passes (K - 1) (omega arith)) (below (K - 1) (omega arith)),
        all,
      )

  all_ranked : (i : ℕ) → i < K → rank u (s i) ≡ i
  all_ranked i h = omega (arith, at_most i h, choice_rank u 0 K s (omega arith) passes rises i h, rank_zero u)

  -- so it is select's
  selected : ((t : ℕ) → u (t + n) ≡ u t) → (i : ℕ) → i < K → select u n 0 i ≡ s i
  selected again i h =
      sym (is_select u n again (omega (arith, all)) 0 i (s i) (nth_of u 0 i (s i) (passes i h) (omega (arith, all_ranked i h, rank_zero u))))

-- ---- NPBCH: every frame

npbch_own : (i : ℕ) → i < 64 → npbch (10 * i) ≡ true
npbch_own i h = eq-eqb (10 * i % 10) 0 (omega arith)

pub npbch_at : (i : ℕ) → i < 64 → select npbch 640 0 i ≡ 10 * i
npbch_at = selected npbch 640 64 (λ i. 10 * i) npbch_rank npbch_own (λ i h. omega arith) (λ i h. omega arith) npbch_again

pub npbch_before : (t : ℕ) → t < 640 → npbch t ≡ true → rank npbch t ≡ t / 10
npbch_before t h y =
    let z = eqb-true (t % 10) 0 y in
    let e : t ≡ 10 * (t / 10) = omega arith in
    ap (rank npbch) e
    ∙ all_ranked npbch 640 64 (λ i. 10 * i) npbch_rank npbch_own (λ i h. omega arith) (λ i h. omega arith) (t / 10) (omega arith)

-- ---- SIB1: every other frame of sixteen, so many times

-- by the schedule
abbrev pub frame_by : ℕ → ℕ → ℕ → ℕ
frame_by r a i = by_schedule r (16 * (a % 4)) (16 * (a % 2)) (a % 2) + 256 / by_schedule r 4 8 16 * (i / 8) + 2 * (i % 8)

frame_below : (r a i : ℕ) → r < 3 → i < by_schedule r 4 8 16 * 8 → frame_by r a i < 256
frame_below zero a i h l = omega arith
frame_below (suc zero) a i h l = omega arith
frame_below (suc (suc zero)) a i h l = omega arith
frame_below (suc (suc (suc r))) a i h l = absurd (omega arith)

frame_rises : (r a i : ℕ) → r < 3 → frame_by r a i < frame_by r a (suc i)
frame_rises zero a i h = omega arith
frame_rises (suc zero) a i h = omega arith
frame_rises (suc (suc zero)) a i h = omega arith
frame_rises (suc (suc (suc r))) a i h = absurd (omega arith)

place_by_lem : (r a i : ℕ) → r < 3
    → (frame_by r a i + 256 - by_schedule r (16 * (a % 4)) (16 * (a % 2)) (a % 2)) % (256 / by_schedule r 4 8 16) ≡ 2 * (i % 8)
place_by_lem zero a i h = omega arith
place_by_lem (suc zero) a i h = omega arith
place_by_lem (suc (suc zero)) a i h = omega arith
place_by_lem (suc (suc (suc r))) a i h = absurd (omega arith)

-- which of its subframes frame f has, x frames after the first: eight a copy, in every other frame
abbrev pub index_in : ℕ → ℕ → ℕ
index_in every x = 8 * (x / every) + x % every / 2

abbrev pub index_by : ℕ → ℕ → ℕ → ℕ
index_by r a f = by_schedule r (index_in 64 (f - 16 * (a % 4))) (index_in 32 (f - 16 * (a % 2))) (index_in 16 (f - a % 2))

record Held (r a f : ℕ) : Type 0 where
  late : by_schedule r (16 * (a % 4)) (16 * (a % 2)) (a % 2) ≤ f
  below : index_by r a f < by_schedule r 4 8 16 * 8
  back : frame_by r a (index_by r a f) ≡ f

abbrev place_by : ℕ → ℕ → ℕ → ℕ
place_by r a f = (f + 256 - by_schedule r (16 * (a % 4)) (16 * (a % 2)) (a % 2)) % (256 / by_schedule r 4 8 16)

held_by : (r a f : ℕ) → r < 3 → f < 256 → place_by r a f % 2 ≡ 0 → place_by r a f < 16 → Held r a f
held_by zero a f h l e b = record { late = omega arith; below = omega arith; back = omega arith }
held_by (suc zero) a f h l e b = record { late = omega arith; below = omega arith; back = omega arith }
held_by (suc (suc zero)) a f h l e b = record { late = omega arith; below = omega arith; back = omega arith }
held_by (suc (suc (suc r))) a f h l e b = absurd (omega arith)

frame_of : (f : ℕ) → f < 256 → frame (10 * f + 4) ≡ f
frame_of f h = omega arith

fourth : (f : ℕ) → (10 * f + 4) % 10 ≡ 4
fourth f = omega arith

module _ (a k : ℕ) where
  few : k % 3 < 3
  few = mod-lt k (lit< tt)

  own : (i : ℕ) → i < sib1_copies k * 8 → sib1 a k (10 * sib1_frame a k i + 4) ≡ true
  own i h =
      let e : sib1_place a k (frame (10 * sib1_frame a k i + 4)) ≡ 2 * (i % 8) =
      ap (sib1_place a k) (frame_of (sib1_frame a k i) (frame_below (k % 3) a i few h)) ∙ place_by_lem (k % 3) a i few in
      both _ _ (eq-eqb _ 4 (fourth (sib1_frame a k i)))
      (rw e (both _ _ (eq-eqb (2 * (i % 8) % 2) 0 (omega arith)) (lt-ltb (2 * (i % 8)) 16 (omega arith))))

  pub sib1_below : (i : ℕ) → i < sib1_copies k * 8 → sib1_frame a k i < 256
  sib1_below i h = frame_below (k % 3) a i few h

  rises : (i : ℕ) → suc i < sib1_copies k * 8 → 10 * sib1_frame a k i + 4 < 10 * sib1_frame a k (suc i) + 4
  rises i h = omega (arith, frame_rises (k % 3) a i few)

  below : (i : ℕ) → i < sib1_copies k * 8 → 10 * sib1_frame a k i + 4 < 2560
  below i h = omega (arith, sib1_below i h)

  pub sib1_at : (i : ℕ) → i < sib1_copies k * 8 → select (sib1 a k) 2560 0 i ≡ 10 * sib1_frame a k i + 4
  sib1_at = selected (sib1 a k) 2560 (sib1_copies k * 8) (λ i. 10 * sib1_frame a k i + 4) (sib1_rank a k) own rises below (sib1_again a k)

  -- a subframe of it in the first period
  module _ (t : ℕ) (h : t < 2560) (y : sib1 a k t ≡ true) where
    -- in subframe 4, of a frame in which it is
    parts : (t % 10 ≡ 4) × (sib1_place a k (t / 10) % 2 ≡ 0) × (sib1_place a k (t / 10) < 16)
    parts =
        let e : frame t ≡ t / 10 = omega arith in
        let p = both_parts (eqb (t % 10) 4) (even (sib1_place a k (frame t)) && ltb (sib1_place a k (frame t)) 16) y in
        let q = both_parts (even (sib1_place a k (frame t))) (ltb (sib1_place a k (frame t)) 16) p.1 in (
          eqb-true (t % 10) 4 p.0,
          ap (λ (f : ℕ). sib1_place a k f % 2) (sym e) ∙ eqb-true (sib1_place a k (frame t) % 2) 0 q.0,
          omega (arith, ap (sib1_place a k) e, ltb-true (sib1_place a k (frame t)) 16 q.1),
        )

    held : Held (k % 3) a (t / 10)
    held = held_by (k % 3) a (t / 10) few (omega arith) parts.1 parts.2

    -- none is in a frame before the first
    pub sib1_late : sib1_first a k ≤ t / 10
    sib1_late = held.late

    pub sib1_before : rank (sib1 a k) t ≡ index_by (k % 3) a (t / 10)
    sib1_before =
        let j : ℕ = index_by (k % 3) a (t / 10) in
        let e : t ≡ 10 * sib1_frame a k j + 4 = omega (arith, held.back, parts.0) in
        ap (rank (sib1 a k)) e
        ∙ all_ranked (sib1 a k) 2560 (sib1_copies k * 8) (λ i. 10 * sib1_frame a k i + 4) (sib1_rank a k) own rises below j held.below
