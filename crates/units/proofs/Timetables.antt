-- A listed schedule counted in units of 2^k frames, k that of the shortest distance of copies: its numbers, and its places.
use mathlib.Core.Bool.{Bool, true, false, ◌&&◌}
use mathlib.Core.Path.{◌≡◌, refl, sym, ap, subst, ◌∙◌}
use mathlib.Core.Logic.{⊎_elim}
use Prim.Native.Nat.{ℕ, min, max, ◌+◌, ◌-◌, ◌*◌, ◌/◌, ◌^◌, ◌≤◌}
use native.Mathlib.Nat.{mul_assoc, mul_comm, mod-lt, le_of_mul-le-mul_left}
use native.Mathlib.Omega.{arith}
use lib.Count.{ones, count_trailing_zeros}
use lib.Dec.{T, eqb, leb, eqb→eq}
use lib.Pow.{pow-add, pow_pos, pow_mono}
use borrow.Author.Tests.{eqb-true, leb-true}
use Rattle.counting.specs.Listed.{is_one_of}
use Rattle.counting.proofs.Facts.{each, each_at, both_parts, truth}
use Rattle.counting.proofs.Listed.{of_list}
use Rattle.messages.specs.declared.Schedule.{Schedule}
use Rattle.messages.specs.declared.Messages.{Messages}
use Rattle.units.specs.declared.Logs.{Logs}
use Rattle.units.specs.declared.Lane.{Lane}
use Rattle.messages.specs.Messages.{windows, periods, distances, window_frames, is_listed, is_read, are_listed}
use Rattle.units.specs.Quick.{HasLog, log_if, logs_with, logs_of, shortest_of, longest_of, InUnits, lane_of, timetable_of, Ranged, Turned, Sized}
use Rattle.messages.proofs.Repeating.{Turns, AllTurns}
use Rattle.messages.proofs.Listing.{window, Numbers, numbers, Listed, listed}

-- ---- powers

pub split : (k l : ℕ) → k ≤ l → 2 ^ k * 2 ^ (l - k) ≡ 2 ^ l
split k l h = let e : k + (l - k) ≡ l = omega arith in sym (pow-add 2 k (l - k)) ∙ ap (λ (n : ℕ). 2 ^ n) e

-- ten frames' worth of units
pub ten_split : (k l : ℕ) → k ≤ l → 10 * 2 ^ k * 2 ^ (l - k) ≡ 10 * 2 ^ l
ten_split k l h = mul_assoc 10 (2 ^ k) (2 ^ (l - k)) ∙ ap (λ (n : ℕ). 10 * n) (split k l h)

-- ---- which powers of two the listed numbers are

abbrev is_power : ℕ → ℕ → ℕ → Bool
is_power from to x = (leb from (ones (x - 1)) && leb (ones (x - 1)) to) && (eqb (2 ^ ones (x - 1)) x && eqb (count_trailing_zeros 64 x) (ones (x - 1)))

pub record Power (from to x : ℕ) : Type 0 where
  pub least : from ≤ ones (x - 1)
  pub most : ones (x - 1) ≤ to
  pub is : 2 ^ ones (x - 1) ≡ x
  pub log : HasLog x

power : (from to x : ℕ) → is_power from to x ≡ true → Power from to x
power from to x h =
    let a = both_parts (leb from (ones (x - 1)) && leb (ones (x - 1)) to) (eqb (2 ^ ones (x - 1)) x && eqb (count_trailing_zeros 64 x) (ones (x - 1))) h in
    let b = both_parts (leb from (ones (x - 1))) (leb (ones (x - 1)) to) a.0 in
    let c = both_parts (eqb (2 ^ ones (x - 1)) x) (eqb (count_trailing_zeros 64 x) (ones (x - 1))) a.1 in
    record {
      least = leb-true from (ones (x - 1)) b.0;
      most = leb-true (ones (x - 1)) to b.1;
      is = eqb-true (2 ^ ones (x - 1)) x c.0;
      log = eqb-true (count_trailing_zeros 64 x) (ones (x - 1)) c.1;
    }

pub period_power : (p : ℕ) → is_one_of periods p ≡ true → Power 6 12 p
unfolding ones count_trailing_zeros
period_power p h = power 6 12 p (of_list (is_power 6 12) periods refl p h)

pub every_power : (e : ℕ) → is_one_of distances e ≡ true → Power 1 4 e
unfolding ones count_trailing_zeros
every_power e h = power 1 4 e (of_list (is_power 1 4) distances refl e h)

-- windows last whole units
abbrev in_units : ℕ → Bool
in_units w = each 5 (λ k. eqb (2 ^ k * (w / 10 / 2 ^ k)) (w / 10))

pub window_units_lem : (w k : ℕ) → is_one_of windows w ≡ true → k ≤ 4 → 2 ^ k * (w / 10 / 2 ^ k) ≡ w / 10
window_units_lem w k h l =
    let t : T (in_units w) = to_T (in_units w) (of_list in_units windows refl w h) in
    eqb→eq _ _ (each_at 5 (λ k. eqb (2 ^ k * (w / 10 / 2 ^ k)) (w / 10)) t k (omega arith))
  where
    to_T : (b : Bool) → b ≡ true → T b
    to_T true e = tt
    to_T false e = absurd (let z : ◌≡◌ {A = ℕ} 0 1 = cc in omega arith)

-- ---- one entry

-- what is known of an entry that is read, beside k
pub record Entry (ms : Messages) (s : Schedule) (k : ℕ) : Type 0 where
  pub numbers : Numbers (window_frames ms) s
  pub period : Power 6 12 s.period
  pub every : Power 1 4 s.every
  pub some : 1 ≤ k
  pub few : k ≤ ones (s.every - 1)
  pub units : 2 ^ k * (window_frames ms / 2 ^ k) ≡ window_frames ms
  pub frames : 10 * window_frames ms ≡ ms.window

module _ (ms : Messages) (s : Schedule) (k : ℕ) (E : Entry ms s k) where
  abbrev lp : ℕ
  lp = ones (s.period - 1)

  pub in_units_lem : InUnits s k
  in_units_lem = record {
    period = E.period.log;
    every = E.every.log;
    period_units = omega (arith, E.few, E.every.most, E.period.least);
    period_small = E.period.most;
    every_units = E.few;
  }

  -- the window is no longer than the period
  pub window_fits : window_frames ms / 2 ^ k ≤ 2 ^ (lp - k)
  window_fits =
      le_of_mul-le-mul_left {k = 2 ^ k}
      (omega (arith, E.units, E.numbers.window_to, E.period.is, split k lp in_units_lem.period_units)) (pow_pos k)

  pub lane_ranged : (before : ℕ) → Ranged (lane_of true s before (window_frames ms / 2 ^ k) k)
  unfolding lane_of
  lane_ranged before = record {
    log = omega (arith, E.period.most, E.some);
    start = mod-lt (before * (window_frames ms / 2 ^ k)) (pow_pos (lp - k));
    window = window_fits;
    every = omega (arith, E.every.most, E.some);
    size = E.numbers.size_to;
  }

-- one that is not read
pub unread_ranged : (s : Schedule) (before w k : ℕ) → Ranged (lane_of false s before w k)
unfolding lane_of
unread_ranged s before w k = record {
  log = omega arith;
  start = pow_pos (6 - k);
  window = omega arith;
  every = omega arith;
  size = omega arith;
}

-- ---- all four

-- where the logarithms of listed numbers lie
record Within (l : Logs) : Type 0 where
  from : 1 ≤ l.shortest
  to : l.shortest ≤ 4
  least : 6 ≤ l.longest
  most : l.longest ≤ 12

-- one more schedule
module _ (l : Logs) (read : Bool) (s : Schedule) where
  with_within : Within l → (read ≡ true → Power 1 4 s.every × Power 6 12 s.period) → Within (logs_with l read s)
  unfolding logs_with
  with_within W = by read
    where
      by : (b : Bool) → (b ≡ true → Power 1 4 s.every × Power 6 12 s.period)
          → Within (record { shortest = min l.shortest (log_if b s.every l.shortest); longest = max l.longest (log_if b s.period l.longest) })
      by true h =
          let e = (h refl).0 in
          let p = (h refl).1 in
          record { from = omega (arith, W.from, e.least); to = omega (arith, W.to); least = omega (arith, W.least); most = omega (arith, W.most, p.most) }
      by false h = record { from = omega (arith, W.from); to = omega (arith, W.to); least = omega (arith, W.least); most = omega (arith, W.most) }

  with_more : ((logs_with l read s).shortest ≤ l.shortest) × (l.longest ≤ (logs_with l read s).longest)
  unfolding logs_with
  with_more = (omega arith, omega arith)

  with_read : read ≡ true → ((logs_with l read s).shortest ≤ ones (s.every - 1)) × (ones (s.period - 1) ≤ (logs_with l read s).longest)
  unfolding logs_with
  with_read r = (omega (arith, log_read s.every l.shortest r), omega (arith, log_read s.period l.longest r))
    where
      log_read : (x other : ℕ) → read ≡ true → log_if read x other ≡ ones (x - 1)
      log_read x other h = rw h refl

module _ (ms : Messages) (ok : are_listed ms ≡ true) where
  L : Listed ms
  L = listed ms ok

  abbrev k : ℕ
  k = shortest_of ms

  abbrev frames : ℕ
  frames = window_frames ms

  pub powers : (s : Schedule) → is_listed frames s ≡ true → Power 1 4 s.every × Power 6 12 s.period
  powers s h = let n = numbers frames s h in (every_power s.every n.in_distances, period_power s.period n.in_periods)

  -- those of none, one, two and three schedules
  abbrev none : Logs
  none = record { shortest = 4; longest = 6 }

  abbrev one : Logs
  one = logs_with none (is_read ms 1) ms.s1

  abbrev two : Logs
  two = logs_with one (is_read ms 2) ms.s2

  abbrev three : Logs
  three = logs_with two (is_read ms 3) ms.s3

  within : Within (logs_of ms)
  unfolding logs_of
  within =
      with_within three (is_read ms 4) ms.s4
      (with_within two (is_read ms 3) ms.s3
      (with_within one (is_read ms 2) ms.s2
      (with_within none (is_read ms 1) ms.s1 (record { from = omega arith; to = omega arith; least = omega arith; most = omega arith })
      (λ r. powers ms.s1 (L.l1 r))) (λ r. powers ms.s2 (L.l2 r))) (λ r. powers ms.s3 (L.l3 r))) (λ r. powers ms.s4 (L.l4 r))

  pub shortest_from : 1 ≤ shortest_of ms
  shortest_from = within.from

  pub shortest_to : shortest_of ms ≤ 4
  shortest_to = within.to

  pub longest_from : 6 ≤ longest_of ms
  longest_from = within.least

  pub longest_to : longest_of ms ≤ 12
  longest_to = within.most

  -- what bounds the logarithms of so many schedules bounds those of all
  abbrev Bounds : Schedule → Logs → Type 0
  Bounds s l = (l.shortest ≤ ones (s.every - 1)) × (ones (s.period - 1) ≤ l.longest)

  from_three : (s : Schedule) → Bounds s three → Bounds s (logs_of ms)
  unfolding logs_of
  from_three s b = let m = with_more three (is_read ms 4) ms.s4 in (omega (arith, b.0, m.0), omega (arith, b.1, m.1))

  from_two : (s : Schedule) → Bounds s two → Bounds s (logs_of ms)
  from_two s b = let m = with_more two (is_read ms 3) ms.s3 in from_three s (omega (arith, b.0, m.0), omega (arith, b.1, m.1))

  few_1 : is_read ms 1 ≡ true → Bounds ms.s1 (logs_of ms)
  few_1 r =
      let b = with_read none (is_read ms 1) ms.s1 r in
      let m = with_more one (is_read ms 2) ms.s2 in
      from_two ms.s1 (omega (arith, b.0, m.0), omega (arith, b.1, m.1))

  few_2 : is_read ms 2 ≡ true → Bounds ms.s2 (logs_of ms)
  few_2 r = from_two ms.s2 (with_read one (is_read ms 2) ms.s2 r)

  few_3 : is_read ms 3 ≡ true → Bounds ms.s3 (logs_of ms)
  few_3 r = from_three ms.s3 (with_read two (is_read ms 3) ms.s3 r)

  few_4 : is_read ms 4 ≡ true → Bounds ms.s4 (logs_of ms)
  unfolding logs_of
  few_4 r = with_read three (is_read ms 4) ms.s4 r

  -- an entry that is read
  entry_of : (s : Schedule) → is_listed frames s ≡ true → k ≤ ones (s.every - 1) → Entry ms s k
  entry_of s l h =
      let n = numbers frames s l in
      record {
        numbers = n;
        period = period_power s.period n.in_periods;
        every = every_power s.every n.in_distances;
        some = shortest_from;
        few = h;
        units = window_units_lem ms.window k L.is_window shortest_to;
        frames = (window ms.window L.is_window).frames;
      }

  pub entry_1 : is_read ms 1 ≡ true → Entry ms ms.s1 k
  entry_1 r = entry_of ms.s1 (L.l1 r) (few_1 r).0

  pub entry_2 : is_read ms 2 ≡ true → Entry ms ms.s2 k
  entry_2 r = entry_of ms.s2 (L.l2 r) (few_2 r).0

  pub entry_3 : is_read ms 3 ≡ true → Entry ms ms.s3 k
  entry_3 r = entry_of ms.s3 (L.l3 r) (few_3 r).0

  pub entry_4 : is_read ms 4 ≡ true → Entry ms ms.s4 k
  entry_4 r = entry_of ms.s4 (L.l4 r) (few_4 r).0

  abbrev pub window_units : ℕ
  window_units = frames / 2 ^ k

  abbrev lane_for : Bool → Schedule → ℕ → Lane
  lane_for read s before = lane_of read s before window_units k

  lane_log : (s : Schedule) (before : ℕ) → ((lane_for true s before).log ≡ ones (s.period - 1) - k) × ((lane_for false s before).log ≡ 6 - k)
  unfolding lane_of
  lane_log s before = (refl, refl)

  -- its windows come again after whole times of 64 frames
  read_turned : (s : Schedule) (before : ℕ) → Entry ms s k → Turned (10 * 2 ^ k) (lane_for true s before)
  unfolding lane_of
  read_turned s before E =
      let lp : ℕ = ones (s.period - 1) in
      record {
        turns = 2 ^ (lp - 6);
        whole = omega (arith, ten_split k lp (in_units_lem ms s k E).period_units, split 6 lp E.period.least, mul_comm (2 ^ 6) (2 ^ (lp - 6)));
      }

  idle_turned : (s : Schedule) (before : ℕ) → Turned (10 * 2 ^ k) (lane_for false s before)
  unfolding lane_of
  idle_turned s before = record { turns = 1; whole = omega (arith, ten_split k 6 (omega (arith, shortest_to))) }

  -- one lane: its numbers, and its windows come again by the time that all do
  abbrev Lanes : Bool → Schedule → ℕ → Type 0
  Lanes read s before =
      Ranged (lane_for read s before) × (2 ^ (lane_for read s before).log ≤ 2 ^ (longest_of ms - k)) × Turned (10 * 2 ^ k) (lane_for read s before)

  lane_of_lem : (j : ℕ) (s : Schedule) (before : ℕ) → (is_read ms j ≡ true → Entry ms s k) → (is_read ms j ≡ true → ones (s.period - 1) ≤ longest_of ms)
      → Lanes (is_read ms j) s before
  lane_of_lem j s before e h =
      ⊎_elim
      (λ r. subst (λ (b : Bool). Lanes b s before) (sym r)
      (lane_ranged ms s k (e r) before, pow_mono (omega (arith, (lane_log s before).0, h r)), read_turned s before (e r)))
      (λ r. subst (λ (b : Bool). Lanes b s before) (sym r)
      (unread_ranged s before window_units k, pow_mono (omega (arith, (lane_log s before).1, longest_from)), idle_turned s before)) (truth (is_read ms j))

  -- all repeats after the longest period
  pub whole_period : 10 * 2 ^ k * 2 ^ (longest_of ms - k) ≡ 10 * 2 ^ longest_of ms
  whole_period = ten_split k (longest_of ms) (omega (arith, shortest_to, longest_from))

  pub sized : Sized (timetable_of ms)
  unfolding timetable_of
  sized =
      let a = lane_of_lem 1 ms.s1 0 entry_1 (λ r. (few_1 r).1) in
      let b = lane_of_lem 2 ms.s2 1 entry_2 (λ r. (few_2 r).1) in
      let c = lane_of_lem 3 ms.s3 2 entry_3 (λ r. (few_3 r).1) in
      let d = lane_of_lem 4 ms.s4 3 entry_4 (λ r. (few_4 r).1) in
      record {
        first = omega (arith, L.offset_to);
        some = omega (arith, pow_mono {i = 1} {j = k} shortest_from);
        unit = omega (arith, pow_mono {i = k} {j = 4} shortest_to);
        units = pow_mono {i = longest_of ms - k} {j = 11} (omega (arith, longest_to, shortest_from));
        all = omega (arith, whole_period, pow_mono {i = longest_of ms} {j = 12} longest_to);
        long = omega (arith, whole_period, pow_mono {i = 6} {j = longest_of ms} longest_from);
        turns = 2 ^ (longest_of ms - 6);
        whole = omega (arith, whole_period, split 6 (longest_of ms) longest_from, mul_comm (2 ^ 6) (2 ^ (longest_of ms - 6)));
        r1 = a.0;
        r2 = b.0;
        r3 = c.0;
        r4 = d.0;
        t1 = a.1;
        t2 = b.1;
        t3 = c.1;
        t4 = d.1;
        u1 = a.2;
        u2 = b.2;
        u3 = c.2;
        u4 = d.2;
      }

  -- the longest period is whole periods of each entry
  turns_of : (j : ℕ) (s : Schedule) → (is_read ms j ≡ true → Entry ms s k) → (is_read ms j ≡ true → ones (s.period - 1) ≤ longest_of ms)
      → Turns ms j s ((timetable_of ms).unit * (timetable_of ms).units)
  unfolding timetable_of
  turns_of j s e h = record {
    turns = 2 ^ (longest_of ms - ones (s.period - 1));
    times = λ r.
        let q : ℕ = 2 ^ (longest_of ms - ones (s.period - 1)) in
        ap (λ (x : ℕ). q * (10 * x)) (sym (e r).period.is) ∙ mul_comm q (10 * 2 ^ ones (s.period - 1))
        ∙ ten_split (ones (s.period - 1)) (longest_of ms) (h r) ∙ sym whole_period;
  }

  pub longest_turns : AllTurns ms ((timetable_of ms).unit * (timetable_of ms).units)
  longest_turns = record {
    t1 = turns_of 1 ms.s1 entry_1 (λ r. (few_1 r).1);
    t2 = turns_of 2 ms.s2 entry_2 (λ r. (few_2 r).1);
    t3 = turns_of 3 ms.s3 entry_3 (λ r. (few_3 r).1);
    t4 = turns_of 4 ms.s4 entry_4 (λ r. (few_4 r).1);
  }
