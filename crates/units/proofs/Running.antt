-- A lane of the timetable runs as its entry does: from unit to unit it needs and wants the same.
use Rattle.units.specs.Quick.{lane_at}
use mathlib.Core.Bool.{Bool, true, false, cond, ◌&&◌}
use mathlib.Core.Path.{◌≡◌, refl, sym, ap, ap₂, subst, ◌∙◌}
use mathlib.Core.Logic.{◌⊎◌, inl, inr, ⊎_elim}
use Prim.Native.Nat.{ℕ, zero, suc, ◌+◌, ◌-◌, ◌*◌, ◌/◌, ◌%◌, ◌^◌, ◌≤◌, ◌<◌}
use native.Mathlib.Nat.{mul_assoc, mul_comm, mul-add, mul-one, mul-zero, mul-mod_left, mul-lt-mul_of_pos_left, mul-le-mul_left}
use native.Mathlib.Omega.{arith}
use lib.Count.{ones}
use lib.Dec.{eqb, ltb}
use lib.Pow.{pow_pos}
use borrow.Author.Tests.{lt-ltb, le-ltb, ne_eqb}
use Rattle.counting.specs.Counting.{count}
use Rattle.counting.proofs.Facts.{order, truth}
use Rattle.messages.specs.declared.Schedule.{Schedule}
use Rattle.messages.specs.declared.Messages.{Messages}
use Rattle.units.specs.declared.Lane.{Lane}
use Rattle.units.specs.declared.Timetable.{Timetable}
use Rattle.messages.specs.Messages.{window_frames, all_periods, begun, since, is_read, are_listed}
use Rattle.units.specs.Quick.{is_window_open, wants_at, needs_at, shortest_of, lane_of, timetable_of, begin_of, place_of, need_of, lane_step_of}
use Rattle.messages.proofs.Timing.{Whole}
use Rattle.units.proofs.Units.{Of, Fits, needs_shut, wants_shut, wants_begin, shut_unread, unit_wants, unit_ends}
use Rattle.messages.proofs.Repeating.{Sound, whole_of}
use Rattle.units.proofs.Entries.{UnitFor}
use Rattle.units.proofs.Grid.{CountedIn, times_mod, place_is}
use Rattle.units.proofs.Timetables.{split, ten_split, Entry, in_units_lem, entry_1, entry_2, entry_3, entry_4}

pub record Runs (ms : Messages) (j : ℕ) (s : Schedule) (table : Timetable) (l : Lane) : Type 0 where
  pub sound : Sound ms j s
  pub unit : (n : ℕ) → UnitFor ms j s table.unit (begin_of table n)
  pub needs : (u : ℕ → Bool) (n : ℕ) → needs_at ms j s u (begin_of table n) ≡ need_of l n (wants_at ms j s u (begin_of table n))
  pub next : (u : ℕ → Bool) → ((t : ℕ) → u (t + all_periods) ≡ u t) → (n : ℕ)
      → wants_at ms j s u (begin_of table (n + 1)) ≡ (lane_step_of l n (wants_at ms j s u (begin_of table n)) (count u (begin_of table n) table.unit)).want
  pub shut : (u : ℕ → Bool) (n : ℕ) → (place_of l n ≡ 0) ⊎ (l.window ≤ place_of l n) → wants_at ms j s u (begin_of table n) ≡ 0

-- a product is 0 where its second factor is
zero_same : (U z : ℕ) → 0 < U → eqb (U * z) 0 ≡ eqb z 0
zero_same U zero h = ap (λ (x : ℕ). eqb x 0) (mul-zero U)
zero_same U (suc z) h =
    ne_eqb (U * suc z) 0 (λ e. omega (arith, e, mul-lt-mul_of_pos_left {m = 0} {n = suc z} {k = U} (omega arith) h, mul-zero U)) ∙ sym (ne_eqb (suc z) 0 (λ e. omega arith))

-- in units of U both sides of a test may be counted
ltb_same : (U a b : ℕ) → 0 < U → ltb (U * a) (U * b) ≡ ltb a b
ltb_same U a b h =
    ⊎_elim (λ l. lt-ltb (U * a) (U * b) (mul-lt-mul_of_pos_left {m = a} {n = b} {k = U} l h) ∙ sym (lt-ltb a b l))
    (λ l. le-ltb (U * a) (U * b) (mul-le-mul_left U l) ∙ sym (le-ltb a b l)) (order a b)

-- ---- an entry that is read

module _ (ms : Messages) (j : ℕ) (s : Schedule) (k : ℕ) (E : Entry ms s k) (read : is_read ms j ≡ true) (table : Timetable)
    (first_is : table.first ≡ 10 * ms.offset) (unit-is : table.unit ≡ 10 * 2 ^ k) where
  abbrev U : ℕ
  U = 10 * 2 ^ k

  abbrev lp : ℕ
  lp = ones (s.period - 1)

  abbrev le : ℕ
  le = ones (s.every - 1)

  abbrev w : ℕ
  w = window_frames ms / 2 ^ k

  abbrev lane : Lane
  lane = lane_of true s (j - 1) w k

  some : 0 < U
  some = omega (arith, pow_pos k)

  period_units_lem : 10 * s.period ≡ U * 2 ^ (lp - k)
  period_units_lem = sym (ten_split k lp (in_units_lem ms s k E).period_units ∙ ap (λ (x : ℕ). 10 * x) E.period.is)

  every_units_lem : 10 * s.every ≡ U * 2 ^ (le - k)
  every_units_lem = sym (ten_split k le E.few ∙ ap (λ (x : ℕ). 10 * x) E.every.is)

  window_units_lem : ms.window ≡ U * w
  window_units_lem = sym (mul_assoc 10 (2 ^ k) w ∙ ap (λ (x : ℕ). 10 * x) E.units ∙ E.frames)

  counted : CountedIn ms s U (2 ^ (lp - k)) w (2 ^ (12 - lp))
  counted = record {
    some = some;
    long = pow_pos (lp - k);
    often = pow_pos (12 - lp);
    period_is = period_units_lem;
    window_is = E.frames ∙ window_units_lem;
    whole =
        let T : ℕ = 2 ^ (lp - k) in
        let q : ℕ = 2 ^ (12 - lp) in
        ap (λ (x : ℕ). U * x) (mul_comm q T) ∙ sym (mul_assoc U T q) ∙ ap (λ (x : ℕ). x * q) (ten_split k lp (in_units_lem ms s k E).period_units)
        ∙ mul_assoc 10 (2 ^ lp) q ∙ ap (λ (x : ℕ). 10 * x) (split lp 12 E.period.most);
  }

  of_unit : (x y : ℕ) → x ≡ U * y → Of table.unit x
  of_unit x y e = ap₂ (λ (a b : ℕ). a % b) (e ∙ mul_comm U y) unit-is ∙ mul-mod_left y U

  whole_s : Whole s
  whole_s = whole_of E.numbers

  fits : Fits ms s table.unit
  fits = record {
    some = omega (arith, unit-is, some);
    copies = of_unit (10 * s.every) (2 ^ (le - k)) every_units_lem;
    windows = of_unit ms.window w window_units_lem;
    periods = of_unit (10 * s.period) (2 ^ (lp - k)) period_units_lem;
    long = omega (arith, E.frames, E.numbers.window_to);
  }

  module _ (n : ℕ) where
    abbrev t : ℕ
    t = begin_of table n

    x : ℕ
    x = place_of lane n

    begin_is : t ≡ 10 * ms.offset + U * n
    begin_is = ap₂ (λ (a b : ℕ). a + b * n) first_is unit-is

    since_is : since ms j s t ≡ U * place_of lane n
    unfolding place_of lane_of
    since_is = ap (since ms j s) begin_is ∙ place_is ms j s U (2 ^ (lp - k)) w (2 ^ (12 - lp)) counted n

    lane_window : lane.window ≡ w
    unfolding lane_of
    lane_window = refl

    on : Of table.unit (since ms j s t)
    on = of_unit (since ms j s t) (place_of lane n) since_is

    open_is : is_window_open ms j s t ≡ ltb (place_of lane n) lane.window
    open_is =
        ap₂ (λ (a b : Bool). a && b) read (ap₂ ltb since_is window_units_lem ∙ ltb_same U (place_of lane n) w some) ∙ ap (ltb (place_of lane n)) (sym lane_window)

    begun_is : begun (10 * s.every) s.size (since ms j s t) ≡ cond (eqb (place_of lane n % 2 ^ lane.every) 0) lane.size 0
    unfolding lane_of
    begun_is =
        ap (λ (b : Bool). cond b s.size 0)
        (ap₂ (λ (a b : ℕ). eqb (a % b) 0) since_is every_units_lem
        ∙ ap (λ (a : ℕ). eqb a 0) (times_mod U (place_of lane n) (2 ^ (le - k)) (pow_pos (le - k)) some)
        ∙ zero_same U (place_of lane n % 2 ^ (le - k)) some)

    read_needs : (u : ℕ → Bool) → needs_at ms j s u t ≡ need_of lane n (wants_at ms j s u t)
    unfolding needs_at need_of
    read_needs u = ap₂ (λ (b : Bool) (m : ℕ). cond b (wants_at ms j s u t + m) 0) open_is begun_is

    next_begin : begin_of table (n + 1) ≡ t + table.unit
    next_begin = omega (arith, mul-add table.unit n 1, mul-one table.unit)

    since_next : since ms j s t + table.unit ≡ U * (place_of lane n + 1)
    since_next = omega (arith, since_is, unit-is, mul-add U (place_of lane n) 1, mul-one U)

    read_next : (u : ℕ → Bool) → ((t : ℕ) → u (t + all_periods) ≡ u t)
        → wants_at ms j s u (begin_of table (n + 1)) ≡ (lane_step_of lane n (wants_at ms j s u t) (count u t table.unit)).want
    unfolding lane_step_of
    read_next u again = ap (wants_at ms j s u) next_begin ∙ ⊎_elim goes_on ends (order (place_of lane n + 1) lane.window)
      where
        goes_on : place_of lane n + 1 < lane.window
            → wants_at ms j s u (t + table.unit) ≡ cond (ltb (place_of lane n + 1) lane.window) (need_of lane n (wants_at ms j s u t) - count u t table.unit) 0
        goes_on h =
            rw (lt-ltb (place_of lane n + 1) lane.window h)
            (unit_wants ms j s whole_s table.unit fits u again t on read
            (omega (arith, since_next, window_units_lem, mul-lt-mul_of_pos_left {m = place_of lane n + 1} {n = w} {k = U} (omega (arith, h, lane_window)) some))
            ∙ ap (λ (x : ℕ). x - count u t table.unit) (read_needs u))

        ends : lane.window ≤ place_of lane n + 1
            → wants_at ms j s u (t + table.unit) ≡ cond (ltb (place_of lane n + 1) lane.window) (need_of lane n (wants_at ms j s u t) - count u t table.unit) 0
        ends h =
            rw (le-ltb (place_of lane n + 1) lane.window h)
            (unit_ends ms j s whole_s table.unit fits u again t on
            (omega (arith, since_next, window_units_lem, mul-le-mul_left {m = w} {n = place_of lane n + 1} U (omega (arith, h, lane_window)))))

    read_shut : (u : ℕ → Bool) → (place_of lane n ≡ 0) ⊎ (lane.window ≤ place_of lane n) → wants_at ms j s u t ≡ 0
    read_shut u (inl e) = wants_begin ms j s u t (since_is ∙ ap (λ (x : ℕ). U * x) e ∙ mul-zero U)
    read_shut u (inr h) = wants_shut ms j s u t (open_is ∙ le-ltb (place_of lane n) lane.window h)

  pub read_runs : Runs ms j s table lane
  read_runs = record {
    sound = record { whole = λ r. whole_s };
    unit = λ n. record { fits = λ r. fits; on = λ r. on n };
    needs = λ u n. read_needs n u;
    next = λ u again n. read_next n u again;
    shut = λ u n. read_shut n u;
  }

-- ---- one that is not: its lane has no window

module _ (ms : Messages) (j : ℕ) (s : Schedule) (before w k : ℕ) (unread : is_read ms j ≡ false) (table : Timetable) where
  abbrev idle : Lane
  idle = lane_of false s before w k

  idle_need : (n v : ℕ) → need_of idle n v ≡ 0
  unfolding need_of lane_of
  idle_need n v = rw (le-ltb (place_of idle n) 0 (omega arith)) refl

  idle_want : (n v f : ℕ) → (lane_step_of idle n v f).want ≡ 0
  unfolding lane_step_of lane_of
  idle_want n v f = rw (le-ltb (place_of idle n + 1) 0 (omega arith)) refl

  wants_none : (u : ℕ → Bool) (t : ℕ) → wants_at ms j s u t ≡ 0
  wants_none u t = wants_shut ms j s u t (shut_unread ms j s u t unread)

  absent : {A : Type 0} → is_read ms j ≡ true → A
  absent r = absurd (let z : ◌≡◌ {A = ℕ} 0 1 = cc in omega arith)

  pub unread_runs : Runs ms j s table idle
  unread_runs = record {
    sound = record { whole = λ r. absent r };
    unit = λ n. record { fits = λ r. absent r; on = λ r. absent r };
    needs = λ u n. needs_shut ms j s u (begin_of table n) (shut_unread ms j s u (begin_of table n) unread) ∙ sym (idle_need n (wants_at ms j s u (begin_of table n)));
    next = λ u again n.
        wants_none u (begin_of table (n + 1)) ∙ sym (idle_want n (wants_at ms j s u (begin_of table n)) (count u (begin_of table n) table.unit));
    shut = λ u n h. wants_none u (begin_of table n);
  }

-- ---- all four

pub record AllRun (ms : Messages) (table : Timetable) : Type 0 where
  pub r1 : Runs ms 1 ms.s1 table (lane_at table 0)
  pub r2 : Runs ms 2 ms.s2 table (lane_at table 1)
  pub r3 : Runs ms 3 ms.s3 table (lane_at table 2)
  pub r4 : Runs ms 4 ms.s4 table (lane_at table 3)

module _ (ms : Messages) (ok : are_listed ms ≡ true) where
  abbrev all : Timetable
  all = timetable_of ms

  numbers_is : (all.first ≡ 10 * ms.offset) × (all.unit ≡ 10 * 2 ^ shortest_of ms)
  unfolding timetable_of
  numbers_is = (refl, refl)

  runs : (j : ℕ) (s : Schedule) → (is_read ms j ≡ true → Entry ms s (shortest_of ms))
      → Runs ms j s all (lane_of (is_read ms j) s (j - 1) (window_frames ms / 2 ^ shortest_of ms) (shortest_of ms))
  runs j s e =
      ⊎_elim
      (λ r. subst (λ (b : Bool). Runs ms j s all (lane_of b s (j - 1) (window_frames ms / 2 ^ shortest_of ms) (shortest_of ms))) (sym r)
      (read_runs ms j s (shortest_of ms) (e r) r all numbers_is.0 numbers_is.1))
      (λ r. subst (λ (b : Bool). Runs ms j s all (lane_of b s (j - 1) (window_frames ms / 2 ^ shortest_of ms) (shortest_of ms))) (sym r)
      (unread_runs ms j s (j - 1) (window_frames ms / 2 ^ shortest_of ms) (shortest_of ms) r all)) (truth (is_read ms j))

  lanes_are : (lane_at all 0 ≡ lane_of (is_read ms 1) ms.s1 0 (window_frames ms / 2 ^ shortest_of ms) (shortest_of ms))
      × (lane_at all 1 ≡ lane_of (is_read ms 2) ms.s2 1 (window_frames ms / 2 ^ shortest_of ms) (shortest_of ms))
      × (lane_at all 2 ≡ lane_of (is_read ms 3) ms.s3 2 (window_frames ms / 2 ^ shortest_of ms) (shortest_of ms))
      × (lane_at all 3 ≡ lane_of (is_read ms 4) ms.s4 3 (window_frames ms / 2 ^ shortest_of ms) (shortest_of ms))
  unfolding timetable_of
  lanes_are = (refl, refl, refl, refl)

  pub all_run : AllRun ms (timetable_of ms)
  all_run = record {
    r1 = subst (Runs ms 1 ms.s1 all) (sym lanes_are.0) (runs 1 ms.s1 (entry_1 ms ok));
    r2 = subst (Runs ms 2 ms.s2 all) (sym lanes_are.1) (runs 2 ms.s2 (entry_2 ms ok));
    r3 = subst (Runs ms 3 ms.s3 all) (sym lanes_are.2) (runs 3 ms.s3 (entry_3 ms ok));
    r4 = subst (Runs ms 4 ms.s4 all) (sym lanes_are.3) (runs 4 ms.s4 (entry_4 ms ok));
  }
