-- For the code alone. What the quick code counts: what each entry wants at the begin of a unit.
use Rattle.std.specs.Prelude.{Bool, true, cond, ◌&&◌, ◌≡◌}
use Rattle.std.specs.Prelude.{List, [], ◌∷◌, get_or, ℕ, zero, suc, ◌+◌, ◌-◌, ◌*◌, ◌/◌, ◌%◌, ◌^◌, min}
use Rattle.std.specs.Prelude.{max, ◌≤◌, ◌<◌, eqb, ltb}
use Rattle.std.specs.Int.Count.{ones, count_trailing_zeros}
use Rattle.counting.specs.Counting.{rank, count}
use Rattle.spans.specs.declared.Pattern.{Pattern}
use Rattle.spans.specs.Pattern.{allows, period_of, Regular}
use Rattle.units.specs.declared.Logs.{Logs}
use Rattle.units.specs.declared.Lane.{Lane}
use Rattle.units.specs.declared.Timetable.{Timetable}
use Rattle.units.specs.declared.LaneStep.{LaneStep}
use Rattle.units.specs.declared.UnitStep.{UnitStep}
use Rattle.units.specs.declared.Sight.{Sight}
use Rattle.units.specs.declared.Spot.{Spot}
use Rattle.messages.specs.declared.Schedule.{Schedule}
use Rattle.messages.specs.declared.Messages.{Messages}
use Rattle.messages.specs.Messages.{window_frames, all_periods, begun, wants, since, in_window, is_read, are_listed}
use Rattle.messages.specs.Messages.{after1, after2, after3}

-- a window of entry j is open at t
abbrev pub is_window_open : Messages → ℕ → Schedule → ℕ → Bool
is_window_open ms j s t = is_read ms j && ltb (since ms j s t) ms.window

-- what its copies want at t; with the copy that begins there
unfoldable pub wants_at : Messages → ℕ → Schedule → (ℕ → Bool) → ℕ → ℕ
wants_at ms j s u t =
    cond (is_window_open ms j s t) (wants (10 * s.every) s.size (in_window ms j s u t) (since ms j s t)) 0

unfoldable pub needs_at : Messages → ℕ → Schedule → (ℕ → Bool) → ℕ → ℕ
needs_at ms j s u t =
    cond (is_window_open ms j s t) (wants_at ms j s u t + begun (10 * s.every) s.size (since ms j s t)) 0

-- what all four need at t
unfoldable pub all_need : Messages → (ℕ → Bool) → ℕ → ℕ
all_need ms u t =
    needs_at ms 1 ms.s1 u t + needs_at ms 2 ms.s2 (after1 ms u) t
    + needs_at ms 3 ms.s3 (after2 ms u) t + needs_at ms 4 ms.s4 (after3 ms u) t

-- ---- messages in units: no window opens or closes and no copy begins but where a unit begins

-- x is a power of two: its lowest one is its only one
abbrev pub HasLog : ℕ → Type 0
HasLog x = count_trailing_zeros 64 x ≡ ones (x - 1)

-- which power of two x is, if it is read
abbrev pub log_if : Bool → ℕ → ℕ → ℕ
log_if read x other = cond read (ones (x - 1)) other

-- the shortest distance of copies and the longest period with one more schedule, if it is read
unfoldable pub logs_with : Logs → Bool → Schedule → Logs
logs_with logs read s = record {
  shortest = min logs.shortest (log_if read s.every logs.shortest);
  longest = max logs.longest (log_if read s.period logs.longest);
}

-- those of all that are read
unfoldable pub logs_of : Messages → Logs
logs_of ms =
    logs_with
    (logs_with (logs_with (logs_with (record { shortest = 4; longest = 6 }) (is_read ms 1) ms.s1) (is_read ms 2)
    ms.s2) (is_read ms 3) ms.s3)
    (is_read ms 4) ms.s4

abbrev pub shortest_of : Messages → ℕ
shortest_of ms = (logs_of ms).shortest

abbrev pub longest_of : Messages → ℕ
longest_of ms = (logs_of ms).longest

-- a schedule can be counted in units of 2^k frames
pub record InUnits (s : Schedule) (k : ℕ) : Type 0 where
  pub period : HasLog s.period
  pub every : HasLog s.every
  pub period_units : k ≤ ones (s.period - 1)
  pub period_small : ones (s.period - 1) ≤ 12
  pub every_units : k ≤ ones (s.every - 1)

-- an entry with so many before it, in units of 2^k frames
unfoldable pub lane_of : Bool → Schedule → ℕ → ℕ → ℕ → Lane
lane_of read s before window k =
    cond read
    (record {
      log = ones (s.period - 1) - k;
      start = before * window % 2 ^ (ones (s.period - 1) - k);
      window = window;
      every = ones (s.every - 1) - k;
      size = s.size;
    })
    (record { log = 6 - k; start = 0; window = 0; every = 0; size = 0 })

unfoldable pub timetable_of : Messages → Timetable
timetable_of ms =
    let k = shortest_of ms in
    let window = window_frames ms / 2 ^ k in
    record {
      first = 10 * ms.offset;
      unit = 10 * 2 ^ k;
      units = 2 ^ (longest_of ms - k);
      lanes =
          lane_of (is_read ms 1) ms.s1 0 window k ∷ lane_of (is_read ms 2) ms.s2 1 window k
          ∷ lane_of (is_read ms 3) ms.s3 2 window k ∷ lane_of (is_read ms 4) ms.s4 3 window k ∷ [];
    }

-- an entry's, counted from 0
abbrev pub lane_at : Timetable → ℕ → Lane
lane_at table i = get_or table.lanes i (record { log = 0; start = 0; window = 0; every = 0; size = 0 })

-- numbers with which the search can work
pub record Ranged (l : Lane) : Type 0 where
  pub log : l.log ≤ 11
  pub start : l.start < 2 ^ l.log
  pub window : l.window ≤ 2 ^ l.log
  pub every : l.every ≤ 3
  pub size : l.size ≤ 8

-- a lane's windows come again after whole times of 64 frames
pub record Turned (unit : ℕ) (l : Lane) : Type 0 where
  pub turns : ℕ
  pub whole : turns * 640 ≡ unit * 2 ^ l.log

pub record Sized (table : Timetable) : Type 0 where
  pub first : table.first ≤ 150
  pub some : 20 ≤ table.unit
  pub unit : table.unit ≤ 160
  pub units : table.units ≤ 2048
  pub all : table.unit * table.units ≤ all_periods
  pub long : 640 ≤ table.unit * table.units
  pub turns : ℕ
  pub whole : turns * 640 ≡ table.unit * table.units
  pub r1 : Ranged (lane_at table 0)
  pub r2 : Ranged (lane_at table 1)
  pub r3 : Ranged (lane_at table 2)
  pub r4 : Ranged (lane_at table 3)
  pub t1 : 2 ^ (lane_at table 0).log ≤ table.units
  pub t2 : 2 ^ (lane_at table 1).log ≤ table.units
  pub t3 : 2 ^ (lane_at table 2).log ≤ table.units
  pub t4 : 2 ^ (lane_at table 3).log ≤ table.units
  pub u1 : Turned table.unit (lane_at table 0)
  pub u2 : Turned table.unit (lane_at table 1)
  pub u3 : Turned table.unit (lane_at table 2)
  pub u4 : Turned table.unit (lane_at table 3)

-- the subframe in which unit n begins
abbrev pub begin_of : Timetable → ℕ → ℕ
begin_of table n = table.first + table.unit * n

-- how many units before unit n the lane's last window opened
unfoldable pub place_of : Lane → ℕ → ℕ
place_of l n = (n + 2 ^ l.log - l.start) % 2 ^ l.log

-- what is needed at unit n where so many are wanted, with the copy that begins there
unfoldable pub need_of : Lane → ℕ → ℕ → ℕ
need_of l n w = cond (ltb (place_of l n) l.window) (w + cond (eqb (place_of l n % 2 ^ l.every) 0) l.size 0) 0

-- one lane of a unit with so many free subframes
unfoldable pub lane_step_of : Lane → ℕ → ℕ → ℕ → LaneStep
lane_step_of l n w free = record {
  want = cond (ltb (place_of l n + 1) l.window) (need_of l n w - free) 0;
  free = free - need_of l n w;
}

-- all four
unfoldable pub unit_step_of : Timetable → ℕ → List ℕ → ℕ → UnitStep
unit_step_of table n w free =
    let a = lane_step_of (lane_at table 0) n (get_or w 0 0) free in
    let b = lane_step_of (lane_at table 1) n (get_or w 1 0) a.free in
    let c = lane_step_of (lane_at table 2) n (get_or w 2 0) b.free in
    let d = lane_step_of (lane_at table 3) n (get_or w 3 0) c.free in
    record { wants = a.want ∷ b.want ∷ c.want ∷ d.want ∷ []; remaining = d.free }

unfoldable pub unit_need : Timetable → ℕ → List ℕ → ℕ
unit_need table n w =
    need_of (lane_at table 0) n (get_or w 0 0) + need_of (lane_at table 1) n (get_or w 1 0)
    + need_of (lane_at table 2) n (get_or w 2 0) + need_of (lane_at table 3) n (get_or w 3 0)

-- a copy in each unit since the window opened, and none had anything
pub record Small (table : Timetable) (n : ℕ) (w : List ℕ) : Type 0 where
  pub s1 : get_or w 0 0 ≤ 8 * place_of (lane_at table 0) n
  pub s2 : get_or w 1 0 ≤ 8 * place_of (lane_at table 1) n
  pub s3 : get_or w 2 0 ≤ 8 * place_of (lane_at table 2) n
  pub s4 : get_or w 3 0 ≤ 8 * place_of (lane_at table 3) n

abbrev pub no_wants : List ℕ
no_wants = 0 ∷ 0 ∷ 0 ∷ 0 ∷ []

-- what is wanted i units on from unit n, where w is; and how many subframes of these units remain
unfoldable pub wants_from : Timetable → (ℕ → Bool) → ℕ → List ℕ → ℕ → List ℕ
wants_from table u n w zero = w
wants_from table u n w (suc i) =
    (unit_step_of table (n + i) (wants_from table u n w i) (count u (begin_of table (n + i)) table.unit)).wants

unfoldable pub rest_from : Timetable → (ℕ → Bool) → ℕ → List ℕ → ℕ → ℕ
rest_from table u n w zero = 0
rest_from table u n w (suc i) =
    rest_from table u n w i
    + (unit_step_of table (n + i) (wants_from table u n w i) (count u (begin_of table (n + i)) table.unit)).remaining

-- a sight's numbers are those of its unit
pub record Seen (table : Timetable) (u : ℕ → Bool) (s : Sight) : Type 0 where
  pub small : Small table s.n s.wants
  pub free : s.free ≡ rank u (begin_of table s.n)

-- unit by unit from s on, to unit `to` or to where the k-th is
pub record Ran (table : Timetable) (u : ℕ → Bool) (s : Sight) (to : ℕ) (r : Sight) : Type 0 where
  pub from : s.n ≤ r.n
  pub most : r.n ≤ to
  pub seen : Seen table u r
  pub wanted : r.wants ≡ wants_from table u s.n s.wants (r.n - s.n)
  pub counted : r.k + rest_from table u s.n s.wants (r.n - s.n) ≡ s.k
  pub stops : r.n < to
      → r.k < (unit_step_of table r.n r.wants (count u (begin_of table r.n) table.unit)).remaining

-- the unit in which the window opened that is open at unit n; else n
unfoldable pub opened_of : Lane → ℕ → ℕ
opened_of l n = cond (ltb (place_of l n) l.window) (n - place_of l n) n

-- where a walk to unit n has to begin
unfoldable pub walk_from : Timetable → ℕ → ℕ
walk_from table n =
    opened_of (lane_at table 0)
    (opened_of (lane_at table 1) (opened_of (lane_at table 2) (opened_of (lane_at table 3) n)))

unfoldable pub wants_in : Timetable → (ℕ → Bool) → ℕ → List ℕ
wants_in table u n = wants_from table u (walk_from table n) no_wants (n - walk_from table n)

-- w is what the entries want where unit n begins
pub record Exact (ms : Messages) (u : ℕ → Bool) (table : Timetable) (n : ℕ) (w : List ℕ) : Type 0 where
  pub x1 : get_or w 0 0 ≡ wants_at ms 1 ms.s1 u (begin_of table n)
  pub x2 : get_or w 1 0 ≡ wants_at ms 2 ms.s2 (after1 ms u) (begin_of table n)
  pub x3 : get_or w 2 0 ≡ wants_at ms 3 ms.s3 (after2 ms u) (begin_of table n)
  pub x4 : get_or w 3 0 ≡ wants_at ms 4 ms.s4 (after3 ms u) (begin_of table n)

-- the pattern allows some subframe
pub record Allowing (p : Pattern) : Type 0 where
  pub regular : Regular p
  pub some : 0 < rank (allows p) (period_of p)

-- subframe t, five periods on, and where no walk goes below unit 0
pub record SpotAt (table : Timetable) (t : ℕ) (r : Spot) : Type 0 where
  pub there : begin_of table r.n + r.y ≡ t + 5 * (table.unit * table.units)
  pub inside : r.y < table.unit
  pub late : 4 * table.units ≤ r.n
  pub early : r.n < 2 ^ 14

-- the table of listed messages
abbrev pub Serves : Messages → Timetable → Type 0
Serves ms table = (are_listed ms ≡ true) × (table ≡ timetable_of ms)
