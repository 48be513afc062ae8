-- For the code alone. What the quick code passes at once.
use Rattle.std.specs.Prelude.{Bool, true, false, cond, ◌≡◌, ◌≢◌, List, Option, None, Some, get_or, ℕ, zero}
use Rattle.std.specs.Prelude.{suc, ◌+◌, ◌-◌, ◌^◌, ◌≤◌, ◌<◌, ltb}
use Rattle.counting.specs.Counting.{rank, count}
use Rattle.units.specs.declared.Lane.{Lane}
use Rattle.units.specs.declared.Timetable.{Timetable}
use Rattle.units.specs.declared.Sight.{Sight}
use Rattle.strides.specs.declared.Stride.{Stride}
use Rattle.strides.specs.declared.Stretch.{Stretch}
use Rattle.strides.specs.declared.Stretch.TheVariants.{Alone, Busy}
use Rattle.strides.specs.declared.Stretch.TheVariants as stretch
use Rattle.strides.specs.declared.Reached.{Reached}
use Rattle.strides.specs.declared.Leap.{Leap}
use Rattle.strides.specs.declared.Leap.TheVariants.{Past, To}
use Rattle.messages.specs.declared.Messages.{Messages}
use Rattle.messages.specs.Messages.{remaining}
use Rattle.units.specs.Quick.{begin_of, place_of, lane_at, lane_step_of, unit_need, Small, Seen, Exact, Serves}

-- no window is open at unit n
pub record Quiet (table : Timetable) (n : ℕ) : Type 0 where
  pub q1 : (lane_at table 0).window ≤ place_of (lane_at table 0) n
  pub q2 : (lane_at table 1).window ≤ place_of (lane_at table 1) n
  pub q3 : (lane_at table 2).window ≤ place_of (lane_at table 2) n
  pub q4 : (lane_at table 3).window ≤ place_of (lane_at table 3) n

-- of so many subframes from unit n on, those remain that are free past what is needed first
pub record Evenly (ms : Messages) (u : ℕ → Bool) (table : Timetable) (n : ℕ) (w : List ℕ) (length : ℕ) : Type 0 where
  pub counted : (y : ℕ) → y ≤ length
      → count (remaining ms u) (begin_of table n) y ≡ count u (begin_of table n) y - unit_need table n w

-- units passed at once, perhaps not evenly
pub record Goes (ms : Messages) (u : ℕ → Bool) (table : Timetable) (n : ℕ) (w : List ℕ) (r : Stride) (even : Bool)
    : Type 0 where
  pub length : ℕ
  pub ends : begin_of table r.n ≡ begin_of table n + length
  pub evenly : even ≡ true → Evenly ms u table n w length
  pub all : r.remaining ≡ count (remaining ms u) (begin_of table n) length
  pub exact : Exact ms u table r.n r.wants

pub record Strode (table : Timetable) (u : ℕ → Bool) (n end : ℕ) (even : Bool) (r : Stride) : Type 0 where
  pub on : n < r.n
  pub most : r.n ≤ end
  pub small : Small table r.n r.wants
  pub free : r.free ≡ rank u (begin_of table r.n)
  pub few : r.remaining < 2 ^ 29
  pub goes : (ms : Messages) (w : List ℕ) → Serves ms table → Exact ms u table n w → Goes ms u table n w r even

-- ---- a window that meets no other

-- no window of the lane is open at unit n
abbrev pub Shut : Lane → ℕ → Type 0
Shut l n = l.window ≤ place_of l n

-- no other's is
abbrev pub NoOther : Timetable → ℕ → ℕ → Type 0
NoOther table i n = (j : ℕ) → j < 4 → j ≢ i → Shut (lane_at table j) n

-- a window of so many units opens at unit n, and no other is open during it
pub record Apart (table : Timetable) (i units n : ℕ) : Type 0 where
  pub window : units ≡ (lane_at table i).window
  pub opens : place_of (lane_at table i) n ≡ 0
  pub others : (k : ℕ) → k < units → NoOther table i (n + k)

-- what a lane by itself wants i units on from unit n, at which nothing is wanted; and what remains of these units
unfoldable pub lone_want : (ℕ → Bool) → Timetable → Lane → ℕ → ℕ → ℕ
lone_want u table l n zero = 0
lone_want u table l n (suc i) =
    (lane_step_of l (n + i) (lone_want u table l n i) (count u (begin_of table (n + i)) table.unit)).want

unfoldable pub lone_rest : (ℕ → Bool) → Timetable → Lane → ℕ → ℕ → ℕ
lone_rest u table l n zero = 0
lone_rest u table l n (suc i) =
    lone_rest u table l n i
    + (lane_step_of l (n + i) (lone_want u table l n i) (count u (begin_of table (n + i)) table.unit)).free

-- what remains of a window that meets no other
abbrev pub alone_of : Timetable → (ℕ → Bool) → Lane → ℕ
alone_of table u l = lone_rest u table l l.start l.window

-- of an entry either nothing is kept, or what remains of its window
pub record Keeps (table : Timetable) (u : ℕ → Bool) (kept : List (Option ℕ)) : Type 0 where
  pub each : (i x : ℕ) → get_or kept i None ≡ Some x → x ≡ alone_of table u (lane_at table i)

-- ---- the search

-- the k-th from unit n on is one of so many that remain evenly
pub record Here (ms : Messages) (u : ℕ → Bool) (table : Timetable) (n : ℕ) (w : List ℕ) (k : ℕ) : Type 0 where
  pub length : ℕ
  pub evenly : Evenly ms u table n w length
  pub enough : k < count (remaining ms u) (begin_of table n) length

-- ---- past a stretch, or to where the k-th is in it

abbrev pub Stretches : Timetable → ℕ → Bool → Stretch → Type 0
Stretches table n far (stretch.Quiet d) = (0 < d) × ((i : ℕ) → i < d → Quiet table (n + i))
Stretches table n far (Alone i) =
    (far ≡ true) × (i < 4) × (0 < (lane_at table i).window) × Apart table i (lane_at table i).window n
Stretches table n far (Busy d) = 0 < d

unfoldable pub past_of : Sight → Stride → Bool → Leap
past_of s r even =
    cond (ltb s.k r.remaining) (To (record { sight = s; even = even }))
    (Past (record { n = r.n; wants = r.wants; free = r.free; k = s.k - r.remaining }))

-- the same subframe is looked for from another unit
pub record Onward (ms : Messages) (u : ℕ → Bool) (table : Timetable) (s r : Sight) : Type 0 where
  pub same : rank (remaining ms u) (begin_of table s.n) + s.k ≡ rank (remaining ms u) (begin_of table r.n) + r.k
  pub exact : Exact ms u table r.n r.wants

pub record Leapt (table : Timetable) (u : ℕ → Bool) (s : Sight) (end : ℕ) (r : Sight) : Type 0 where
  pub most : r.n ≤ end
  pub seen : Seen table u r
  pub less : r.k ≤ s.k
  pub onward : (ms : Messages) → Serves ms table → Exact ms u table s.n s.wants → Onward ms u table s r

-- it is in what was passed, and at hand if what remains there does so evenly
pub record Held (table : Timetable) (u : ℕ → Bool) (s : Sight) (far : Bool) (r : Reached) : Type 0 where
  pub near : r.sight.k < 2 ^ 29
  pub even : far ≡ false → r.even ≡ true
  pub here : (ms : Messages) → Serves ms table → Exact ms u table s.n s.wants → r.even ≡ true
      → Here ms u table r.sight.n r.sight.wants r.sight.k

abbrev pub Leaps : Timetable → (ℕ → Bool) → Sight → ℕ → Bool → Leap → Type 0
Leaps table u s end far (Past r) = Leapt table u s end r × (s.n < r.n)
Leaps table u s end far (To r) = Leapt table u s end r.sight × Held table u s far r
