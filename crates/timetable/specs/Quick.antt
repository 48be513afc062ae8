-- For the code alone. What the quick search works out on the way.
use Rattle.std.specs.Prelude.{List, Bool, true, ◌≡◌, ℕ, ◌+◌, ◌*◌, ◌%◌, ◌^◌, ◌≤◌, ◌<◌}
use Rattle.counting.specs.Counting.{rank}
use Rattle.spans.specs.declared.Pattern.{Pattern}
use Rattle.spans.specs.Pattern.{allows}
use Rattle.units.specs.declared.Timetable.{Timetable}
use Rattle.units.specs.declared.Sight.{Sight}
use Rattle.timetable.specs.declared.Sought.{Sought}
use Rattle.timetable.specs.declared.Hit.{Hit}
use Rattle.timetable.specs.declared.Part.{Part}
use Rattle.messages.specs.declared.Messages.{Messages}
use Rattle.messages.specs.Messages.{remaining}
use Rattle.units.specs.Quick.{Sized, begin_of, Seen, Exact, Allowing, Serves}
use Rattle.strides.specs.Quick.{Here}

-- the same subframe is looked for from a later unit; before `end` it is at hand, if what remains there does so evenly
pub record Scanned (ms : Messages) (u : ℕ → Bool) (table : Timetable) (s : Sight) (end : ℕ) (even : Bool) (r : Sight)
    : Type 0 where
  pub same : rank (remaining ms u) (begin_of table s.n) + s.k ≡ rank (remaining ms u) (begin_of table r.n) + r.k
  pub exact : Exact ms u table r.n r.wants
  pub here : even ≡ true → r.n < end → Here ms u table r.n r.wants r.k

-- what is wanted at unit n is that of messages that leave some
pub record Sighted (table : Timetable) (u : ℕ → Bool) (n : ℕ) (w : List ℕ) : Type 0 where
  pub ms : Messages
  pub serves : Serves ms table
  pub exact : Exact ms u table n w
  pub some : 0 < rank (remaining ms u) (table.unit * table.units)

-- subframe t, five periods on, follows the first k remaining ones from unit n on
pub record SightAt (ms : Messages) (u : ℕ → Bool) (table : Timetable) (t : ℕ) (s : Sight) : Type 0 where
  pub exact : Exact ms u table s.n s.wants
  pub same : rank (remaining ms u) (begin_of table s.n) + s.k
      ≡ rank (remaining ms u) (t + 5 * (table.unit * table.units))

-- the table of messages that leave some, and the sight of subframe `from` in it
pub record SoughtAt (ms : Messages) (p : Pattern) (from : ℕ) (r : Sought) : Type 0 where
  pub serves : Serves ms r.table
  pub sized : Sized r.table
  pub allowing : Allowing p
  pub some : 0 < rank (remaining ms (allows p)) (r.table.unit * r.table.units)
  pub seen : Seen r.table (allows p) r.sight
  pub early : r.sight.n < 2 ^ 14
  pub few : r.sight.k ≤ 160
  pub sight : SightAt ms (allows p) r.table (from % (r.table.unit * r.table.units)) r.sight

-- the subframe after j more
abbrev pub moved : Sight → ℕ → Sight
moved s j = record { n = s.n; wants = s.wants; free = s.free; k = s.k + j }

-- the same subframe is at hand from a later unit on, whole periods before
pub record Hits (ms : Messages) (u : ℕ → Bool) (table : Timetable) (s : Sight) (h : Hit) : Type 0 where
  pub exact : Exact ms u table h.sight.n h.sight.wants
  pub here : Here ms u table h.sight.n h.sight.wants h.sight.k
  pub turns : ℕ
  pub later : h.later ≡ turns * (table.unit * table.units)
  pub same : rank (remaining ms u) (begin_of table s.n) + s.k
      ≡ rank (remaining ms u) (begin_of table h.sight.n) + h.sight.k
      + turns * rank (remaining ms u) (table.unit * table.units)

-- one that follows subframe `from`
pub record Struck (table : Timetable) (u : ℕ → Bool) (from : ℕ) (h : Hit) : Type 0 where
  pub ms : Messages
  pub serves : Serves ms table
  pub s : Sight
  pub j : ℕ
  pub sight : SightAt ms u table (from % (table.unit * table.units)) s
  pub hits : Hits ms u table (moved s j) h

-- what is wanted at unit n is that of some messages
pub record Exactly (table : Timetable) (u : ℕ → Bool) (n : ℕ) (w : List ℕ) : Type 0 where
  pub ms : Messages
  pub serves : Serves ms table
  pub exact : Exact ms u table n w

-- k remain from unit n on before unit r .n
pub record Counted (ms : Messages) (u : ℕ → Bool) (table : Timetable) (n : ℕ) (r : Sight) : Type 0 where
  pub exact : Exact ms u table r.n r.wants
  pub count : rank (remaining ms u) (begin_of table n) + r.k ≡ rank (remaining ms u) (begin_of table r.n)

-- how many lie between the sight's subframe and t, five periods on, and whether t remains
pub record Parted (ms : Messages) (u : ℕ → Bool) (table : Timetable) (s : Sight) (t : ℕ) (r : Part) : Type 0 where
  pub before : rank (remaining ms u) (begin_of table s.n) + s.k + r.before
      ≡ rank (remaining ms u) (t + 5 * (table.unit * table.units))
  pub remains : r.remains ≡ remaining ms u t
  pub here : Counted ms u table s.n r.here

-- the table of some listed messages
pub record Served (table : Timetable) : Type 0 where
  pub ms : Messages
  pub serves : Serves ms table

-- subframe t, five periods on, is not before the sight's
pub record Ahead (table : Timetable) (u : ℕ → Bool) (s : Sight) (t : ℕ) : Type 0 where
  pub ms : Messages
  pub serves : Serves ms table
  pub exact : Exact ms u table s.n s.wants
  pub early : rank (remaining ms u) (begin_of table s.n) + s.k
      ≤ rank (remaining ms u) (t + 5 * (table.unit * table.units))
