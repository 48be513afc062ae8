use Prim.Native.Nat.{◌-◌, ◌≤◌}
use Rattle.spans.specs.Pattern.{allows}
use Rattle.messages.specs.declared.Messages.{Messages}
use Rattle.units.specs.Quick.{Seen, Serves, Exact}
use Rattle.strides.specs.Quick.{Keeps, Onward}
use Rattle.timetable.proofs.scan.Given as goal

-- what is wanted is exact, and the same subframe is looked for
abbrev pub invariant-loop-at : goal.invariant-loop-at
invariant-loop-at l = record {
  most : l.at.n ≤ l.end;
  seen : Seen l.table (allows l.p) l.at;
  less : l.at.k ≤ l.initial.at.k;
  keeps : Keeps l.table (allows l.p) l.kept;
  onward : (ms : Messages) → Serves ms l.table → Exact ms (allows l.p) l.table l.initial.at.n l.initial.at.wants → Onward ms (allows l.p) l.table l.initial.at l.at;
}

abbrev pub decreases-loop-at : goal.decreases-loop-at
decreases-loop-at l = l.end - l.at.n
