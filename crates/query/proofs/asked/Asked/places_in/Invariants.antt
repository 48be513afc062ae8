use Rattle.std.proofs.Common.{◌≤◌}
use Rattle.query.proofs.asked.Asked.places_in.Given as goal

abbrev pub invariant-loop-x : goal.invariant-loop-x
invariant-loop-x l = l.places ≤ l.x
