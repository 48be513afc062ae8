use Rattle.std.proofs.Common.{◌≤◌, length, string_bytes}
use Rattle.query.proofs.run.Given as goal

abbrev pub invariant-loop : goal.invariant-loop
invariant-loop g l = length (string_bytes l.session.answers) ≤ 65536
