use Rattle.std.proofs.Common.{◌≤◌, length, string_bytes}
use Rattle.query.proofs.Session.answer_lines.Given as goal

abbrev pub invariant-loop-b : goal.invariant-loop-b
invariant-loop-b g l = length (string_bytes l.self.answers) ≤ 65536
