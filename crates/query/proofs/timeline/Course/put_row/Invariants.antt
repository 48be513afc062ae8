use Rattle.std.proofs.Common.{◌+◌, ◌≤◌, length, string_bytes, string_capacity}
use Rattle.query.proofs.timeline.Course.put_row.Given as goal

abbrev pub invariant-loop-i : goal.invariant-loop-i
invariant-loop-i l = record {
  written : length (string_bytes l.out) ≤ length (string_bytes l.initial.out) + l.i;
  room : string_capacity l.initial.out ≤ string_capacity l.out;
}
