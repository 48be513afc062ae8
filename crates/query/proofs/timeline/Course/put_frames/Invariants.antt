use Rattle.std.proofs.Common.{◌+◌, ◌*◌, ◌≤◌, length, string_bytes, string_capacity}
use Rattle.query.proofs.timeline.Course.put_frames.Given as goal

-- at most 64 bytes a row
abbrev pub invariant-loop-frame : goal.invariant-loop-frame
invariant-loop-frame l = record {
  written : length (string_bytes l.out) + 64 * l.first ≤ length (string_bytes l.initial.out) + 64 * l.frame;
  room : string_capacity l.initial.out ≤ string_capacity l.out;
}
