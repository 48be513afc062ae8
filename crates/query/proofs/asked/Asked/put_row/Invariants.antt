use Rattle.std.proofs.Common.{◌+◌, ◌*◌, ◌≤◌, length, string_bytes, string_capacity}
use Rattle.query.proofs.asked.Asked.put_row.Given as goal

-- a space and seven signs a slot
abbrev pub invariant-loop-slot : goal.invariant-loop-slot
invariant-loop-slot l = record {
  written : length (string_bytes l.out) ≤ length (string_bytes l.initial.out) + 8 * l.slot;
  room : string_capacity l.initial.out ≤ string_capacity l.out;
}
