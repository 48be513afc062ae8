use Rattle.std.proofs.Common.{◌+◌, ◌*◌, ◌≤◌, length, string_bytes, string_capacity}
use Rattle.query.proofs.asked.Asked.put_rows.Given as goal

-- at most 40 bytes for each of the rows that are left
abbrev pub invariant-loop-k : goal.invariant-loop-k
invariant-loop-k l = record {
  written : length (string_bytes l.out) + 40 * l.k ≤ length (string_bytes l.initial.out) + 1920;
  room : string_capacity l.initial.out ≤ string_capacity l.out;
}
