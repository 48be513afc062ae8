use Rattle.std.proofs.Common.{◌≡◌, ◌≤◌, ◌+◌, length, string_bytes, string_capacity}
use Rattle.query.proofs.asked.Asked.put_signs.Given as goal

abbrev pub invariant-loop-l : goal.invariant-loop-l
invariant-loop-l l = record {
  written : length (string_bytes l.out) ≡ length (string_bytes l.initial.out) + l.l;
  room : string_capacity l.initial.out ≤ string_capacity l.out;
}
