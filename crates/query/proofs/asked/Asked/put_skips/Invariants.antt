use Rattle.std.proofs.Common.{◌+◌, ◌*◌, ◌≤◌, length, string_bytes, string_capacity}
use Rattle.query.specs.declared.picture.TheConstants.{LISTED}
use Rattle.query.proofs.asked.Asked.put_skips.Given as goal

-- at most 32 bytes a subframe, and no more subframes than are listed
abbrev pub invariant-loop-before : goal.invariant-loop-before
invariant-loop-before l = record {
  written : length (string_bytes l.out) + 32 * l.t ≤ length (string_bytes l.initial.out) + 32 * l.before;
  listed : l.before ≤ l.t + LISTED;
  room : string_capacity l.initial.out ≤ string_capacity l.out;
}
