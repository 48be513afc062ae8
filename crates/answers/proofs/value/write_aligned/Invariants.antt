use Rattle.std.proofs.Common.{◌≡◌, ◌≤◌, ◌-◌, ◌++◌, length, replicate, string_bytes, string_capacity}
use Rattle.answers.proofs.value.write_aligned.Given as goal

-- so many spaces, and no more than there is room for before the digits, stand after what stood there
abbrev pub invariant-loop : goal.invariant-loop
invariant-loop l = record {
  spaces : string_bytes l.out ≡ string_bytes l.initial.out ++ replicate (l.counter - length l.digits) 32;
  few : l.counter - length l.digits ≤ l.width - length l.digits;
  room : string_capacity l.initial.out ≤ string_capacity l.out;
}
