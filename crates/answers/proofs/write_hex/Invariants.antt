use Rattle.std.proofs.Common.{◌≡◌, ◌≤◌, ◌+◌, ◌*◌, ◌++◌, take, length, string_bytes, string_capacity}
use Rattle.std.specs.List.{flat_map}
use Rattle.answers.specs.Line.{hex}
use Rattle.answers.proofs.write_hex.Given as goal

abbrev pub invariant-loop-b : goal.invariant-loop-b
invariant-loop-b l =
    (string_bytes l.out ≡ string_bytes l.initial.out ++ flat_map (λ x. hex 2 x) (take l.b-index l.bytes))
    × (length (string_bytes l.out) ≤ length (string_bytes l.initial.out) + l.b-index * 2)
    × (string_capacity l.initial.out ≤ string_capacity l.out)
