use Rattle.std.proofs.Common.{◌≡◌, ◌≤◌, ◌+◌, ◌*◌, ◌++◌, length, string_bytes, string_capacity}
use Rattle.std.specs.List.{flat_map}
use Rattle.std.specs.Slice.Iter.{chunks_rest, chunks_size}
use Rattle.answers.specs.Answers.{number_text}
use Rattle.answers.proofs.hex.write_patterns.Given as goal

abbrev pub invariant-loop-group : goal.invariant-loop-group
invariant-loop-group l =
    goal.iterator-loop-group.can_next l.group-iterator
    × goal.iterator-loop-group.is_finite l.group-iterator
    × (chunks_size l.group-iterator ≡ 8)
    × (string_bytes l.out ++ flat_map number_text (chunks_rest l.group-iterator)
    ≡ string_bytes l.initial.out ++ flat_map number_text l.numbers)
    × (length (string_bytes l.out) + length (chunks_rest l.group-iterator) * 9
    ≤ length (string_bytes l.initial.out) + length l.numbers * 9)
    × (string_capacity l.initial.out ≤ string_capacity l.out)
