use Rattle.std.proofs.Common.{◌≡◌, ◌≤◌, ◌+◌, ◌*◌, ◌++◌, List, ℕ, length, string_bytes, string_capacity}
use Rattle.std.specs.Str.Iter.{lines_rest}
use Rattle.answers.proofs.told.write_lines_of.Given as goal

abbrev pub invariant-loop-line : goal.invariant-loop-line
invariant-loop-line l =
    ((lines : List ℕ) × (string_bytes l.out ≡ string_bytes l.initial.out ++ lines))
    × (length (string_bytes l.out) + length (lines_rest l.line-iterator) * 2 ≤
    length (string_bytes l.initial.out) + 12634)
    × (string_capacity l.initial.out ≤ string_capacity l.out)
