use Rattle.std.proofs.Common.{◌≡◌, take, length}
use Rattle.std.specs.List.{flat_map}
use Rattle.std.specs.Str.{IsAscii}
use Rattle.answers.specs.Answers.{number_text}
use Rattle.answers.proofs.hex.write_group.Given as goal

abbrev pub invariant-loop-i : goal.invariant-loop-i
invariant-loop-i l =
    (length l.patterns ≡ 8)
    × (flat_map (λ x. x) (take l.i l.patterns) ≡ flat_map number_text (take l.i l.numbers))
    × IsAscii (flat_map number_text (take l.i l.numbers))
