use Rattle.std.proofs.Common.{◌≡◌, ◌≤◌, ◌+◌, ◌*◌, ◌++◌, take, length, string_bytes, string_capacity}
use Rattle.std.specs.List.{flat_map}
use Rattle.answers.specs.Answers.{candidate_text}
use Rattle.answers.proofs.write_candidates.Given as goal

abbrev pub invariant-loop-candidate : goal.invariant-loop-candidate
invariant-loop-candidate l =
    (string_bytes l.out ≡
    string_bytes l.initial.out ++ flat_map candidate_text (take l.candidate-index l.candidate-items))
    × (length (string_bytes l.out) ≤ length (string_bytes l.initial.out) + l.candidate-index * 96)
    × (string_capacity l.initial.out ≤ string_capacity l.out)
