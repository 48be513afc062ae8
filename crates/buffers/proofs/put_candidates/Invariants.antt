use Rattle.std.proofs.Common.{◌≡◌}
use Rattle.std.proofs.lemmas.List.Edits.{sets}
use Rattle.buffers.specs.Buffers.{candidate_numbers}
use Rattle.buffers.proofs.put_candidates.Given as goal

abbrev pub invariant-loop-k : goal.invariant-loop-k
invariant-loop-k l = l.s ≡ sets l.initial.s 3 (candidate_numbers l.x-items 0 l.k)
