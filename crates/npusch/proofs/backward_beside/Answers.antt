use Rattle.npusch.specs.Refusals.{refusal}
use Rattle.npusch.specs.Shaping.{shape_of}
use Rattle.npusch.specs.Questions.{backward_of}
use Rattle.npusch.proofs.backward_beside.Goals as goal

pub returns : goal.returns
unfolding backward_of refusal shape_of
returns c = c.backward_beside.ensures
