use Rattle.harq_ack.specs.Refusals.{refusal}
use Rattle.harq_ack.specs.Shaping.{shape_of}
use Rattle.harq_ack.specs.Questions.{backward_of}
use Rattle.harq_ack.proofs.backward.Goals as goal

pub returns : goal.returns
unfolding backward_of refusal shape_of
returns c = c.backward.ensures
