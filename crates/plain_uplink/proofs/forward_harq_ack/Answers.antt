use Rattle.harq_ack.specs.Refusals.{refusal}
use Rattle.harq_ack.specs.Shaping.{shape_of}
use Rattle.harq_ack.specs.Questions.{forward_of}
use Rattle.plain_uplink.proofs.forward_harq_ack.Goals as goal

pub returns : goal.returns
unfolding forward_of refusal shape_of
returns c = c.forward_of.ensures
