use Rattle.harq_ack.specs.Refusals.{refusal}
use Rattle.harq_ack.specs.Shaping.{shape_of}
use Rattle.harq_ack.specs.Questions.{plan_of}
use Rattle.harq_ack.proofs.plan_beside.Goals as goal

pub returns : goal.returns
unfolding plan_of refusal shape_of
returns c = c.plan_beside.ensures
