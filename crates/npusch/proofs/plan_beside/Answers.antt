use Rattle.npusch.specs.Refusals.{refusal}
use Rattle.npusch.specs.Shaping.{shape_of}
use Rattle.npusch.specs.Questions.{plan_of}
use Rattle.npusch.proofs.plan_beside.Goals as goal

pub returns : goal.returns
unfolding plan_of refusal shape_of
returns c = c.plan_beside.ensures
