use Rattle.npdcch.specs.Questions.{plan_of}
use Rattle.npdcch.proofs.plan.Goals as goal

pub returns : goal.returns
unfolding plan_of
returns c = c.plan.ensures
