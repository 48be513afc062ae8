use Rattle.npdcch.specs.Questions.{forward_of}
use Rattle.npdcch.proofs.forward.Goals as goal

pub returns : goal.returns
unfolding forward_of
returns c = c.forward.ensures
