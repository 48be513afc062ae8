use Rattle.npdcch.specs.Questions.{forward_of}
use Rattle.npdcch.proofs.forward_lent.Goals as goal

pub returns : goal.returns
unfolding forward_of
returns c = c.forward_lent.ensures
