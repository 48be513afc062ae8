use Rattle.npdsch.specs.Questions.{forward_of}
use Rattle.npdsch.proofs.forward_lent.Goals as goal

pub returns : goal.returns
unfolding forward_of
returns c = c.forward_lent.ensures
