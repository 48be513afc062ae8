use Rattle.npdcch.specs.Questions.{backward_of}
use Rattle.npdcch.proofs.backward.Goals as goal

pub returns : goal.returns
unfolding backward_of
returns c = c.backward.ensures
