use Rattle.npdcch.specs.Questions.{forward_of}
use Rattle.plain_downlink.proofs.forward_npdcch.Goals as goal

pub returns : goal.returns
unfolding forward_of
returns c = c.forward.ensures
