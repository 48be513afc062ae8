use Rattle.npusch.specs.Refusals.{refusal}
use Rattle.npusch.specs.Shaping.{shape_of}
use Rattle.npusch.specs.Questions.{forward_of}
use Rattle.plain_uplink.proofs.forward_npusch.Goals as goal

pub returns : goal.returns
unfolding forward_of refusal shape_of
returns c = c.forward_of.ensures
