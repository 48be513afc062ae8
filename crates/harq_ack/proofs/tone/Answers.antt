use Rattle.harq_ack.specs.Fields.{tone_of}
use Rattle.harq_ack.proofs.tone.Goals as goal

pub returns : goal.returns
unfolding tone_of
returns c = c.by_spacing.ensures
