use Rattle.nbiot.proofs.bitmap.Goals as goal

pub returns : goal.returns
returns c = c.in_force.ensures
