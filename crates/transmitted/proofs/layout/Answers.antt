use Rattle.transmitted.proofs.layout.Goals as goal

pub returns : goal.returns
returns c = simp c.requires
