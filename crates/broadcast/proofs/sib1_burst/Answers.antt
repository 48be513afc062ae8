use Rattle.broadcast.proofs.sib1_burst.Goals as goal

pub returns : goal.returns
returns c = simp (c.burst.ensures, c.sib1_copies-copies.ensures, c.sib1_control-control.ensures)
