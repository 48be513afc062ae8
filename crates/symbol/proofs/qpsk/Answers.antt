use Rattle.symbol.proofs.qpsk.Goals as goal

pub returns : goal.returns
returns c = simp (c.sign-2.ensures, c.sign.ensures)
