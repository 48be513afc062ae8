use Rattle.downlink.proofs.place.Goals as goal

pub returns : goal.returns
returns c = simp (c.subcarrier.ensures, c.symbol.ensures, c.slot.ensures)
