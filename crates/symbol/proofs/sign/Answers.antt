use Rattle.symbol.proofs.sign.Goals as goal

pub returns-then-bit : goal.returns-then-bit
returns-then-bit c = simp c.if-bit.true

pub returns : goal.returns
returns c = simp c.if-bit.false
