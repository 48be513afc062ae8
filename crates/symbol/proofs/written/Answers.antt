use Rattle.symbol.proofs.written.Goals as goal

pub symbol_at-requires : goal.symbol_at-requires
symbol_at-requires c = c.requires c.if-ours.true

pub returns-then-ours : goal.returns-then-ours
returns-then-ours c = simp (c.if-ours.true, c.symbol_at.ensures)

pub returns : goal.returns
returns c = simp c.if-ours.false
