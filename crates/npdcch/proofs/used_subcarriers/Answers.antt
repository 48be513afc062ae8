use borrow.Author.Tests.{eq-eqb, ne_eqb}
use Rattle.npdcch.proofs.used_subcarriers.Goals as goal

pub returns-then-format-eq0 : goal.returns-then-format-eq0
returns-then-format-eq0 c = simp (eq-eqb _ _ c.if-format-eq0.true)

pub returns : goal.returns
returns c = simp (ne_eqb _ _ c.if-format-eq0.false)
