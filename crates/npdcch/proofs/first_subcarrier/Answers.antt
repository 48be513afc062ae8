use mathlib.Core.Path.{refl}
use borrow.Author.Tests.{eq-eqb, ne_eqb}
use Rattle.npdcch.proofs.first_subcarrier.Goals as goal

pub returns-then-format-eq0 : goal.returns-then-format-eq0
returns-then-format-eq0 c = rw (eq-eqb _ _ c.if-format-eq0.true) refl

pub returns : goal.returns
returns c = simp (ne_eqb _ _ c.if-format-eq0.false)
