use mathlib.Core.Path.{ap₂, ◌∙◌}
use borrow.Author.Tests.{le-ltb}
use Rattle.buffers.proofs.Parts.{to_end}
use Rattle.nbiot_c.proofs.nbiot_fill.Goals as goal

pub returns : goal.returns
returns c =
    simp (le-ltb _ _ c.if-cell-lt8.false, le-ltb _ _ c.if-grant-lt5.false)
    (ap₂ (λ x y. (x, y)) c.fill_lent.ensures.0 c.fill_lent.ensures.1
    ∙ simp (c.npdsch_at-g.ensures, c.config_at-c.ensures, to_end))
