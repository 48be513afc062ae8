use mathlib.Core.Path.{◌∙◌}
use borrow.Author.Tests.{le-ltb}
use Rattle.buffers.proofs.Parts.{to_end}
use Rattle.nbiot_c.proofs.nbiot_element.Goals as goal

pub returns : goal.returns
returns c = simp (le-ltb _ _ c.if-cell-lt8.false, le-ltb _ _ c.if-grant-lt5.false, le-ltb _ _ c.if-answer-lt2.false, le-ltb _ _ c.if-amplitudes-lt2.false) (c.put_element.ensures ∙ simp (c.element_lent-e.ensures, c.npdsch_at-g.ensures, c.config_at-c.ensures, to_end))
