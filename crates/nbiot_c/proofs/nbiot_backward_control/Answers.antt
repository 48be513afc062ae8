use mathlib.Core.Path.{◌∙◌}
use borrow.Author.Tests.{le-ltb}
use Rattle.buffers.proofs.Parts.{to_end}
use Rattle.nbiot_c.proofs.nbiot_backward_control.Goals as goal

pub returns : goal.returns
returns c = simp (le-ltb _ _ c.if-cell-lt8.false, le-ltb _ _ c.if-grant-lt4.false, le-ltb _ _ c.if-answer-lt6.false) (c.put_downlink_back.ensures ∙ simp (c.backward_lent-a.ensures, c.npdcch_at-g.ensures, c.config_at-c.ensures, to_end))
