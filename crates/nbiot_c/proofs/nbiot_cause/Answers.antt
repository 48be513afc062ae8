use mathlib.Core.Path.{◌∙◌}
use borrow.Author.Tests.{le-ltb}
use Rattle.buffers.proofs.Parts.{to_end}
use Rattle.nbiot_c.proofs.nbiot_cause.Goals as goal

pub returns : goal.returns
returns c = simp (le-ltb _ _ c.if-cell-lt8.false, le-ltb _ _ c.if-answer-lt2.false) (c.put_cause.ensures ∙ simp (c.cause_lent-a.ensures, c.config_at.ensures, to_end))
