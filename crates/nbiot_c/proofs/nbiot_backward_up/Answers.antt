use mathlib.Core.Path.{◌∙◌}
use borrow.Author.Tests.{le-ltb}
use Rattle.buffers.specs.Buffers.{windows_of}
use Rattle.nbiot_c.proofs.nbiot_backward_up.Goals as goal

pub returns : goal.returns
unfolding windows_of
returns c = simp (le-ltb _ _ c.if-grant-lt7.false, le-ltb _ _ c.if-answer-lt5.false) (c.put_back.ensures ∙ simp (c.backward-a.ensures, c.npusch_at.ensures))
