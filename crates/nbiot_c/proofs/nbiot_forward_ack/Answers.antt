use mathlib.Core.Path.{◌∙◌}
use borrow.Author.Tests.{le-ltb}
use Rattle.buffers.specs.Buffers.{windows_of}
use Rattle.nbiot_c.proofs.nbiot_forward_ack.Goals as goal

pub returns : goal.returns
unfolding windows_of
returns c = simp (le-ltb _ _ c.if-grant-lt4.false, le-ltb _ _ c.if-answer-lt5.false) (c.put_uplink_place.ensures ∙ simp (c.forward-a.ensures, c.harq_ack_at.ensures))
