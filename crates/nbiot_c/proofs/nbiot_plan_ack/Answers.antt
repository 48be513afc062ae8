use mathlib.Core.Path.{◌∙◌}
use borrow.Author.Tests.{le-ltb}
use Rattle.buffers.specs.Buffers.{windows_of}
use Rattle.nbiot_c.proofs.nbiot_plan_ack.Goals as goal

pub returns : goal.returns
unfolding windows_of
returns c = simp (le-ltb _ _ c.if-grant-lt4.false, le-ltb _ _ c.if-answer-lt7.false) (c.put_uplink_plan.ensures ∙ simp (c.plan-a.ensures, c.harq_ack_at.ensures))
