-- A step by what forward answers, and by plan where that is 14.
use mathlib.Core.List.{[]}
use mathlib.Core.Logic.{inl, inr}
use mathlib.Core.Path.{◌∙◌}
use native.Mathlib.Omega.{arith}
use borrow.Author.Tests.{le-ltb}
use Rattle.walk.specs.Step.{asked}
use Rattle.buffers.specs.Buffers.{windows_of}
use Rattle.buffers.specs.Buffers.{harq_ack_walk}
use Rattle.buffers.proofs.Steps.{next_fits, stepped_by}
use Rattle.nbiot_c.proofs.nbiot_step_ack.Goals.{then-a-eq-NO_SUCH_PLACE, else-a-eq-NO_SUCH_PLACE}
use Rattle.nbiot_c.proofs.nbiot_step_ack.Goals as goal

pub put_step-requires : goal.put_step-requires
unfolding asked windows_of
put_step-requires c =
    let x = c.args in
    let place = c.from-a.ensures ∙ simp (c.forward.ensures, c.harq_ack_at-g.ensures) in
    (omega arith, c.if-answer-lt7.false, next_fits (harq_ack_walk x.walk.now []) [] [] _ place)

pub returns : goal.returns
unfolding asked windows_of
returns c =
    let x = c.args in
    let place = c.from-a.ensures ∙ simp (c.forward.ensures, c.harq_ack_at-g.ensures) in
    simp (le-ltb _ _ c.if-walk-lt5.false, le-ltb _ _ c.if-answer-lt7.false)
    (c.put_step.ensures ∙ stepped_by (harq_ack_walk x.walk.now []) [] [] _ place x.walk.now x.answer.now
    (elim c.if-a-eq-NO_SUCH_PLACE.branch [
      | then-a-eq-NO_SUCH_PLACE w ↦ inl (
        w.if-a-eq-NO_SUCH_PLACE.true,
        w.end-is ∙ w.is_end-end.ensures
            ∙ simp (w.uplink_total.ensures.0, w.uplink_total.ensures.1, w.plan_ack_beside.ensures, c.harq_ack_at-g.ensures),
      )
      | else-a-eq-NO_SUCH_PLACE w ↦ inr (w.if-a-eq-NO_SUCH_PLACE.false, w.end-is)
    ]))
