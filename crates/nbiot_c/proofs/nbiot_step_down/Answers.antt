-- A step by what forward answers, and by plan where that is 14.
use mathlib.Core.Logic.{inl, inr}
use mathlib.Core.Path.{◌∙◌}
use native.Mathlib.Omega.{arith}
use borrow.Author.Tests.{le-ltb}
use Rattle.walk.specs.Step.{asked}
use Rattle.buffers.specs.Buffers.{npdsch_walk}
use Rattle.buffers.proofs.Parts.{to_end}
use Rattle.buffers.proofs.Steps.{next_fits, stepped_by}
use Rattle.nbiot_c.proofs.nbiot_step_down.Goals.{then-a-eq-NO_SUCH_PLACE, else-a-eq-NO_SUCH_PLACE}
use Rattle.nbiot_c.proofs.nbiot_step_down.Goals as goal

pub put_step-requires : goal.put_step-requires
unfolding asked
put_step-requires c =
    let x = c.args in
    let place = c.from-a.ensures ∙ simp (c.forward_lent.ensures, c.npdsch_at-g.ensures, c.config_at-c.ensures, to_end) in
    (omega arith, c.if-answer-lt7.false, next_fits (npdsch_walk x.walk.now) x.anchor.now x.other.now _ place)

pub returns : goal.returns
unfolding asked
returns c =
    let x = c.args in
    let place = c.from-a.ensures ∙ simp (c.forward_lent.ensures, c.npdsch_at-g.ensures, c.config_at-c.ensures, to_end) in
    simp (le-ltb _ _ c.if-walk-lt14.false, le-ltb _ _ c.if-answer-lt7.false)
    (c.put_step.ensures ∙ stepped_by (npdsch_walk x.walk.now) x.anchor.now x.other.now _ place x.walk.now x.answer.now
    (elim c.if-a-eq-NO_SUCH_PLACE.branch [
      | then-a-eq-NO_SUCH_PLACE w ↦ inl (
        w.if-a-eq-NO_SUCH_PLACE.true,
        w.end-is ∙ w.is_end-end.ensures
            ∙ simp (w.downlink_total.ensures.0, w.downlink_total.ensures.1, w.plan_lent.ensures, c.npdsch_at-g.ensures, c.config_at-c.ensures, to_end),
      )
      | else-a-eq-NO_SUCH_PLACE w ↦ inr (w.if-a-eq-NO_SUCH_PLACE.false, w.end-is)
    ]))
