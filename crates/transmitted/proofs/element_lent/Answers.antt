use mathlib.Core.Path.{sym, subst, ◌∙◌}
use Rattle.elements.specs.declared.Layout.{Layout}
use Rattle.transmitted.specs.Quick.{Prepared}
use Rattle.transmitted.proofs.Going.{goes_within}
use Rattle.transmitted.proofs.Answering.{element_inside, element_refused, element_answered}
use Rattle.transmitted.proofs.element_lent.Goals as goal

pub outgoing-o-requires : goal.outgoing-o-requires
outgoing-o-requires c =
    let j = rw c.is_inside-inside.ensures at c.in-Ok.ensures in
    let i = element_inside _ _ _ _ _ _ _ c.args.slot c.args.l c.args.k c.in-Ok.call j in
    let p = subst (λ (g : Layout). Prepared g c.in-Ok.call.first c.args.bits.now) (sym c.layout.ensures) j.accepted.prepared in
    (p.valid, p.small, i.0, i.1, i.2)

pub answer-requires : goal.answer-requires
answer-requires c =
    goes_within _ _ _ _ _ (subst (λ (g : Layout). Prepared g c.in-Ok.call.first c.args.bits.now) (sym c.layout.ensures) c.in-Ok.ensures.accepted.prepared)
    c.outgoing-o.ensures

pub returns-in-Ok : goal.returns-in-Ok
returns-in-Ok c =
    let j = rw c.is_inside-inside.ensures at c.in-Ok.ensures in
    c.answer.ensures
    ∙ element_answered _ _ _ _ _ _ _ c.args.slot c.args.l c.args.k c.in-Ok.call j _ _ c.layout.ensures c.outgoing-o.ensures

pub returns-in-Err : goal.returns-in-Err
returns-in-Err c =
    let j = rw c.is_inside-inside.ensures at c.in-Err.ensures in
    rw c.number.ensures (element_refused _ _ _ _ _ _ _ c.args.slot c.args.l c.args.k c.in-Err.refusal j.number)
