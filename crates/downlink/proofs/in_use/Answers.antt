use mathlib.Core.Path.{sym, ap, ◌∙◌}
use native.Mathlib.Omega.{arith}
use Rattle.sending.specs.Answer.{back_of}
use Rattle.elements.proofs.Laws.{use_used, use_unused}
use Rattle.downlink.proofs.Joined.{content_ours, content_unused}
use Rattle.downlink.proofs.in_use.Goals as goal

pub returns-in-Used : goal.returns-in-Used
returns-in-Used c =
    λ x e.
    let o = use_used c.args.b.layout c.args.b.low c.args.b.width x _ (sym e ∙ c.in-Used.is) in
    c.ours.ensures
    ∙ ap back_of (content_ours c.args.b c.args.i x _ _ _ _ _ o.0 c.used_elements-w.ensures.0 (sym o.1) c.carried_by-unit.ensures.0
    c.item.ensures c.item-in-Used.ensures)

pub returns-in-Unused : goal.returns-in-Unused
returns-in-Unused c =
    λ x e.
    let o = use_unused c.args.b.layout c.args.b.low c.args.b.width x c.in-Unused.kind (sym e ∙ c.in-Unused.is) in
    c.not_ours.ensures ∙ ap back_of (content_unused c.args.b c.args.i x _ o.0 (c.number.ensures ∙ sym o.1))

pub used_elements-w-requires : goal.used_elements-w-requires
used_elements-w-requires c = c.requires.0

pub carried_by-unit-requires : goal.carried_by-unit-requires
carried_by-unit-requires c = c.requires.0

pub item-requires : goal.item-requires
item-requires c = (omega (arith, c.carried_by-unit.ensures.1), omega (arith, c.used_elements-w.ensures.2), omega (arith, c.used_elements-w.ensures.0, c.requires.2 c.in-Used.e c.in-Used.is))

pub item-requires-in-Used : goal.item-requires-in-Used
item-requires-in-Used c =
    (omega (arith, c.requires.1), omega (arith, c.used_elements-w.ensures.2), omega (arith, c.used_elements-w.ensures.0, c.requires.2 c.in-Used.e c.in-Used.is))
