use mathlib.Core.Path.{sym, subst, ◌∙◌}
use native.Mathlib.Omega.{arith}
use Rattle.uplink.specs.Quick.{Located}
use Rattle.uplink.proofs.Splitting.{unlocated, located, passed, inactive}
use Rattle.uplink.proofs.locate.Goals as goal

pub returns-then-slot-s : goal.returns-then-slot-s
returns-then-slot-s g c = unlocated c.args.s (g.O.OpenGroups.is_open c.args.groups) c.args.slot c.if-slot-s.true

pub returns-in_err-i : goal.returns-in_err-i
returns-in_err-i g c =
    subst (Located c.args.s (g.O.OpenGroups.is_open c.args.groups) c.args.slot) (sym c.from_residual.ensures)
    (inactive c.args.s (g.O.OpenGroups.is_open c.args.groups) c.args.slot c.if-slot-s.false (sym c.in_err-i.was ∙ c.index.ensures))

pub returns-then-i-sent_slots : goal.returns-then-i-sent_slots
returns-then-i-sent_slots g c =
    located c.args.s (g.O.OpenGroups.is_open c.args.groups) c.args.slot c.in_ok-i.i c.if-slot-s.false (sym c.in_ok-i.was ∙ c.index.ensures)
    (omega (arith, c.if-i-sent_slots.true, c.sent_slots.ensures.0))

pub returns-else-i-sent_slots : goal.returns-else-i-sent_slots
returns-else-i-sent_slots g c =
    passed c.args.s (g.O.OpenGroups.is_open c.args.groups) c.args.slot c.in_ok-i.i c.if-slot-s.false (sym c.in_ok-i.was ∙ c.index.ensures)
    (omega (arith, c.if-i-sent_slots.false, c.sent_slots.ensures.0))
