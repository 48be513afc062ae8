use mathlib.Core.Path.{sym, ap, ◌∙◌}
use Prim.Native.Nat.{◌<◌}
use native.Mathlib.Nat.{div-lt_iff_lt-mul, le-div_iff_mul-le}
use native.Mathlib.Omega.{arith}
use Rattle.sending.proofs.Answer.{past_at}
use Rattle.uplink.specs.declared.Split.{Split}
use Rattle.uplink.specs.Timing.{sent_slots}
use Rattle.uplink.specs.Mapping.{sending_of}
use Rattle.uplink.specs.Scaffold.{places}
use Rattle.uplink.specs.Answers.{refused_place, place_of}
use Rattle.uplink.proofs.Lines.{some_data}
use Rattle.uplink.proofs.Joined.{forward_is}
use Rattle.uplink.proofs.forward.Goals.{After-slot_data-w, Start}
use Rattle.uplink.proofs.forward.Goals as goal

-- the position is one of the places; the slot that it is in, and the data element below those of a slot
module _ (c : After-slot_data-w) where
  abbrev start : Start
  start = c.before.before.before.before

  unit : start.args.at.i < sent_slots start.args.s
  unit = omega (arith, c.if-at-sent_slots.false, c.sent_slots.ensures.0)

  held : start.args.p < places start.args.s
  held =
      (div-lt_iff_lt-mul (some_data start.args.s start.requires.0)).0
      (omega (arith, unit, ap (λ (a : Split). a.i) start.requires.1))

pub returns-then-at-sent_slots : goal.returns-then-at-sent_slots
returns-then-at-sent_slots c =
    λ is_open h.
    let t = c in
    let a = t in
    let b = a in
    c.refused_place.ensures
    ∙ sym (past_at refused_place (place_of b.args.s.subcarriers) (sending_of b.args.s is_open) b.args.p
    ((le-div_iff_mul-le (some_data b.args.s b.requires.0)).0
    (omega (arith, t.if-at-sent_slots.true, a.sent_slots.ensures.0, ap (λ (x : Split). x.i) b.requires.1))))

pub returns : goal.returns
returns c =
    λ is_open h.
    let w = c in
    let a = start w.before.before in
    forward_is a.args.s is_open a.args.p _ _ _ _ _ (held w.before.before) w.slot_data-w.ensures.0 a.requires.1
    (h (unit w.before.before)) c.carried_by-unit.ensures.0 c.item.ensures
