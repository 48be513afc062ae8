use mathlib.Core.Path.{◌≡◌, sym, ap, ◌∙◌}
use Prim.Native.Nat.{ℕ, ◌*◌, ◌/◌, ◌%◌, ◌<◌}
use native.Mathlib.Nat.{mod-lt, div-lt_iff_lt-mul}
use native.Mathlib.Omega.{arith}
use Rattle.grid.specs.Grid.{uplink_symbol_of, uplink_subcarrier_of}
use Rattle.sending.proofs.Answer.{past_at}
use Rattle.uplink.specs.declared.Split.{Split}
use Rattle.uplink.specs.Timing.{sent_slots}
use Rattle.uplink.specs.Elements.{slot_data, element_at}
use Rattle.uplink.specs.Mapping.{sending_of}
use Rattle.uplink.specs.Scaffold.{places}
use Rattle.uplink.specs.Answers.{refused_place, place_of}
use Rattle.uplink.proofs.Joined.{sent_small, forward_is}
use Rattle.plain_uplink.specs.Obstacles.{clear_of}
use Rattle.plain_uplink.proofs.place.Goals.{Else-p-total, Start}
use Rattle.plain_uplink.proofs.place.Goals as goal

-- the position is one of the places: the slot that it is in, and the data element below those of a slot
module _ (c : Else-p-total) where
  abbrev start : Start
  start = c.before.before.before

  abbrev p : ℕ
  p = start.args.p

  abbrev w : ℕ
  w = c.slot_data-w.result

  counted : w ≡ slot_data start.args.s
  counted = c.slot_data-w.ensures.0

  held : p < places start.args.s
  held = omega (arith, c.if-p-total.false, c.total.ensures)

  unit : p / w < sent_slots start.args.s
  unit = (div-lt_iff_lt-mul c.slot_data-w.ensures.1).1 (omega (arith, held, ap (λ (n : ℕ). sent_slots start.args.s * n) counted))

  rest : p % w < w
  rest = mod-lt p c.slot_data-w.ensures.1

pub slot_data-w-requires : goal.slot_data-w-requires
slot_data-w-requires c = c.requires.0

pub total-requires : goal.total-requires
total-requires c = (c.requires.0, c.slot_data-w.ensures.0)

pub refused_place-requires : goal.refused_place-requires
refused_place-requires c = tt

pub returns-then-p-total : goal.returns-then-p-total
returns-then-p-total c =
    let t = c in
    let a = t in
    c.refused_place.ensures
    ∙ sym (past_at refused_place (place_of a.args.s.subcarriers) (sending_of a.args.s (clear_of a.args.os)) a.args.p
    (omega (arith, t.if-p-total.true, t.total.ensures)))

pub nonzero_div-i : goal.nonzero_div-i
nonzero_div-i c = omega (arith, c.slot_data-w.ensures.1)

pub nonzero_rem-e : goal.nonzero_rem-e
nonzero_rem-e c = omega (arith, c.slot_data-w.ensures.1)

pub nth-at-requires : goal.nth-at-requires
nth-at-requires c = ((start c).requires.0, omega (arith, rest c, counted c))

pub carried-unit-requires : goal.carried-unit-requires
carried-unit-requires c =
    let f = (start c.before).requires.0 in
    record {
      consecutive = f.consecutive;
      group = f.group;
      units = f.codeword;
      whole = f.groups;
      consecutive_small = f.consecutive_small;
      group_small = f.group_small;
      units_small = f.codeword_small;
    }

pub nth-requires : goal.nth-requires
nth-requires c =
    let e = c in
    let a = start e.before.before in
    (a.requires.0, a.requires.1, a.requires.2, omega (arith, unit e.before.before, sent_small a.args.s a.requires.0))

pub item-requires : goal.item-requires
item-requires c =
    let e = c in
    (omega (arith, c.carried-unit.ensures.1, (start e.before.before.before).requires.0.codeword_small), e.slot_data-w.ensures.2, rest e.before.before.before)

pub returns : goal.returns
returns c =
    let n = c in
    let e = n in
    let a = (start e.before.before.before.before).args in
    let T = a.s.subcarriers in
    let at : Split = record { i = p e.before.before.before.before / w e.before.before.before.before; e = p e.before.before.before.before % w e.before.before.before.before; l = n.nth-at.result.l; k = n.nth-at.result.k } in
    forward_is a.s (clear_of a.os) (p e.before.before.before.before) at (w e.before.before.before.before) _ _ _ (held e.before.before.before.before) (counted e.before.before.before.before)
    (λ j. record {
      i = p e.before.before.before.before / counted e.before.before.before.before j;
      e = p e.before.before.before.before % counted e.before.before.before.before j;
      l = (n.nth-at.ensures.0 ∙ ap (λ (x : ℕ). uplink_symbol_of T (element_at a.s (p e.before.before.before.before % x))) (counted e.before.before.before.before)) j;
      k = (n.nth-at.ensures.1 ∙ ap (λ (x : ℕ). uplink_subcarrier_of T (element_at a.s (p e.before.before.before.before % x))) (counted e.before.before.before.before)) j;
    })
    c.nth.ensures c.carried-unit.ensures.0 c.item.ensures
