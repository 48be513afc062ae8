use mathlib.Core.Bool.{Bool}
use mathlib.Core.Path.{◌≡◌, sym, ap₂, ◌∙◌}
use Prim.Native.Nat.{ℕ, ◌+◌, ◌*◌, ◌/◌, ◌%◌, ◌^◌, ◌≤◌, ◌<◌}
use native.Mathlib.Omega.{arith}
use Rattle.counting.proofs.Period.{select_from}
use Rattle.sending.proofs.Answer.{past_at}
use Rattle.messages.specs.Messages.{all_periods}
use Rattle.subframes.specs.Subframes.{messages_in}
use Rattle.subframes.specs.Scaffold.{left_in}
use Rattle.subframes.proofs.Left.{left_again}
use Rattle.elements.specs.Elements.{count_of}
use Rattle.downlink.specs.declared.Burst.{Burst}
use Rattle.downlink.specs.Fits.{Fits}
use Rattle.downlink.specs.Mapping.{places, sending_of, sent_subframes}
use Rattle.downlink.specs.Answers.{refused_place, place_of}
use Rattle.downlink.proofs.Joined.{places_small, sent_small, forward_is, unit_below, rest_below}
use Rattle.plain_downlink.proofs.burst_forward.Goals as goal

all : (b : Burst) (n w : ℕ) → n ≡ sent_subframes b → w ≡ count_of b.layout b.low b.width → n * w ≡ places b
all b n w s e = ap₂ (λ (x y : ℕ). x * y) s e

-- a position that is one of the places: its subframe is sent, and its element is used
module _ (u : ℕ → Bool) (b : Burst) (f : Fits b) (position n w : ℕ) (s : n ≡ sent_subframes b) (e : w ≡ count_of b.layout b.low b.width) (h : position < n * w) where
  held : position < places b
  held = omega (arith, h, all b n w s e)

  few : b.skip + position / w ≤ 2 ^ 21
  few = omega (arith, unit_below u all_periods b position f w held e, sent_small b f, f.skip_small)

  rest : position % w < count_of b.layout b.low b.width
  rest = rest_below u all_periods b position f w held e

pub overflow_mul-total : goal.overflow_mul-total
overflow_mul-total c = omega (arith, places_small c.sent_subframes.result c.count_used-w.result c.sent_subframes.ensures.2 c.count_used-w.ensures.2)

pub returns-then-position-total : goal.returns-then-position-total
returns-then-position-total c =
    let a = c.args in
    c.place_refused.ensures
    ∙ sym (past_at refused_place place_of (sending_of (left_in a.p a.laid (messages_in a.si.now)) all_periods a.b) a.position
    (omega (arith, all a.b _ _ c.sent_subframes.ensures.0 c.count_used-w.ensures.0, c.if-position-total.true)))

pub overflow_add-b : goal.overflow_add-b
overflow_add-b c =
    let a = c.args in
    omega (arith, few (left_in a.p a.laid (messages_in a.si.now)) a.b c.requires.1 a.position _ _ c.sent_subframes.ensures.0 c.count_used-w.ensures.0 (omega (arith, c.if-position-total.false)))

pub usable_at-t-requires : goal.usable_at-t-requires
usable_at-t-requires c =
    let a = c.args in (
      c.requires.0,
      c.requires.1.from_small,
      few (left_in a.p a.laid (messages_in a.si.now)) a.b c.requires.1 a.position _ _ c.sent_subframes.ensures.0 c.count_used-w.ensures.0 (omega (arith, c.if-position-total.false)),
    )

pub used_at-x-requires : goal.used_at-x-requires
used_at-x-requires c =
    let a = c.args in (
      c.requires.1.layout,
      c.requires.1.part,
      rest (left_in a.p a.laid (messages_in a.si.now)) a.b c.requires.1 a.position _ _ c.sent_subframes.ensures.0 c.count_used-w.ensures.0 (omega (arith, c.if-position-total.false)),
    )

pub item-requires : goal.item-requires
item-requires c =
    let a = c.args in
    let r = rest (left_in a.p a.laid (messages_in a.si.now)) a.b c.requires.1 a.position _ _ c.sent_subframes.ensures.0 c.count_used-w.ensures.0 (omega (arith, c.if-position-total.false)) in
    (omega (arith, c.carried_by-unit.ensures.1), omega (arith, c.count_used-w.ensures.2), omega (arith, r, c.count_used-w.ensures.0))

pub returns : goal.returns
returns c =
    let a = c.args in
    let u : ℕ → Bool = left_in a.p a.laid (messages_in a.si.now) in
    c.place.ensures
    ∙ forward_is u all_periods a.b a.position _ _ _ _ _ (held u a.b c.requires.1 a.position _ _ c.sent_subframes.ensures.0 c.count_used-w.ensures.0 (omega (arith, c.if-position-total.false))) c.count_used-w.ensures.0
    (c.usable_at-t.ensures
    ∙ sym (select_from u all_periods (left_again a.p a.laid (messages_in a.si.now) c.requires.0.on) c.requires.0.some a.b.from a.b.skip _))
    c.used_at-x.ensures c.carried_by-unit.ensures.0 c.item.ensures
