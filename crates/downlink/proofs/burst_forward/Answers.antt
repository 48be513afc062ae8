use mathlib.Core.Path.{◌≡◌, sym, ap₂, ◌∙◌}
use Prim.Native.Nat.{ℕ, ◌*◌, ◌<◌}
use native.Mathlib.Omega.{arith}
use Rattle.elements.specs.Elements.{count_of}
use Rattle.sending.proofs.Answer.{past_at}
use Rattle.messages.specs.Messages.{all_periods}
use Rattle.subframes.specs.Subframes.{messages_in}
use Rattle.subframes.specs.Scaffold.{left_in}
use Rattle.downlink.specs.Mapping.{places, sending_of, sent_subframes}
use Rattle.downlink.specs.Answers.{refused_place, place_of}
use Rattle.downlink.specs.declared.Burst.{Burst}
use Rattle.downlink.proofs.Joined.{places_small, sent_small, forward_is, unit_below, rest_below}
use Rattle.downlink.proofs.burst_forward.Goals as goal

-- all places, and a position below them
all : (b : Burst) (n w : ℕ) → n ≡ sent_subframes b → w ≡ count_of b.layout b.low b.width → n * w ≡ places b
all b n w s e = ap₂ (λ (x y : ℕ). x * y) s e

pub overflow_mul-total : goal.overflow_mul-total
overflow_mul-total c = omega (arith, places_small c.sent_subframes.result c.used_elements-w.result c.sent_subframes.ensures.2 c.used_elements-w.ensures.2)

pub returns-then-position-total : goal.returns-then-position-total
returns-then-position-total c =
    let a = c.args in
    let all = all a.b _ _ c.sent_subframes.ensures.0 c.used_elements-w.ensures.0 in
    c.place_refused.ensures
    ∙ sym (past_at refused_place place_of (sending_of (left_in a.v.pattern a.v.laid (messages_in a.si.now)) all_periods a.b) a.position (omega (arith, all, c.if-position-total.true)))

pub subframe_at-t-requires : goal.subframe_at-t-requires
subframe_at-t-requires c =
    let a = c.args in
    let all = all a.b _ _ c.sent_subframes.ensures.0 c.used_elements-w.ensures.0 in
    let held : a.position < places a.b = omega (arith, c.if-position-total.false, all) in (
      c.requires.0,
      c.requires.1,
      omega (arith, unit_below (left_in a.v.pattern a.v.laid (messages_in a.si.now)) all_periods a.b a.position c.requires.1 c.used_elements-w.result held c.used_elements-w.ensures.0, sent_small a.b c.requires.1),
    )

pub element_at-x-requires : goal.element_at-x-requires
element_at-x-requires c =
    let a = c.args in
    let all = all a.b _ _ c.sent_subframes.ensures.0 c.used_elements-w.ensures.0 in
    let held : a.position < places a.b = omega (arith, c.if-position-total.false, all) in (
      c.requires.1.layout,
      c.requires.1.part,
      rest_below (left_in a.v.pattern a.v.laid (messages_in a.si.now)) all_periods a.b a.position c.requires.1 c.used_elements-w.result held c.used_elements-w.ensures.0,
    )

pub item-requires : goal.item-requires
item-requires c =
    let a = c.args in
    let all = all a.b _ _ c.sent_subframes.ensures.0 c.used_elements-w.ensures.0 in
    let held : a.position < places a.b = omega (arith, c.if-position-total.false, all) in
    let rest = rest_below (left_in a.v.pattern a.v.laid (messages_in a.si.now)) all_periods a.b a.position c.requires.1 c.used_elements-w.result held c.used_elements-w.ensures.0 in
    (omega (arith, c.carried_by-unit.ensures.1), omega (arith, c.used_elements-w.ensures.2), omega (arith, rest, c.used_elements-w.ensures.0))

pub returns : goal.returns
returns c =
    let a = c.args in
    let all = all a.b _ _ c.sent_subframes.ensures.0 c.used_elements-w.ensures.0 in
    let held : a.position < places a.b = omega (arith, c.if-position-total.false, all) in
    c.place.ensures
    ∙ forward_is _ _ a.b a.position _ _ _ _ _ held c.used_elements-w.ensures.0 c.subframe_at-t.ensures
    c.element_at-x.ensures c.carried_by-unit.ensures.0 c.item.ensures
