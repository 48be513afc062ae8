use mathlib.Core.Bool.{Bool, true}
use mathlib.Core.Path.{◌≡◌, refl, ap, ap₂, ◌∙◌}
use Prim.Native.Nat.{ℕ, ◌+◌, ◌-◌, ◌*◌, ◌/◌, ◌%◌, ◌≤◌, ◌<◌}
use native.Mathlib.Nat.{mod-add-div'}
use native.Mathlib.Omega.{arith}
use Rattle.sending.specs.CopyOrder.{carried}
use Rattle.elements.specs.Elements.{element_at}
use Rattle.downlink.specs.declared.Burst.{Burst}
use Rattle.downlink.specs.Mapping.{sent_subframes, places}
use Rattle.downlink.proofs.Joined.{places_small, unit_below, rest_below}
use Rattle.broadcast.specs.Quick.{width_of}
use Rattle.broadcast.proofs.located.Goals as goal

-- all places
all : (b : Burst) (n w : ℕ) → n ≡ sent_subframes b → w ≡ width_of b → n * w ≡ places b
all b n w s e = ap₂ (λ (x y : ℕ). x * y) s e

-- the rest of a division, by its quotient
rest : (p w i : ℕ) → i ≡ p / w → (p - i * w ≡ p % w) × (i * w ≤ p)
rest p w i e =
    let split : p % w + i * w ≡ p = ap (λ (i : ℕ). p % w + i * w) e ∙ mod-add-div' p w in
    (omega (arith, split), omega (arith, split))

anywhere : ℕ → Bool
anywhere t = true

pub overflow_mul-total : goal.overflow_mul-total
overflow_mul-total c = omega (arith, places_small c.sent_subframes.result c.used_elements-w.result c.sent_subframes.ensures.2 c.used_elements-w.ensures.2)

pub returns-then-p-total : goal.returns-then-p-total
returns-then-p-total c =
    let all = all c.args.b _ _ c.sent_subframes.ensures.0 c.used_elements-w.ensures.0 in
    (refl, omega (arith, all, c.if-p-total.true))

pub quotient-i-requires : goal.quotient-i-requires
quotient-i-requires c = (
  omega (arith, c.if-p-total.false, places_small c.sent_subframes.result c.used_elements-w.result c.sent_subframes.ensures.2 c.used_elements-w.ensures.2),
  omega (arith, c.used_elements-w.ensures.1),
  omega (arith, c.used_elements-w.ensures.2),
)

pub overflow_mul-e : goal.overflow_mul-e
overflow_mul-e c = omega (arith, (rest c.args.p c.used_elements-w.result _ c.quotient-i.ensures).1, c.ranges.p.fits)

pub overflow_sub-e : goal.overflow_sub-e
overflow_sub-e c = (rest c.args.p c.used_elements-w.result _ c.quotient-i.ensures).1

pub element_at-requires : goal.element_at-requires
element_at-requires c =
    let all = all c.args.b _ _ c.sent_subframes.ensures.0 c.used_elements-w.ensures.0 in
    let held : c.args.p < places c.args.b = omega (arith, c.if-p-total.false, all) in
    let e = (rest c.args.p c.used_elements-w.result _ c.quotient-i.ensures).0 in
    (c.requires.layout, c.requires.part, omega (arith, e, rest_below anywhere 0 c.args.b c.args.p c.requires c.used_elements-w.result held c.used_elements-w.ensures.0))

pub item-requires : goal.item-requires
item-requires c =
    let all = all c.args.b _ _ c.sent_subframes.ensures.0 c.used_elements-w.ensures.0 in
    let held : c.args.p < places c.args.b = omega (arith, c.if-p-total.false, all) in
    let e = (rest c.args.p c.used_elements-w.result _ c.quotient-i.ensures).0 in
    let below = rest_below anywhere 0 c.args.b c.args.p c.requires c.used_elements-w.result held c.used_elements-w.ensures.0 in
    (omega (arith, c.carried_by-unit.ensures.1), omega (arith, c.used_elements-w.ensures.2), omega (arith, e, below, c.used_elements-w.ensures.0))

pub returns : goal.returns
returns c =
    let b = c.args.b in
    let p = c.args.p in
    let w = c.used_elements-w.result in
    let h = c.used_elements-w.ensures.0 in
    let all = all b _ _ c.sent_subframes.ensures.0 h in
    let held : p < places b = omega (arith, c.if-p-total.false, all) in
    let e = (rest p w _ c.quotient-i.ensures).0 in
    let i = c.quotient-i.ensures ∙ ap (λ (y : ℕ). p / y) h in
    let unit = c.carried_by-unit.ensures.0 ∙ ap (carried b.consecutive 1 b.codeword) i in
    record {
      held = held;
      i = i;
      sent = omega (arith, c.quotient-i.ensures, unit_below anywhere 0 b p c.requires w held h);
      x = c.element_at.ensures ∙ ap (element_at b.layout b.low b.width) (e ∙ ap (λ (y : ℕ). p % y) h);
      symbol = c.item.ensures ∙ ap (λ (y : ℕ). c.carried_by-unit.result * w + y) e ∙ ap (λ (y : ℕ). y * w + p % w) unit
          ∙ ap (λ (y : ℕ). carried b.consecutive 1 b.codeword (p / width_of b) * y + p % y) h;
    }
