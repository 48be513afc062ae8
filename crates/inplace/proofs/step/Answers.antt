-- Where forward answers, p moves on; where it refuses, the record stays as it is.
use mathlib.Core.Path.{sym, ap, ◌∙◌}
use Prim.Native.Nat.{ℕ}
use native.Mathlib.Omega.{arith}
use Rattle.walk.specs.declared.WalkPlace.{WalkPlace}
use Rattle.walk.specs.declared.Stepped.{Stepped}
use Rattle.walk.specs.Step.{asked_of}
use Rattle.walk.specs.Quick.{stopped_at}
use Rattle.walk.proofs.Steps.{next_small, step_moves, step_stops}
use Rattle.inplace.proofs.step.Goals as goal

pub overflow_add-w : goal.overflow_add-w
overflow_add-w c =
    let a = c.args in
    omega (arith, next_small a.w.now a.anchor.now a.other.now (sym (ap (λ (y : WalkPlace). y.no) c.forward-place.ensures) ∙ c.if-place-eq0.true))

pub returns-then-place-eq0 : goal.returns-then-place-eq0
returns-then-place-eq0 c =
    let a = c.args in
    let m = step_moves a.w.now a.anchor.now a.other.now (sym (ap (λ (y : WalkPlace). y.no) c.forward-place.ensures) ∙ c.if-place-eq0.true) in
    (c.forward-place.ensures ∙ ap (λ (s : Stepped). s.answer) m, ap (λ (s : Stepped). s.walk) m)

pub returns : goal.returns
returns c =
    let a = c.args in
    let e = ap (λ (y : WalkPlace). y.no) c.forward-place.ensures in
    let m = step_stops a.w.now a.anchor.now a.other.now (λ z. c.if-place-eq0.false (e ∙ z)) in
    let told = ap (λ (n : ℕ). stopped_at (asked_of a.w.now a.anchor.now a.other.now) a.w.now.p n) e in
    (c.stopped.ensures ∙ told ∙ ap (λ (s : Stepped). s.answer) m, ap (λ (s : Stepped). s.walk) m)
