use mathlib.Core.Bool.{true, false}
use mathlib.Core.Path.{refl, sym, ap, subst, ◌∙◌}
use native.Mathlib.Omega.{arith}
use mir.Val.{bool_byte}
use Rattle.spans.specs.Pattern.{allows}
use Rattle.strides.specs.Quick.{Strode, Leaps}
use Rattle.strides.proofs.Striding.{past_leaps}
use Rattle.strides.proofs.leap_from.Goals as goal

pub returns-in-Quiet : goal.returns-in-Quiet
returns-in-Quiet c =
    let a = c.args in
    let u = allows a.p in
    let L = past_leaps a.table u a.s a.end true a.far c.stride_quiet.result c.requires.2 c.stride_quiet.ensures (λ h. refl) in
    (subst (Leaps a.table u a.s a.end a.far) (sym c.past.ensures) L, c.requires.5)

pub returns-then-units-end : goal.returns-then-units-end
returns-then-units-end c =
    let a = c.args in
    let u = allows a.p in
    let S = c.stride_alone.ensures in
    let R : Strode a.table u a.s.n a.end false c.stride_alone.result =
    record { on = S.on; most = omega (arith, S.most, c.if-units-end.true, c.requires.3); small = S.small; free = S.free; few = S.few; goes = S.goes } in
    let L = past_leaps a.table u a.s a.end false a.far c.stride_alone.result c.requires.2 R (λ h. absurd (omega (arith, ap bool_byte (sym c.in-Alone.ensures.0 ∙ h)))) in
    (subst (Leaps a.table u a.s a.end a.far) (sym c.past-then-units-end.ensures) L, c.rest_of-rest.ensures.0)
