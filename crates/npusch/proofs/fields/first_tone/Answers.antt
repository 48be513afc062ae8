use mathlib.Core.Path.{◌≡◌, ap₂, ◌∙◌}
use Prim.Native.Nat.{ℕ, ◌-◌, ◌*◌}
use native.Mathlib.Omega.{arith}
use Rattle.grid.specs.Grid.{uplink_subcarriers}
use Rattle.numerology.proofs.Spacing.{by_spacing_bounds}
use Rattle.npusch.specs.Fields.{first_tone}
use Rattle.npusch.proofs.Fielded.{ToneField, tone_field}
use Rattle.npusch.proofs.fields.first_tone.Goals.{Start, After-tones}
use Rattle.npusch.proofs.fields.first_tone.Goals as goal

field : (c : Start) → ToneField c.args.spacing c.args.field
field c = tone_field c.args.spacing c.args.field c.requires.0 c.requires.1

made : (c : After-tones) →
    let a = c.args in
    c.tones.result * (a.field - c.first_field-from.result) ≡ first_tone a.spacing a.field
made c =
    let a = c in
    ap₂ (λ (x y : ℕ). x * (a.args.field - y)) c.tones.ensures c.first_field-from.ensures ∙ (field a.before.before).first

pub overflow_sub-result : goal.overflow_sub-result
overflow_sub-result c = omega (arith, c.first_field-from.ensures, (field c.before.before).from)

pub overflow_mul-result : goal.overflow_mul-result
overflow_mul-result c =
    let a = c in
    omega (arith, made c, (field a.before.before).inside, (by_spacing_bounds a.args.spacing (uplink_subcarriers 0) (uplink_subcarriers 1)).1)

pub returns : goal.returns
returns c = made c
