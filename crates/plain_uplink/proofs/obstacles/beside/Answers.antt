use mathlib.Core.Path.{ap₂, ◌∙◌}
use Prim.Native.Nat.{ℕ, ◌*◌, ◌≤◌}
use native.Mathlib.Omega.{arith}
use Rattle.nprach.proofs.Spaced.{scaled}
use Rattle.plain_uplink.specs.Obstacles.{obstacles_of}
use Rattle.plain_uplink.proofs.obstacles.beside.Goals.{After-group_ms-ms}
use Rattle.plain_uplink.proofs.obstacles.beside.Goals as goal

within : (c : After-group_ms-ms)
    → let a = c.args in
    (1 ≤ c.group_ms-ms.result) × (c.group_ms-ms.result ≤ 2) × (c.narrow_tones-scale.result * a.s.tone ≤ 48) × (c.narrow_tones-scale.result * a.s.tones ≤ 48)
within c =
    let a = c in
    scaled a.args.spacing _ _ _ _ c.narrow_tones-scale.ensures c.group_ms-ms.ensures (omega (arith, a.requires.0.within_tones, a.requires.1.subcarriers))

pub overflow_mul-scale : goal.overflow_mul-scale
overflow_mul-scale c = omega (arith, (within c).2)

pub overflow_mul-scale-2 : goal.overflow_mul-scale-2
overflow_mul-scale-2 c = omega (arith, (within c).3)

pub all-requires : goal.all-requires
all-requires c = ((within c).0, (within c).1, (within c).2, (within c).3, c.requires.2)

pub returns : goal.returns
returns c =
    let m = c in
    let a = m.args in (
      c.all.ensures.0
          ∙ ap₂ (λ (ms scale : ℕ). obstacles_of ms (scale * a.s.tone) (scale * a.s.tones) a.ws) m.group_ms-ms.ensures m.narrow_tones-scale.ensures,
      c.all.ensures.1,
    )
