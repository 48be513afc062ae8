use Prim.Native.Nat.{ℕ, ◌+◌, ◌*◌, ◌/◌, ◌^◌, ◌<◌}
use native.Mathlib.Nat.{div-le_self, mul-le-mul, le_of_lt}
use native.Mathlib.Omega.{arith}
use Rattle.uplink.proofs.GapPeriods.{at_index}
use Rattle.uplink.specs.declared.Shape.{Shape}
use Rattle.uplink.specs.Fits.{Fits}
use Rattle.uplink.proofs.timing.active_at.Goals as goal

small : (s : Shape) (i : ℕ) → Fits s → i < 2 ^ 32 → i + s.gap * (i / s.block) < 2 ^ 49
small s i f h =
    let q : i / s.block < 2 ^ 32 = omega (arith, div-le_self i s.block, h) in
    omega (arith, mul-le-mul (le_of_lt f.gap_small) (le_of_lt q), h)

pub returns : goal.returns
returns c = (at_index c.args.s c.requires.0 c.args.i, small c.args.s c.args.i c.requires.0 c.requires.1)
