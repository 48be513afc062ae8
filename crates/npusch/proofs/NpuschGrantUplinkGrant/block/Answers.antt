use native.Mathlib.Omega.{arith}
use Rattle.npusch.proofs.Acceptance.{ranged}
use Rattle.npusch.proofs.NpuschGrantUplinkGrant.block.Goals as goal

pub block_size-requires : goal.block_size-requires
block_size-requires c = let a = ranged c.args.self c.requires in (omega (arith, a.mcs), omega (arith, a.units))

pub order-requires : goal.order-requires
order-requires c = omega (arith, (ranged c.args.self c.requires).mcs)
