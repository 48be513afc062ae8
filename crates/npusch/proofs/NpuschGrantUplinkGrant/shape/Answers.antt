use native.Mathlib.Omega.{arith}
use Rattle.npusch.proofs.Acceptance.{InRange, ranged, shown}
use Rattle.npusch.proofs.Shaped.{shape_is}
use Rattle.npusch.proofs.NpuschGrantUplinkGrant.shape.Goals.{Start}
use Rattle.npusch.proofs.NpuschGrantUplinkGrant.shape.Goals as goal

in_range_lem : (c : Start) → InRange c.args.self
in_range_lem c = ranged c.args.self c.requires

pub uplink_copies-copies-requires : goal.uplink_copies-copies-requires
uplink_copies-copies-requires c = omega (arith, (in_range_lem c.before).copies)

pub start-requires : goal.start-requires
start-requires c = (omega (arith, (in_range_lem c.before.before).early), omega (arith, (in_range_lem c.before.before).delay))

pub first_tone-requires : goal.first_tone-requires
first_tone-requires c =
    let a = in_range_lem c.before.before.before.before.before.before in
    (a.spacing, a.tones)

pub codeword-requires : goal.codeword-requires
codeword-requires c = omega (arith, (in_range_lem c.before.before.before.before.before.before.before).units)

pub returns : goal.returns
returns c =
    shown c.args.self c.requires _
    (shape_is c.args.self _ _ _ _ _ _ _ _ _ _ _ c.tones-tones.ensures c.uplink_copies-copies.ensures
    c.start.ensures c.subcarriers.ensures.0 c.block.ensures c.gap.ensures c.first_tone.ensures
    c.codeword.ensures c.consecutive.ensures c.group.ensures c.reference.ensures)
