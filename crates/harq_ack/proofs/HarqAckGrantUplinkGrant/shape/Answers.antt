use native.Mathlib.Omega.{arith}
use Rattle.harq_ack.specs.Shaping.{shape_of}
use Rattle.harq_ack.proofs.Accepting.{ranged, shown}
use Rattle.harq_ack.proofs.HarqAckGrantUplinkGrant.shape.Goals as goal

pub uplink_copies-requires : goal.uplink_copies-requires
uplink_copies-requires c = omega (arith, (ranged c.args.self c.requires).copies)

pub returns : goal.returns
unfolding shape_of
returns c =
    shown c.args.self c.requires _
    (λ i. record {
      first = c.start.ensures i;
      subcarriers = c.subcarriers.ensures.0 i;
      block = c.block.ensures i;
      gap = c.gap.ensures i;
      tone = c.tone.ensures i;
      tones = 1;
      codeword = 4;
      copies = c.uplink_copies.ensures i;
      consecutive = 1;
      group = c.group.ensures i;
      reference = c.reference.ensures i;
      references = 3;
    })
