use native.Mathlib.Omega.{arith}
use Rattle.uplink.proofs.Lines.{slot_data_lem, some_data, slot_data_small}
use Rattle.uplink.proofs.data.slot_data.Goals as goal

pub returns : goal.returns
returns c =
    let e = slot_data_lem c.args.s c.requires in
    (e, omega (arith, e, some_data c.args.s c.requires), omega (arith, e, slot_data_small c.args.s c.requires))
