use mathlib.Core.Path.{refl}
use Prim.Native.Nat.{◌/◌}
use native.Mathlib.Omega.{arith}
use Rattle.uplink.proofs.Splitting.{slots_fit, split_is}
use Rattle.uplink.proofs.data.split.Goals as goal

pub overflow_mul-result-2 : goal.overflow_mul-result-2
overflow_mul-result-2 c =
    let a = c in
    omega (arith, a.ranges.p, slots_fit a.args.s a.requires a.args.p (a.args.p / a.args.s.tones) refl)

pub returns : goal.returns
returns c =
    let a = c in
    split_is a.args.s a.requires a.args.p (a.args.p / a.args.s.tones) refl _ c.symbol_at-l.ensures
