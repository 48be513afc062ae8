use mathlib.Core.Path.{ap}
use Prim.Native.Nat.{ℕ, ◌*◌, ◌^◌, ◌≤◌}
use native.Mathlib.Nat.{mul-le-mul}
use native.Mathlib.Omega.{arith}
use Rattle.uplink.specs.Timing.{sent_slots}
use Rattle.uplink.proofs.Joined.{sent_small}
use Rattle.uplink.proofs.Lines.{slot_data_small}
use Rattle.plain_uplink.proofs.total.Goals as goal

pub overflow_mul-result : goal.overflow_mul-result
overflow_mul-result c = omega (arith, sent_small c.args.s c.requires.0)

pub overflow_mul-result-2 : goal.overflow_mul-result-2
overflow_mul-result-2 c =
    let s = c.args.s in
    let a : sent_slots s ≤ 2 ^ 32 = omega (arith, sent_small s c.requires.0) in
    let b : c.args.w ≤ 2 ^ 19 = omega (arith, c.requires.1, slot_data_small s c.requires.0) in
    omega (arith, mul-le-mul a b)

pub returns : goal.returns
returns c = ap (λ (w : ℕ). sent_slots c.args.s * w) c.requires.1
