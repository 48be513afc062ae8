use mathlib.Core.Path.{◌≡◌, ap}
use Prim.Native.Nat.{◌+◌, ◌*◌}
use native.Mathlib.Omega.{arith}
use native.Mathlib.Nat.{div-one}
use Rattle.counting.specs.Counting.{rank}
use Rattle.counting.specs.Bits.{bit_at}
use Rattle.counting.proofs.Rank.{rank_zero}
use Rattle.counting.proofs.Ones.{ones_rank}
use Rattle.counting.proofs.Fours.{four_on, four_passed, four_found}
use Rattle.counting.proofs.nth_one.Goals as goal

pub loop-i-init : goal.loop-i-init
loop-i-init c = omega (arith, div-one c.args.m, rank_zero (bit_at c.args.m))

pub returns-then-left-n : goal.returns-then-left-n
returns-then-left-n c =
    let l = c.loop-i in
    four_found c.args.m (4 * l.i) l.rest l.invariant.0 c.args.k l.left c.nth_of_four.result l.invariant.1 c.nth_of_four.ensures

pub loop-i-preserved : goal.loop-i-preserved
loop-i-preserved c =
    let l = c.loop-i in
    let m = c.args.m in
    let next : 4 * (l.i + 1) ≡ 4 * l.i + 4 = omega arith in
    rw next (
      four_on m (4 * l.i) l.rest l.invariant.0,
      omega (arith, four_passed m (4 * l.i) l.rest l.invariant.0, c.ones_of_four-n.ensures.0),
    )

-- all 64 digits have more than k ones
pub returns : goal.returns
returns c =
    let e : 4 * c.loop-i.i ≡ 64 = omega arith in
    absurd (omega (arith, ones_rank 64 c.args.m c.ranges.m.fits, ap (rank (bit_at c.args.m)) e))
