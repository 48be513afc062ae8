use native.Mathlib.Omega.{arith}
use Rattle.counting.proofs.Ones.{one_below}
use Rattle.spans.proofs.in_stretch.Goals as goal

pub overflow_sub-result : goal.overflow_sub-result
overflow_sub-result c = omega (arith, one_below 40 c.args.mask _ _ c.requires.2 c.nth_one.ensures)
