use native.Mathlib.Omega.{arith}
use Rattle.closures.proofs.Cycles.{counted}
use Rattle.closures.proofs.count_free.Goals as goal

pub overflow_sub-result : goal.overflow_sub-result
overflow_sub-result c = (counted _ _ _ _ _ c.scan.ensures).0

pub returns : goal.returns
returns c = ((counted _ _ _ _ _ c.scan.ensures).1, omega arith)
