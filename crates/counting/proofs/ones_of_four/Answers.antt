use native.Mathlib.Omega.{arith}
use Rattle.counting.proofs.Fours.{ones_packed}
use Rattle.counting.proofs.ones_of_four.Goals as goal

pub returns : goal.returns
returns c = (ones_packed c.args.x c.requires, omega arith)
