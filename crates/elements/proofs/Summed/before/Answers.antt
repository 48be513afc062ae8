use native.Mathlib.Omega.{arith}
use Rattle.elements.proofs.Closed.{six_at}
use Rattle.elements.proofs.Summed.before.Goals as goal

pub returns : goal.returns
returns c = (six_at _ _ c.args.self.sums c.args.l c.args.self.summed, omega arith)
