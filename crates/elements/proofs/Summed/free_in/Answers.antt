use native.Mathlib.Omega.{arith}
use Rattle.elements.proofs.Marked.{free_some}
use Rattle.elements.proofs.Summed.free_in.Goals as goal

pub overflow_sub-result : goal.overflow_sub-result
overflow_sub-result c = omega (arith, (free_some c.args.self.layout c.args.self.valid c.args.l c.requires).0)

pub returns : goal.returns
returns c =
    let f = free_some c.args.self.layout c.args.self.valid c.args.l c.requires in
    (omega arith, omega (arith, f.0), omega (arith, f.1))
