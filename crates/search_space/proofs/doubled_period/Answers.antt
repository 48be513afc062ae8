use mathlib.Core.Path.{ap}
use Prim.Native.Nat.{ℕ, ◌*◌, ◌≤◌}
use native.Mathlib.Nat.{mul-le-mul}
use native.Mathlib.Omega.{arith}
use Rattle.grid.proofs.Rules.{repetition_bounds}
use Rattle.search_space.specs.Starts.{doubled_period}
use Rattle.search_space.proofs.Labels.{doubled_bound}
use Rattle.search_space.proofs.doubled_period.Goals.{After-struct_known-1}
use Rattle.search_space.proofs.doubled_period.Goals as goal

small : (c : After-struct_known-1) → c.args.s.rmax * c.from.result ≤ 2048 * 128
small c =
    let s = c in
    mul-le-mul {n₂ = 2048} {m₂ = 128} (repetition_bounds s.args.s.rmax s.requires.0).1
    (omega (arith, c.from.ensures, doubled_bound s.args.s.g s.requires.1))

pub returns : goal.returns
unfolding doubled_period
returns c = (ap (λ (x : ℕ). c.args.s.rmax * x) c.from.ensures, omega (arith, small c))

pub overflow_mul-result : goal.overflow_mul-result
overflow_mul-result c = omega (arith, small c)
