use mathlib.Core.Path.{◌≡◌}
use Prim.Native.Nat.{◌+◌}
use native.Mathlib.Omega.{arith}
use Rattle.counting.specs.Counting.{rank}
use Rattle.closures.specs.Closures.{clear}
use Rattle.closures.specs.Quick.{count_before}
use Rattle.closures.proofs.Nesting.{counted, before_counts}
use Rattle.closures.proofs.in_longest.Goals.{After-before-3}
use Rattle.closures.proofs.in_longest.Goals as goal

-- what the two counts differ by
by : (c : After-before-3)
    → let nested = c.args.nested in
    c.before.before-2.result ≡ c.before-3.result + rank (clear nested.closures) nested.closures.b4.period
by c =
    let s = c in
    let nested = s.args.nested in
    omega (arith, c.before-2.ensures.0, c.before-3.ensures.0, counted (clear nested.closures) (count_before nested) (before_counts nested s.requires) nested.closures.b4.period)

pub overflow_sub-result : goal.overflow_sub-result
overflow_sub-result c = omega (arith, by c)

pub returns : goal.returns
returns c = omega (arith, by c)
