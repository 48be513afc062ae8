use mathlib.Core.Path.{refl}
use native.Mathlib.Omega.{arith}
use Rattle.counting.proofs.Rank.{rank_le}
use Rattle.closures.specs.Closures.{clear}
use Rattle.uplink.proofs.Grouped.{cycle_repeats}
use Rattle.uplink.proofs.timing.cycle.Goals as goal

pub overflow_mul-result-2 : goal.overflow_mul-result-2
overflow_mul-result-2 c = omega (arith, c.requires.2.counted, rank_le (clear c.args.nested.closures) c.args.nested.closures.b4.period, c.requires.2.nesting.sorted.usable.u4.period_small)

pub returns : goal.returns
returns c = cycle_repeats c.args.s c.requires.0 c.args.nested.closures c.requires.1 c.args.nested c.requires.2 refl _ c.requires.2.counted
