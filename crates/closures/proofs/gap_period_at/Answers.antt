use mathlib.Core.Path.{refl}
use Rattle.closures.proofs.GapPeriods.{from_to, rounded}
use Rattle.closures.proofs.gap_period_at.Goals as goal

pub overflow_sub-result : goal.overflow_sub-result
overflow_sub-result c =
    let a = c.args in
    from_to a.gap a.nested c.requires.2 c.requires.0.some a.at c.requires.1 a.end _ _ _ _ c.requires.3 c.min.ensures refl c.before-from.ensures.0 c.before-to.ensures.0
    c.before-from.ensures.1

pub returns : goal.returns
returns c =
    let a = c.args in
    rounded a.gap a.nested c.requires.2 c.requires.0.some a.at c.requires.1 a.end _ _ _ _ c.requires.3 c.min.ensures c.min-2.ensures c.before-from.ensures.0
    c.before-to.ensures.0 c.before-from.ensures.1
