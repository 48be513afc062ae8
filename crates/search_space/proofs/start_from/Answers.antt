use native.Mathlib.Omega.{arith}
use Rattle.search_space.proofs.Starting.{start_here, start_next, next_soon, first_is}
use Rattle.search_space.proofs.start_from.Goals as goal

pub returns-then-y-lt-HYPERFRAME : goal.returns-then-y-lt-HYPERFRAME
returns-then-y-lt-HYPERFRAME c =
    let s = c in
    let a = s.args in (
      first_is a.period a.part a.n _
          (start_here a.n a.period a.part _ s.requires.1 c.first_from-y.ensures.0 c.if-y-lt-HYPERFRAME.true) (omega arith),
      omega arith,
    )

pub returns : goal.returns
returns c =
    let s = c in
    let a = s.args in
    let f = c.first_from-y.ensures.0 in
    let soon = next_soon a.n a.period a.part _ s.requires.1 f c.if-y-lt-HYPERFRAME.false s.requires.3 in (
      first_is a.period a.part a.n _ (start_next a.n a.period a.part _ s.requires.1 f c.if-y-lt-HYPERFRAME.false s.requires.3) soon,
      omega (arith, soon),
    )
