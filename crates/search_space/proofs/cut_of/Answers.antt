use native.Mathlib.Omega.{arith}
use borrow.Author.Tests.{lt-ltb, le-ltb}
use Rattle.grid.proofs.Rules.{repetition_bounds}
use Rattle.search_space.specs.Quick.{cut_of}
use Rattle.search_space.proofs.cut_of.Goals as goal

pub returns-then-rmax-lt8 : goal.returns-then-rmax-lt8
unfolding cut_of
returns-then-rmax-lt8 c =
    let b = repetition_bounds c.args.rmax c.requires in
    (simp (lt-ltb _ _ c.if-rmax-lt8.true), record { size = (omega arith, omega arith); many = omega arith; count = omega arith; row = omega arith })

pub returns : goal.returns
unfolding cut_of
returns c =
    let b = repetition_bounds c.args.rmax c.requires in (
      simp (le-ltb _ _ c.if-rmax-lt8.false),
      record { size = (omega arith, omega (arith, b.1)); many = omega arith; count = omega arith; row = omega arith },
    )

pub overflow_sub-result : goal.overflow_sub-result
overflow_sub-result c = omega (arith, (repetition_bounds c.args.rmax c.requires).0)
