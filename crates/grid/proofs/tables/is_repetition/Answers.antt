use borrow.Author.Tests.{lt-leb, le-leb}
use Rattle.grid.proofs.Rules.{one_digit}
use Rattle.grid.proofs.tables.is_repetition.Goals as goal

pub returns-then-x-le2048 : goal.returns-then-x-le2048
returns-then-x-le2048 c = simp (c.is_power_of_two.ensures, ← one_digit c.args.x, le-leb _ _ c.if-x-le2048.true)

pub returns-else-x-le2048 : goal.returns-else-x-le2048
returns-else-x-le2048 c = simp (← one_digit c.args.x, lt-leb _ _ c.if-x-le2048.false)
