use Rattle.cell.specs.Quick.{seen}
use Rattle.cell.proofs.why.Goals as goal

pub is_left-requires : goal.is_left-requires
unfolding seen
is_left-requires c = c.requires

pub returns-then-is_left : goal.returns-then-is_left
unfolding seen
returns-then-is_left c = simp (← c.is_left.ensures, c.if-is_left.true)

pub why_not-requires : goal.why_not-requires
unfolding seen
why_not-requires c = c.requires.regular

pub returns : goal.returns
unfolding seen
returns c = simp (← c.is_left.ensures, c.if-is_left.false, c.why_not.ensures)
