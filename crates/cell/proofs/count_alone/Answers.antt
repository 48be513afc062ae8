use borrow.Author.Tests.{eq-eqb, ne_eqb}
use Rattle.cell.specs.Judge.{judge_of}
use Rattle.cell.specs.Layout.{element_count_of}
use Rattle.cell.specs.Quick.{count_after}
use Rattle.cell.proofs.count_alone.Goals as goal

pub returns-then-c-eq0 : goal.returns-then-c-eq0
unfolding judge_of element_count_of count_after
returns-then-c-eq0 c = λ ms silent. rw (eq-eqb _ _ c.if-c-eq0.true) (c.count_own.ensures ms silent)

pub returns : goal.returns
unfolding judge_of element_count_of count_after
returns c = λ ms silent. rw (ne_eqb _ _ c.if-c-eq0.false) (c.count_own-2.ensures ms silent)
