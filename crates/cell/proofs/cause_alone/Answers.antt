use borrow.Author.Tests.{eq-eqb, ne_eqb}
use Rattle.cell.specs.Judge.{judge_of, cause_of}
use Rattle.cell.proofs.cause_alone.Goals as goal

pub returns-then-c-eq0 : goal.returns-then-c-eq0
unfolding judge_of cause_of
returns-then-c-eq0 c = λ ms silent. rw (eq-eqb _ _ c.if-c-eq0.true) (c.cause_own.ensures ms silent)

pub returns : goal.returns
unfolding judge_of cause_of
returns c = λ ms silent. rw (ne_eqb _ _ c.if-c-eq0.false) (c.cause_own-2.ensures ms silent)
