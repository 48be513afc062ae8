use borrow.Author.Tests.{eq-eqb, ne_eqb}
use mathlib.Core.Path.{◌∙◌}
use Rattle.cell.specs.Judge.{judge_of}
use Rattle.cell.proofs.judge_lent.Goals as goal

pub returns-then-c-eq0 : goal.returns-then-c-eq0
unfolding judge_of
returns-then-c-eq0 c = rw (eq-eqb _ _ c.if-c-eq0.true) (c.judge_alone.ensures _ (c.are_none.ensures c.if-are_none.true))

pub returns-then-are_none : goal.returns-then-are_none
unfolding judge_of
returns-then-are_none c =
    rw (ne_eqb _ _ c.if-c-eq0.false) (c.judge_alone-then-are_none.ensures _ (c.are_none.ensures c.if-are_none.true))

pub returns : goal.returns
unfolding judge_of
returns c = c.number.ensures ∙ c.judged_beside.ensures.number
