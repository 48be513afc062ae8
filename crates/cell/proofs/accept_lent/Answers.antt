use borrow.Author.Tests.{eq-eqb, ne_eqb}
use mathlib.Core.Path.{◌∙◌}
use Rattle.refusals.proofs.Numbers.{passed_on}
use Rattle.cell.specs.Judge.{judge_of}
use Rattle.cell.proofs.accept_lent.Goals as goal

pub returns-then-c-eq0 : goal.returns-then-c-eq0
unfolding judge_of
returns-then-c-eq0 c = rw (eq-eqb _ _ c.if-c-eq0.true) (c.accept_own.ensures _ (c.are_none.ensures c.if-are_none.true))

pub returns-then-are_none : goal.returns-then-are_none
unfolding judge_of
returns-then-are_none c =
    rw (ne_eqb _ _ c.if-c-eq0.false) (c.accept_own-then-are_none.ensures _ (c.are_none.ensures c.if-are_none.true))

pub returns-in_err-judged_beside : goal.returns-in_err-judged_beside
unfolding judge_of
returns-in_err-judged_beside c = passed_on _ _ c.from_residual.ensures.1 ∙ c.in_err-judged_beside.ensures.number

pub returns : goal.returns
unfolding judge_of
returns c = c.in_ok-judged_beside.ensures.number
