use native.Mathlib.Nat.{mul-le-mul}
use native.Mathlib.Omega.{arith}
use Rattle.downlink.proofs.Cells.{ready}
use Rattle.transmitted.proofs.Calling.{cell_refused, grant_refused, late_refused, accepted}
use Rattle.transmitted.proofs.judged.Goals as goal

pub returns-in_err-judged_lent : goal.returns-in_err-judged_lent
returns-in_err-judged_lent c = cell_refused _ _ _ _ _ _ _ _ _ _ _ c.from_residual.ensures.1 c.in_err-judged_lent.ensures.number

pub returns-in_err-b : goal.returns-in_err-b
returns-in_err-b c =
    grant_refused _ _ _ _ _ _ _ _ _ _ c.in_ok-judged_lent.ensures _ _ c.from_residual-in_err-b.ensures.1 c.in_err-b.ensures.number

pub used_elements-w-requires : goal.used_elements-w-requires
used_elements-w-requires c = (ready _ _ _ _ _ _ c.in_ok-judged_lent.ensures _ c.in_ok-b.ensures).1

pub late_refusal-requires : goal.late_refusal-requires
late_refusal-requires c = ((ready _ _ _ _ _ _ c.in_ok-judged_lent.ensures _ c.in_ok-b.ensures).1, c.used_elements-w.ensures.0)

pub returns-in_err-late_refusal : goal.returns-in_err-late_refusal
returns-in_err-late_refusal c =
    late_refused _ _ _ _ _ _ _ _ _ _ c.in_ok-judged_lent.ensures _ c.in_ok-b.ensures _ _ c.from_residual-in_err-late_refusal.ensures.1
    c.in_err-late_refusal.ensures

pub carried_by-unit-requires : goal.carried_by-unit-requires
carried_by-unit-requires c = (ready _ _ _ _ _ _ c.in_ok-judged_lent.ensures _ c.in_ok-b.ensures).1

pub overflow_mul-result : goal.overflow_mul-result
overflow_mul-result c = omega (arith, mul-le-mul c.carried_by-unit.ensures.1 c.used_elements-w.ensures.2)

pub returns : goal.returns
returns c =
    accepted _ _ _ _ _ _ _ _ _ _ c.in_ok-judged_lent.ensures _ c.in_ok-b.ensures _ _ c.in_ok-late_refusal.ensures c.used_elements-w.ensures.0
    c.carried_by-unit.ensures.0
