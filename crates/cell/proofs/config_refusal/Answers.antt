use mathlib.Core.Path.{◌∙◌}
use Rattle.refusals.proofs.Numbers.{stands, passed_on}
use Rattle.cell.specs.Judge.{config_refusal}
use Rattle.cell.proofs.config_refusal.Goals as goal

pub returns-in_err-numbers_refusal : goal.returns-in_err-numbers_refusal
unfolding config_refusal
returns-in_err-numbers_refusal c = passed_on _ _ c.from_residual.ensures.1 ∙ stands _ _ _ c.in_err-numbers_refusal.ensures

pub returns-then-is_bad : goal.returns-then-is_bad
unfolding config_refusal
returns-then-is_bad c = simp (← c.in_ok-numbers_refusal.ensures, ← c.is_bad.ensures, c.if-is_bad.true)

pub returns : goal.returns
unfolding config_refusal
returns c = simp (← c.in_ok-numbers_refusal.ensures, ← c.is_bad.ensures, c.if-is_bad.false)
