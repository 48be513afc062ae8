use mathlib.Core.Path.{◌∙◌}
use Rattle.refusals.proofs.Numbers.{stands, passed_on}
use Rattle.cell.specs.Judge.{form_refusal}
use Rattle.cell.proofs.form_refusal.Goals as goal

pub returns-in_err-config_refusal : goal.returns-in_err-config_refusal
unfolding form_refusal
returns-in_err-config_refusal c = passed_on _ _ c.from_residual.ensures.1 ∙ stands _ _ _ c.in_err-config_refusal.ensures

pub returns-then-not-are_listed : goal.returns-then-not-are_listed
unfolding form_refusal
returns-then-not-are_listed c =
    simp (← c.in_ok-config_refusal.ensures, ← c.messages_in.ensures, ← c.are_listed.ensures, c.if-not-are_listed.true)

pub returns : goal.returns
unfolding form_refusal
returns c =
    simp (← c.in_ok-config_refusal.ensures, ← c.messages_in.ensures, ← c.are_listed.ensures, c.if-not-are_listed.false)
