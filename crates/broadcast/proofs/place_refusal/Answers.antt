use mathlib.Core.Path.{◌∙◌}
use Rattle.refusals.proofs.Numbers.{stands, passed_on}
use Rattle.broadcast.specs.Quick.{place_refusal}
use Rattle.broadcast.proofs.place_refusal.Goals as goal

pub returns-in_err-refusal : goal.returns-in_err-refusal
unfolding place_refusal
returns-in_err-refusal c = passed_on _ _ c.from_residual.ensures.1 ∙ stands _ _ _ c.in_err-refusal.ensures

pub returns-then-not-is_inside : goal.returns-then-not-is_inside
unfolding place_refusal
returns-then-not-is_inside c = simp (← c.in_ok-refusal.ensures, ← c.is_inside.ensures, c.if-not-is_inside.true)

pub returns : goal.returns
unfolding place_refusal
returns c = simp (← c.in_ok-refusal.ensures, ← c.is_inside.ensures, c.if-not-is_inside.false)
