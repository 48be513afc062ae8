use Rattle.cell.proofs.Judging.{refused_form}
use Rattle.cell.proofs.judged_with.Goals as goal

pub returns-in_err-form_refusal : goal.returns-in_err-form_refusal
returns-in_err-form_refusal c = refused_form _ _ _ _ c.from_residual.ensures.1 c.in_err-form_refusal.ensures
