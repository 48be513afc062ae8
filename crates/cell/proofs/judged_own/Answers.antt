use Rattle.cell.proofs.Judging.{refused_config}
use Rattle.cell.proofs.judged_own.Goals as goal

pub returns-in_err-config_refusal : goal.returns-in_err-config_refusal
returns-in_err-config_refusal c =
    λ ms silent. refused_config _ _ ms silent _ _ c.from_residual.ensures.1 c.in_err-config_refusal.ensures
