use mathlib.Core.Path.{◌∙◌}
use Rattle.refusals.proofs.Numbers.{passed_on}
use Rattle.cell.proofs.Judging.{config_first}
use Rattle.cell.proofs.accept_own.Goals as goal

pub returns-in_err-config_refusal : goal.returns-in_err-config_refusal
returns-in_err-config_refusal c =
    λ ms silent. passed_on _ _ c.from_residual.ensures.1 ∙ config_first _ _ ms silent _ c.in_err-config_refusal.ensures

pub returns-in_err-formed_alone : goal.returns-in_err-formed_alone
returns-in_err-formed_alone c =
    λ ms silent. passed_on _ _ c.from_residual-in_err-formed_alone.ensures.1 ∙ (c.in_err-formed_alone.ensures ms silent).number

pub returns : goal.returns
returns c = λ ms silent. (c.in_ok-formed_alone.ensures ms silent).number
