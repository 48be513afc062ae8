use mathlib.Core.Path.{sym}
use Rattle.refusals.proofs.Numbers.{numbered}
use Rattle.cell.specs.Quick.{count_after}
use Rattle.cell.proofs.Accepted.{config_numbers}
use Rattle.cell.proofs.Judging.{config_first}
use Rattle.cell.proofs.count_own.Goals as goal

pub returns-in-Err : goal.returns-in-Err
unfolding count_after
returns-in-Err c =
    λ ms silent.
    simp (← config_first _ _ ms silent _ c.in-Err.ensures, c.number.ensures, numbered c.in-Err.refusal)

pub counted-requires : goal.counted-requires
counted-requires c = λ z. config_numbers _ _ (sym c.in_default.ensures)
