use mathlib.Core.Path.{◌∙◌}
use Rattle.cell.proofs.Judging.{config_first}
use Rattle.cell.proofs.judge_alone.Goals as goal

pub returns-in-Err : goal.returns-in-Err
returns-in-Err c = λ ms silent. c.number.ensures ∙ config_first _ _ ms silent _ c.in-Err.ensures
