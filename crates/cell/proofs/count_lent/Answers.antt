use mathlib.Core.Path.{sym, ◌∙◌}
use Rattle.cell.specs.Judge.{judge_of}
use Rattle.cell.specs.Layout.{element_count_of}
use Rattle.cell.specs.Quick.{count_after}
use Rattle.cell.proofs.Accepted.{accepted_numbers}
use Rattle.cell.proofs.count_lent.Goals as goal

pub counted-requires : goal.counted-requires
unfolding judge_of
counted-requires c = λ z. accepted_numbers _ _ _ (sym c.judged_beside.ensures.number ∙ z)

pub returns : goal.returns
unfolding judge_of element_count_of count_after
returns c = simp (c.counted.ensures, c.judged_beside.ensures.number)
