use Rattle.cell.specs.Judge.{judge_of, cause_of}
use Rattle.cell.proofs.Judging.{cause_verdict, cause_told}
use Rattle.cell.proofs.cause_beside.Goals as goal

pub returns-in_err-v : goal.returns-in_err-v
unfolding judge_of cause_of
returns-in_err-v c = cause_verdict _ _ _ _ _ c.from_residual.ensures.1 c.in_err-v.ensures.number

pub returns : goal.returns
unfolding judge_of cause_of
returns c = cause_told _ _ _ _ c.in_ok-v.ensures _ c.why.ensures
