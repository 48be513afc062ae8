use Rattle.search_space.proofs.Accepting.{cell_refused, space_refused, neither}
use Rattle.search_space.proofs.judged.Goals as goal

pub returns-in_err-v : goal.returns-in_err-v
returns-in_err-v c = cell_refused _ _ _ _ _ _ c.from_residual.ensures.1 c.in_err-v.ensures.number

pub returns-in_err-space_refusal : goal.returns-in_err-space_refusal
returns-in_err-space_refusal c =
    space_refused _ _ _ _ _ c.in_ok-v.ensures _ _ c.from_residual-in_err-space_refusal.ensures.1 c.in_err-space_refusal.ensures

pub returns : goal.returns
returns c = neither _ _ _ _ _ c.in_ok-v.ensures c.in_ok-space_refusal.ensures
