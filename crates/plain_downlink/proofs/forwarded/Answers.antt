use mathlib.Core.Path.{◌∙◌}
use Rattle.downlink.proofs.Cells.{cell_refused, grant_refused, ready, forward_ready}
use Rattle.plain_downlink.proofs.forwarded.Goals as goal

pub returns-in_err-v : goal.returns-in_err-v
returns-in_err-v g c = cell_refused _ _ _ _ _ _ _ _ c.from_residual.ensures.1 c.in_err-v.ensures.number

pub returns-in_err-b : goal.returns-in_err-b
returns-in_err-b g c =
    grant_refused _ _ _ _ _ _ _ _ c.from_residual-in_err-b.ensures.1 _ c.in_ok-v.ensures c.in_err-b.ensures.number

pub burst_forward-requires : goal.burst_forward-requires
burst_forward-requires g c = ready _ _ _ _ _ _ c.in_ok-v.ensures _ c.in_ok-b.ensures

pub returns : goal.returns
returns g c = c.burst_forward.ensures ∙ forward_ready _ _ _ _ _ _ c.in_ok-v.ensures _ c.in_ok-b.ensures _
