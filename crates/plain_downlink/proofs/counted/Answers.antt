use native.Mathlib.Omega.{arith}
use Rattle.downlink.proofs.Cells.{ready}
use Rattle.downlink.proofs.Joined.{places_small}
use Rattle.plain_downlink.proofs.Ends.{cell_refused, grant_refused, ends_at}
use Rattle.plain_downlink.proofs.counted.Goals as goal

pub returns-in_err-judged : goal.returns-in_err-judged
returns-in_err-judged g c = cell_refused _ _ _ _ (g.G.DownlinkGrant.burst_of c.args.c.config c.args.g) _ _ c.from_residual.ensures.1 c.in_err-judged.ensures.number

pub returns-in_err-b : goal.returns-in_err-b
returns-in_err-b g c = grant_refused _ _ _ _ (g.G.DownlinkGrant.burst_of c.args.c.config c.args.g) _ _ c.from_residual-in_err-b.ensures.1 _ c.in_ok-judged.ensures c.in_err-b.ensures.number

pub sent_subframes-requires : goal.sent_subframes-requires
sent_subframes-requires g c = (ready _ _ _ _ _ _ c.in_ok-judged.ensures _ c.in_ok-b.ensures).1

pub count_used-requires : goal.count_used-requires
count_used-requires g c =
    let f = (ready _ _ _ _ _ _ c.in_ok-judged.ensures _ c.in_ok-b.ensures).1 in
    (f.layout, f.part)

pub overflow_mul-result : goal.overflow_mul-result
overflow_mul-result g c = omega (arith, places_small c.sent_subframes.result c.count_used.result c.sent_subframes.ensures.2 c.count_used.ensures.2)

pub returns : goal.returns
returns g c = ends_at _ _ _ _ _ _ c.in_ok-judged.ensures _ c.in_ok-b.ensures _ _ c.sent_subframes.ensures.0 c.count_used.ensures.0
