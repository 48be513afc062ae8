use mathlib.Core.Path.{◌∙◌}
use native.Mathlib.Omega.{arith}
use Rattle.sync.specs.Sync.{npbch}
use Rattle.broadcast.specs.Channels.{npbch_of}
use Rattle.broadcast.proofs.Channels.{npbch_sent, fits, index_small, place_accepted, backward_refused, backward_standing}
use Rattle.broadcast.proofs.backward_npbch.Goals as goal

pub standing-requires : goal.standing-requires
standing-requires c =
    let p = place_accepted _ _ c.in-Ok.ensures in
    (fits c.args.c _ _ (npbch_of c.args.c.config) (npbch_sent c.args.c.config) p.0 _ c.npbch_burst.ensures, p.1, index_small npbch 640 c.args.t _ c.npbch_found.ensures)

pub returns-in-Ok : goal.returns-in-Ok
returns-in-Ok c =
    let p = place_accepted _ _ c.in-Ok.ensures in
    backward_standing c.args.c _ _ (npbch_of c.args.c.config) (npbch_sent c.args.c.config) p.0 _ c.npbch_burst.ensures c.args.t c.args.slot c.args.l c.args.k p.1
    (omega arith) _ c.npbch_found.ensures _ c.standing.ensures

pub returns-in-Err : goal.returns-in-Err
returns-in-Err c =
    c.refused.ensures
    ∙ backward_refused c.args.c _ _ (npbch_of c.args.c.config) (npbch_sent c.args.c.config) c.args.t c.args.slot c.args.l c.args.k _ c.in-Err.ensures
