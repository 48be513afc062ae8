use mathlib.Core.Path.{◌∙◌}
use native.Mathlib.Omega.{arith}
use Rattle.sync.specs.Sync.{sib1}
use Rattle.broadcast.specs.Channels.{sib1_of}
use Rattle.broadcast.proofs.Channels.{sib1_sent, fits, index_small, place_accepted, backward_refused, backward_standing}
use Rattle.broadcast.proofs.backward_sib1.Goals as goal

pub standing-requires : goal.standing-requires
standing-requires c =
    let p = place_accepted _ _ c.in-Ok.ensures in
    (fits c.args.c _ _ (sib1_of c.args.c.config) (sib1_sent c.args.c.config) p.0 _ c.sib1_burst.ensures, p.1, index_small (sib1 c.args.c.config.identity c.args.c.config.sib1) 2560 c.args.t _ c.sib1_found-i.ensures)

pub returns-in-Ok : goal.returns-in-Ok
returns-in-Ok c =
    let p = place_accepted _ _ c.in-Ok.ensures in
    backward_standing c.args.c _ _ (sib1_of c.args.c.config) (sib1_sent c.args.c.config) p.0 _ c.sib1_burst.ensures c.args.t c.args.slot c.args.l c.args.k p.1
    (omega arith) _ c.sib1_found-i.ensures _ c.standing.ensures

pub returns-in-Err : goal.returns-in-Err
returns-in-Err c =
    c.refused.ensures
    ∙ backward_refused c.args.c _ _ (sib1_of c.args.c.config) (sib1_sent c.args.c.config) c.args.t c.args.slot c.args.l c.args.k _ c.in-Err.ensures
