use mathlib.Core.Path.{◌∙◌}
use Rattle.uplink.specs.Answers.{refused_place}
use Rattle.uplink.specs.Scaffold.{place_in}
use Rattle.nprach.specs.Windows.{none}
use Rattle.postponed.proofs.Beside.{refused_first, asked_alone}
use Rattle.uplink_grant.proofs.forward.Goals as goal

pub returns-in-Err : goal.returns-in-Err
returns-in-Err g c =
    c.refused_place.ensures
    ∙ refused_first refused_place (λ S. place_in (g.G.UplinkGrant.shape_of c.args.g).subcarriers S c.args.p) (g.G.UplinkGrant.refusal_of c.args.g) (g.G.UplinkGrant.spacing_of c.args.g) (g.G.UplinkGrant.shape_of c.args.g) none _ c.in-Err.ensures

pub returns : goal.returns
returns g c =
    c.forward.ensures _ c.slot_at.ensures ∙ rw c.shape-s.ensures.0
    (asked_alone refused_place (λ S. place_in (g.G.UplinkGrant.shape_of c.args.g).subcarriers S c.args.p) (g.G.UplinkGrant.refusal_of c.args.g) (g.G.UplinkGrant.spacing_of c.args.g) (g.G.UplinkGrant.shape_of c.args.g) c.in_default.ensures)
