use mathlib.Core.Path.{◌∙◌}
use Rattle.sending.specs.Answer.{refused_back}
use Rattle.uplink.specs.Scaffold.{back_in}
use Rattle.nprach.specs.Windows.{none}
use Rattle.postponed.proofs.Beside.{refused_first, asked_alone}
use Rattle.uplink_grant.proofs.backward.Goals as goal

pub returns-in-Err : goal.returns-in-Err
returns-in-Err g c =
    c.refused.ensures
    ∙ refused_first refused_back (λ S. back_in (g.G.UplinkGrant.shape_of c.args.g).subcarriers S c.args.slot c.args.l c.args.k) (g.G.UplinkGrant.refusal_of c.args.g) (g.G.UplinkGrant.spacing_of c.args.g) (g.G.UplinkGrant.shape_of c.args.g) none _ c.in-Err.ensures

pub returns : goal.returns
returns g c =
    c.backward.ensures _ c.locate.ensures ∙ rw c.shape-s.ensures.0
    (asked_alone refused_back (λ S. back_in (g.G.UplinkGrant.shape_of c.args.g).subcarriers S c.args.slot c.args.l c.args.k) (g.G.UplinkGrant.refusal_of c.args.g) (g.G.UplinkGrant.spacing_of c.args.g) (g.G.UplinkGrant.shape_of c.args.g) c.in_default.ensures)
