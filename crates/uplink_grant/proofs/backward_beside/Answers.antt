use mathlib.Core.Path.{◌∙◌}
use Rattle.sending.specs.Answer.{refused_back}
use Rattle.uplink.specs.Scaffold.{back_in}
use Rattle.postponed.proofs.Beside.{refused_first}
use Rattle.uplink_grant.proofs.backward_beside.Goals as goal

pub returns-in-Err : goal.returns-in-Err
returns-in-Err g c =
    c.refused.ensures
    ∙ refused_first refused_back (λ S. back_in (g.G.UplinkGrant.shape_of c.args.g).subcarriers S c.args.slot c.args.l c.args.k) (g.G.UplinkGrant.refusal_of c.args.g) (g.G.UplinkGrant.spacing_of c.args.g) (g.G.UplinkGrant.shape_of c.args.g) c.args.ws _ c.in-Err.ensures
