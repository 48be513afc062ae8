use mathlib.Core.Path.{◌∙◌}
use Rattle.uplink.specs.Answers.{refused_place}
use Rattle.uplink.specs.Scaffold.{place_in}
use Rattle.postponed.proofs.Beside.{refused_first}
use Rattle.plain_uplink.proofs.forward_of.Goals as goal

pub returns-in-Err : goal.returns-in-Err
returns-in-Err g c =
    c.refused_place.ensures
    ∙ refused_first refused_place (λ S. place_in (g.G.UplinkGrant.shape_of c.args.g).subcarriers S c.args.p) (g.G.UplinkGrant.refusal_of c.args.g) (g.G.UplinkGrant.spacing_of c.args.g) (g.G.UplinkGrant.shape_of c.args.g) c.args.ws _ c.in-Err.ensures
