use mathlib.Core.Path.{ap, ◌∙◌}
use Rattle.sending.specs.Answer.{extent_of}
use Rattle.uplink.specs.Answers.{refused_plan, plan_shown}
use Rattle.postponed.proofs.Beside.{refused_first}
use Rattle.plain_uplink.specs.Places.{of_plan}
use Rattle.plain_uplink.proofs.places_of.Goals as goal

pub returns-in-Err : goal.returns-in-Err
returns-in-Err g c =
    c.no_place.ensures
    ∙ ap of_plan (refused_first refused_plan (λ S. plan_shown (g.G.UplinkGrant.size_of c.args.g) (g.G.UplinkGrant.order_of c.args.g) (extent_of S)) (g.G.UplinkGrant.refusal_of c.args.g) (g.G.UplinkGrant.spacing_of c.args.g) (g.G.UplinkGrant.shape_of c.args.g) c.args.ws _ c.in-Err.ensures)
