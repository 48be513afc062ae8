use mathlib.Core.Path.{◌∙◌}
use Rattle.sending.specs.Answer.{extent_of}
use Rattle.uplink.specs.Answers.{refused_plan, plan_shown}
use Rattle.nprach.specs.Windows.{none}
use Rattle.postponed.proofs.Beside.{refused_first, asked_alone}
use Rattle.uplink_grant.proofs.plan.Goals as goal

pub returns-in-Err : goal.returns-in-Err
returns-in-Err g c =
    c.refused_plan.ensures
    ∙ refused_first refused_plan (λ S. plan_shown (g.G.UplinkGrant.size_of c.args.g) (g.G.UplinkGrant.order_of c.args.g) (extent_of S)) (g.G.UplinkGrant.refusal_of c.args.g) (g.G.UplinkGrant.spacing_of c.args.g) (g.G.UplinkGrant.shape_of c.args.g) none _ c.in-Err.ensures

pub returns : goal.returns
returns g c =
    c.plan.ensures ∙ rw (c.block-block.ensures.0, c.block-block.ensures.1, c.shape.ensures.0)
    (asked_alone refused_plan (λ S. plan_shown (g.G.UplinkGrant.size_of c.args.g) (g.G.UplinkGrant.order_of c.args.g) (extent_of S)) (g.G.UplinkGrant.refusal_of c.args.g) (g.G.UplinkGrant.spacing_of c.args.g) (g.G.UplinkGrant.shape_of c.args.g) c.in_default.ensures)
