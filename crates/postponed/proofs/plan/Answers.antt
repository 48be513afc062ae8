use mathlib.Core.Path.{◌∙◌}
use Rattle.sending.specs.Answer.{extent_of}
use Rattle.uplink.specs.Answers.{refused_plan, plan_shown}
use Rattle.postponed.proofs.Beside.{none_asked, refused_asked, nested_asked}
use Rattle.postponed.proofs.plan.Goals as goal

pub returns-then-ws-eq0 : goal.returns-then-ws-eq0
returns-then-ws-eq0 c =
    c.plan.ensures
    ∙ none_asked refused_plan (λ S. plan_shown c.args.size c.args.order (extent_of S)) c.args.spacing c.args.s c.args.ws c.requires.1 c.if-ws-eq0.true

pub returns-in-Ok : goal.returns-in-Ok
returns-in-Ok c =
    c.plan-in-Ok.ensures
    ∙ nested_asked refused_plan (λ S. plan_shown c.args.size c.args.order (extent_of S)) c.args.spacing c.args.s c.args.ws _ c.in-Ok.ensures.0 c.in-Ok.ensures.1

pub returns-in-Err : goal.returns-in-Err
returns-in-Err c =
    c.refused_plan.ensures
    ∙ refused_asked refused_plan (λ S. plan_shown c.args.size c.args.order (extent_of S)) c.args.spacing c.args.s c.args.ws _ c.in-Err.ensures.0
