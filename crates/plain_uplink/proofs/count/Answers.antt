use mathlib.Core.Path.{refl, sym, ap, ◌∙◌}
use Rattle.sending.specs.Answer.{extent_of}
use Rattle.sending.proofs.Answer.{accepted_as}
use Rattle.uplink.specs.Mapping.{sending_of}
use Rattle.uplink.specs.Answers.{refused_plan, plan_shown}
use Rattle.postponed.specs.Beside.{open_beside, question_beside}
use Rattle.postponed.proofs.Beside.{refused_asked}
use Rattle.plain_uplink.specs.Places.{of_plan}
use Rattle.plain_uplink.proofs.count.Goals as goal

pub returns-in-Err : goal.returns-in-Err
returns-in-Err c =
    λ size order.
    c.no_place.ensures
    ∙ ap of_plan (refused_asked refused_plan (λ S. plan_shown size order (extent_of S)) c.args.spacing c.args.s c.args.ws _ c.in-Err.ensures)

pub returns : goal.returns
returns c =
    λ size order.
    (λ j. record { no = 0; places = c.total.ensures j })
    ∙ ap of_plan (accepted_as refused_plan (λ S. plan_shown size order (extent_of S)) (question_beside c.args.spacing c.args.s c.args.ws) (sending_of c.args.s (open_beside c.args.spacing c.args.s c.args.ws))
    (sym c.in_default.ensures) refl)
