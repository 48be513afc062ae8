use mathlib.Core.Path.{◌∙◌}
use Rattle.uplink.specs.Answers.{refused_place}
use Rattle.uplink.specs.Scaffold.{place_in}
use Rattle.postponed.proofs.Beside.{none_asked, refused_asked, nested_asked}
use Rattle.postponed.proofs.forward.Goals as goal

pub returns-then-ws-eq0 : goal.returns-then-ws-eq0
returns-then-ws-eq0 c =
    c.forward.ensures _ c.slot_at.ensures
    ∙ none_asked refused_place (λ S. place_in c.args.s.subcarriers S c.args.p) c.args.spacing c.args.s c.args.ws c.requires.1 c.if-ws-eq0.true

pub returns-in-Ok : goal.returns-in-Ok
returns-in-Ok c =
    c.forward-in-Ok.ensures _ c.slot_at-in-Ok.ensures
    ∙ nested_asked refused_place (λ S. place_in c.args.s.subcarriers S c.args.p) c.args.spacing c.args.s c.args.ws _ c.in-Ok.ensures.0 c.in-Ok.ensures.1

pub returns-in-Err : goal.returns-in-Err
returns-in-Err c =
    c.refused_place.ensures
    ∙ refused_asked refused_place (λ S. place_in c.args.s.subcarriers S c.args.p) c.args.spacing c.args.s c.args.ws _ c.in-Err.ensures.0
