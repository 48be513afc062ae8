use mathlib.Core.Path.{◌∙◌}
use Rattle.sending.specs.Answer.{refused_back}
use Rattle.uplink.specs.Scaffold.{back_in}
use Rattle.postponed.proofs.Beside.{none_asked, refused_asked, nested_asked}
use Rattle.postponed.proofs.backward.Goals as goal

pub returns-then-ws-eq0 : goal.returns-then-ws-eq0
returns-then-ws-eq0 c =
    c.backward.ensures _ c.locate.ensures
    ∙ none_asked refused_back (λ S. back_in c.args.s.subcarriers S c.args.slot c.args.l c.args.k) c.args.spacing c.args.s c.args.ws c.requires.1 c.if-ws-eq0.true

pub returns-in-Ok : goal.returns-in-Ok
returns-in-Ok c =
    c.backward-in-Ok.ensures _ c.locate-in-Ok.ensures
    ∙ nested_asked refused_back (λ S. back_in c.args.s.subcarriers S c.args.slot c.args.l c.args.k) c.args.spacing c.args.s c.args.ws _ c.in-Ok.ensures.0 c.in-Ok.ensures.1

pub returns-in-Err : goal.returns-in-Err
returns-in-Err c =
    c.refused.ensures
    ∙ refused_asked refused_back (λ S. back_in c.args.s.subcarriers S c.args.slot c.args.l c.args.k) c.args.spacing c.args.s c.args.ws _ c.in-Err.ensures.0
