use mathlib.Core.Path.{sym, ap, ◌∙◌}
use Rattle.sending.proofs.Answer.{accepted_as}
use Rattle.uplink.specs.Mapping.{sending_of}
use Rattle.uplink.specs.Answers.{refused_place}
use Rattle.uplink.specs.Scaffold.{place_in}
use Rattle.postponed.specs.Beside.{question_beside}
use Rattle.postponed.proofs.Beside.{refused_asked}
use Rattle.plain_uplink.proofs.Clear.{clear_beside, leaves, all_listed}
use Rattle.plain_uplink.proofs.forward.Goals as goal

pub returns-in-Err : goal.returns-in-Err
returns-in-Err c =
    c.refused_place.ensures
    ∙ refused_asked refused_place (λ S. place_in c.args.s.subcarriers S c.args.p) c.args.spacing c.args.s c.args.ws _ c.in-Err.ensures

pub beside-requires : goal.beside-requires
beside-requires c = (c.requires.0, c.requires.1, all_listed c.args.spacing c.args.s c.args.ws (sym c.in_default.ensures))

pub place-requires : goal.place-requires
place-requires c =
    (c.requires.0, c.beside.ensures.1, leaves c.args.spacing c.args.s c.args.ws _ c.beside.ensures.0 c.requires.1 (sym c.in_default.ensures))

pub returns : goal.returns
returns c =
    c.place.ensures
    ∙ accepted_as refused_place (λ S. place_in c.args.s.subcarriers S c.args.p) (question_beside c.args.spacing c.args.s c.args.ws) _ (sym c.in_default.ensures)
    (ap (sending_of c.args.s) (clear_beside c.args.spacing c.args.s c.args.ws c.beside.result c.beside.ensures.0))
