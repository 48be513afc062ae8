use mathlib.Core.Path.{sym, ◌∙◌}
use Rattle.counting.proofs.Period.{select_from}
use Rattle.messages.specs.Messages.{all_periods}
use Rattle.subframes.specs.Subframes.{messages_in}
use Rattle.subframes.specs.Scaffold.{left_in}
use Rattle.subframes.proofs.Left.{left_again}
use Rattle.downlink.proofs.subframe_at.Goals as goal

pub returns : goal.returns
returns c =
    let x = c.args in
    let again = left_again x.v.pattern x.v.laid (messages_in x.si.now) c.requires.0.on in
    c.nth.ensures
    ∙ sym (select_from (left_in x.v.pattern x.v.laid (messages_in x.si.now)) all_periods again c.requires.0.some x.b.from x.b.skip x.i)
