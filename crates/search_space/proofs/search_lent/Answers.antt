use mathlib.Core.Path.{◌∙◌}
use Rattle.search_space.proofs.Accepting.{told_refusal, told_starts}
use Rattle.search_space.proofs.search_lent.Goals as goal

pub monitored-requires : goal.monitored-requires
monitored-requires c = (rw c.messages_in.ensures c.in-Ok.ensures.accepted.0.searchable, c.in-Ok.ensures.accepted.1)

pub returns-in-Ok : goal.returns-in-Ok
returns-in-Ok c = rw c.messages_in.ensures at c.monitored.ensures ∙ told_starts _ _ _ _ _ c.in-Ok.ensures

pub returns-in-Err : goal.returns-in-Err
returns-in-Err c = c.refused.ensures ∙ told_refusal _ _ _ _ _ c.in-Err.ensures.number
