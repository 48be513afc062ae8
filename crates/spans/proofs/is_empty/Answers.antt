use Rattle.spans.proofs.Laws.{empty_is}
use Rattle.spans.proofs.is_empty.Goals as goal

pub returns : goal.returns
returns c = empty_is c.args.p c.requires
