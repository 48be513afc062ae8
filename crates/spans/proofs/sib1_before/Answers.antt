use Rattle.spans.proofs.Laws.{sib1_clamped}
use Rattle.spans.proofs.sib1_before.Goals as goal

pub returns : goal.returns
returns c = rw (c.min.ensures, c.saturating_sub.ensures, c.low-x.ensures) (sib1_clamped c.args.p c.requires c.args.s)
