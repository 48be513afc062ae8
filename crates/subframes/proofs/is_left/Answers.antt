use Rattle.subframes.proofs.Left.{left_laid, left_alone}
use Rattle.subframes.proofs.is_left.Goals as goal

pub returns-then-laid : goal.returns-then-laid
returns-then-laid c = let b = c in rw (left_laid _ _ _ b.if-laid.true, ← b.messages_in.ensures) c.is_remaining.ensures

pub returns-else-laid : goal.returns-else-laid
returns-else-laid c = rw (left_alone _ _ _ c.if-laid.false) c.is_allowed.ensures
