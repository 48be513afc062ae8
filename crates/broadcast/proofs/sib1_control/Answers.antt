use borrow.Author.Tests.{lt-ltb, le-ltb}
use Rattle.broadcast.proofs.sib1_control.Goals as goal

pub returns-then-mode-lt2 : goal.returns-then-mode-lt2
returns-then-mode-lt2 c = simp (lt-ltb _ _ c.if-mode-lt2.true)

pub returns : goal.returns
returns c = simp (le-ltb _ _ c.if-mode-lt2.false)
