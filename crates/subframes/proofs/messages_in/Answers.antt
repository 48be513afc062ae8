use borrow.Author.Tests.{lt-ltb, le-ltb}
use Rattle.subframes.specs.Subframes.{messages_in}
use Rattle.subframes.proofs.messages_in.Goals as goal

pub returns-then-si-lt-NUMBERS : goal.returns-then-si-lt-NUMBERS
unfolding messages_in
returns-then-si-lt-NUMBERS c = simp (c.none.ensures, lt-ltb _ _ c.if-si-lt-NUMBERS.true)

pub returns : goal.returns
unfolding messages_in
returns c =
    simp (c.schedule_at-4.ensures, c.schedule_at-3.ensures, c.schedule_at-2.ensures, c.schedule_at.ensures, le-ltb _ _ c.if-si-lt-NUMBERS.false)
