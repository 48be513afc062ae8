use borrow.Author.Tests.{lt-ltb, le-ltb}
use Rattle.downlink.specs.Cells.{fields_refusal}
use Rattle.downlink.proofs.fields_refusal.Goals as goal

pub returns-then-n-gt-LAST_SUBFRAME : goal.returns-then-n-gt-LAST_SUBFRAME
unfolding fields_refusal
returns-then-n-gt-LAST_SUBFRAME c = simp (lt-ltb _ _ c.if-n-gt-LAST_SUBFRAME.true)

pub returns-then-above : goal.returns-then-above
unfolding fields_refusal
returns-then-above c = simp (le-ltb _ _ c.if-n-gt-LAST_SUBFRAME.false, c.if-above.true)

pub returns-then-not-is_repetition : goal.returns-then-not-is_repetition
unfolding fields_refusal
returns-then-not-is_repetition c =
    simp (le-ltb _ _ c.if-n-gt-LAST_SUBFRAME.false, c.if-above.false, ← c.is_repetition.ensures, c.if-not-is_repetition.true)

pub returns : goal.returns
unfolding fields_refusal
returns c =
    simp (le-ltb _ _ c.if-n-gt-LAST_SUBFRAME.false, c.if-above.false, ← c.is_repetition.ensures, c.if-not-is_repetition.false)
