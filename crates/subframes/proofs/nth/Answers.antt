use mathlib.Core.Path.{◌∙◌}
use Rattle.subframes.proofs.Left.{left_laid, left_alone, some_laid, some_whole, some_of_pattern, select_alone}
use Rattle.subframes.proofs.nth.Goals as goal

pub nth-requires : goal.nth-requires
nth-requires c = let q = c.requires in let y = c.if-laid.true in
    rw c.messages_in.ensures (q.0.on.listed y, q.0.on.regular, some_laid _ _ _ q.0 y, q.1, q.2)

pub returns-then-laid : goal.returns-then-laid
returns-then-laid c = let b = c in rw (left_laid _ _ _ b.if-laid.true, ← b.messages_in.ensures) c.nth.ensures

pub nth-requires-else-laid : goal.nth-requires-else-laid
nth-requires-else-laid c = let q = c.requires in (q.0.on.regular, some_of_pattern _ _ _ q.0 c.if-laid.false, q.1, q.2)

pub returns-else-laid : goal.returns-else-laid
returns-else-laid c = let q = c.requires.0 in let n = c.if-laid.false in
    rw (left_alone _ _ _ n) (c.nth-else-laid.ensures ∙ select_alone _ q.on.regular (some_whole _ _ _ q n) _ _)
