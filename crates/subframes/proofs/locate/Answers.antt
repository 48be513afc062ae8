use mathlib.Core.Path.{◌∙◌}
use Rattle.subframes.proofs.Left.{left_laid, left_alone, some_laid, some_whole, some_of_pattern, found_alone}
use Rattle.subframes.proofs.locate.Goals as goal

pub locate-requires : goal.locate-requires
locate-requires c = let q = c.requires in let y = c.if-laid.true in
    rw c.messages_in.ensures (q.on.listed y, q.on.regular, some_laid _ _ _ q y)

pub returns-then-laid : goal.returns-then-laid
returns-then-laid c = let b = c in rw (left_laid _ _ _ b.if-laid.true, ← b.messages_in.ensures) c.locate.ensures

pub locate-requires-else-laid : goal.locate-requires-else-laid
locate-requires-else-laid c = let q = c.requires in (q.on.regular, some_of_pattern _ _ _ q c.if-laid.false)

pub returns-else-laid : goal.returns-else-laid
returns-else-laid c = let q = c.requires in let n = c.if-laid.false in
    rw (left_alone _ _ _ n) (c.locate-else-laid.ensures ∙ found_alone _ q.on.regular (some_whole _ _ _ q n) _ _ _ _)
