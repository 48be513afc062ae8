use Prim.Native.Nat.{◌+◌, ◌-◌, ◌*◌}
use mathlib.Core.Path.{◌∙◌}
use Rattle.subframes.proofs.Left.{left_laid, left_alone, some_laid, some_whole, some_of_pattern, select_alone}
use Rattle.search_space.proofs.all_blocks.Goals as goal

pub returns : goal.returns
returns c =
    let q = c.requires.0 in
    let n = c.if-laid.false in
    let b = c.blocks_alone.ensures in
    let one = select_alone _ q.on.regular (some_whole _ _ _ q n) _ in
    let size = c.args.x.size in
    rw (left_alone _ _ _ n) (record { each = λ i h. b.each i h ∙ (λ j. record { first = one (i * size) j; last = one (i * size + (size - 1)) j }) })

pub blocks_beside-requires : goal.blocks_beside-requires
blocks_beside-requires c =
    let q = c.requires in
    let y = c.if-laid.true in
    (q.0.on.listed y, q.0.on.regular, some_laid _ _ _ q.0 y, q.1, q.2)

pub returns-then-laid : goal.returns-then-laid
returns-then-laid c = rw (left_laid _ _ _ c.if-laid.true) c.blocks_beside.ensures

pub blocks_alone-requires : goal.blocks_alone-requires
blocks_alone-requires c = let q = c.requires in (q.0.on.regular, some_of_pattern _ _ _ q.0 c.if-laid.false, q.1, q.2)
