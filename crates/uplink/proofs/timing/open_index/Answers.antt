use native.Mathlib.Omega.{arith}
use Rattle.uplink.proofs.Grouped.{usable, begins, cycles, first_group_small, index_found, index_missed, index_found_fits}
use Rattle.uplink.proofs.timing.open_index.Goals.{After-free_index-at, Start}
use Rattle.uplink.proofs.timing.open_index.Goals as goal

pub free_index-at-requires : goal.free_index-at-requires
free_index-at-requires c =
    let a = c in
    let s = a.args.s in (
      usable s a.requires.0 a.args.nested a.requires.1 _ a.requires.3,
      begins s a.requires.0 a.args.nested a.requires.1 _ a.requires.3,
      a.requires.2.nesting,
      cycles s a.requires.0 a.args.nested a.requires.1 _ a.requires.3,
      omega (arith, first_group_small s a.requires.0 a.args.nested a.requires.1 _ a.requires.3),
    )

pub overflow_mul-result : goal.overflow_mul-result
overflow_mul-result c =
    omega (arith, c.ranges.x, index_found_fits c.args.s c.requires.0 c.args.nested c.requires.1 _ c.requires.3 c.args.x _ _ c.over_group-y.ensures c.free_index-at.ensures)

pub overflow_add-result : goal.overflow_add-result
overflow_add-result c =
    omega (arith, c.ranges.x, index_found_fits c.args.s c.requires.0 c.args.nested c.requires.1 _ c.requires.3 c.args.x _ _ c.over_group-y.ensures c.free_index-at.ensures)

pub returns-then-at : goal.returns-then-at
returns-then-at c = index_found c.args.s c.requires.0 c.args.nested c.requires.1 _ c.requires.3 c.args.x _ _ c.over_group-y.ensures c.free_index-at.ensures c.if-at.true

pub returns-else-at : goal.returns-else-at
returns-else-at c = index_missed c.args.s c.requires.0 c.args.nested c.requires.1 _ c.requires.3 c.args.x _ _ c.over_group-y.ensures c.free_index-at.ensures c.if-at.false
