use native.Mathlib.Omega.{arith}
use Rattle.closures.proofs.Cycles.{some_length, rest_small, stands, index_fits}
use Rattle.closures.proofs.free_index.Goals as goal

pub nonzero_div-whole : goal.nonzero_div-whole
nonzero_div-whole c = some_length _ _ c.requires.3 c.args.t

pub count_free-before-requires : goal.count_free-before-requires
count_free-before-requires c = (
  c.requires.0,
  c.requires.1,
  c.requires.2,
  omega (arith, c.requires.4),
  omega (arith, rest_small _ _ c.requires.3 c.args.t c.args.y, c.requires.3.small),
)

pub overflow_add-t : goal.overflow_add-t
overflow_add-t c = omega (arith, rest_small _ _ c.requires.3 c.args.t c.args.y, c.requires.3.small, c.requires.4)

pub is_free-requires : goal.is_free-requires
is_free-requires c = (c.requires.0, c.requires.2.sorted.usable, omega (arith, rest_small _ _ c.requires.3 c.args.t c.args.y, c.requires.3.small, c.requires.4))

pub overflow_mul-result : goal.overflow_mul-result
overflow_mul-result c = omega (arith, index_fits _ _ c.requires.3 c.args.t c.args.y _ c.count_free-before.ensures.1, c.ranges.y)

pub overflow_add-result : goal.overflow_add-result
overflow_add-result c = omega (arith, index_fits _ _ c.requires.3 c.args.t c.args.y _ c.count_free-before.ensures.1, c.ranges.y)

pub returns : goal.returns
returns c = stands _ _ c.requires.3 c.args.t c.args.y _ _ c.is_free.ensures c.count_free-before.ensures.0
