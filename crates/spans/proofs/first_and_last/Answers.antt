use Prim.Native.Nat.{◌+◌}
use native.Mathlib.Omega.{arith}
use Rattle.counting.proofs.Rank.{rank_le}
use Rattle.spans.specs.Pattern.{allows}
use Rattle.spans.proofs.Laws.{nth_is}
use Rattle.spans.proofs.first_and_last.Goals as goal

pub overflow_add-k : goal.overflow_add-k
overflow_add-k c = omega (arith, c.rank_of.ensures, rank_le (allows c.new-counted.result.pattern) c.args.from, c.requires.2, c.requires.3)

pub at-first-requires : goal.at-first-requires
at-first-requires c =
    (rw c.new-counted.ensures c.requires.1, omega (arith, c.rank_of.ensures, rank_le (allows c.new-counted.result.pattern) c.args.from, c.requires.2, c.requires.3))

pub overflow_add-k-2 : goal.overflow_add-k-2
overflow_add-k-2 c = omega (arith, c.rank_of.ensures, rank_le (allows c.new-counted.result.pattern) c.args.from, c.requires.2, c.requires.3)

pub at-last-requires : goal.at-last-requires
at-last-requires c =
    (rw c.new-counted.ensures c.requires.1, omega (arith, c.rank_of.ensures, rank_le (allows c.new-counted.result.pattern) c.args.from, c.requires.2, c.requires.3))

pub returns : goal.returns
returns c =
    let ranked = rw c.new-counted.ensures at c.rank_of.ensures in
    let first = rw c.new-counted.ensures at c.at-first.ensures in
    let last = rw c.new-counted.ensures at c.at-last.ensures in (
      nth_is c.args.p c.requires.0 c.args.from c.args.j _ c.at-first.result c.requires.1 (omega (arith, ranked)) first,
      nth_is c.args.p c.requires.0 c.args.from (c.args.j + c.args.more) _ c.at-last.result c.requires.1 (omega (arith, ranked)) last,
    )
