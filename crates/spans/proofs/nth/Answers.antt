use native.Mathlib.Omega.{arith}
use Rattle.counting.proofs.Rank.{rank_le}
use Rattle.spans.specs.Pattern.{allows}
use Rattle.spans.proofs.Laws.{nth_is}
use Rattle.spans.proofs.nth.Goals as goal

pub overflow_add-rank_of : goal.overflow_add-rank_of
overflow_add-rank_of c = omega (arith, c.rank_of.ensures, rank_le (allows c.new-counted.result.pattern) c.args.from, c.requires.2, c.requires.3)

pub at-requires : goal.at-requires
at-requires c =
    (rw c.new-counted.ensures c.requires.1, omega (arith, c.rank_of.ensures, rank_le (allows c.new-counted.result.pattern) c.args.from, c.requires.2, c.requires.3))

pub returns : goal.returns
returns c =
    let ranked = rw c.new-counted.ensures at c.rank_of.ensures in
    let there = rw c.new-counted.ensures at c.at.ensures in
    nth_is c.args.p c.requires.0 c.args.from c.args.j _ c.at.result c.requires.1 (omega (arith, ranked)) there
