use mathlib.Core.Bool.{true, false}
use mathlib.Core.Path.{sym}
use native.Mathlib.Omega.{arith}
use lib.Count.{ones-le}
use borrow.Author.Tests.{lt-ltb, le-ltb}
use Rattle.counting.proofs.Fours.{place_packed}
use Rattle.counting.proofs.nth_of_four.Goals as goal

pub returns-then-x-lt8 : goal.returns-then-x-lt8
returns-then-x-lt8 c =
    place_packed true c.args.x c.args.k (sym (lt-ltb c.args.x 8 c.if-x-lt8.true)) c.requires.0 c.requires.1

pub returns-else-x-lt8 : goal.returns-else-x-lt8
returns-else-x-lt8 c =
    place_packed false c.args.x c.args.k (sym (le-ltb c.args.x 8 c.if-x-lt8.false)) c.requires.0 c.requires.1

pub overflow_shr-result : goal.overflow_shr-result
overflow_shr-result c = omega (arith, ones-le 4 c.args.x c.requires.0)

pub overflow_shr-result-else-x-lt8 : goal.overflow_shr-result-else-x-lt8
overflow_shr-result-else-x-lt8 c = omega (arith, ones-le 4 c.args.x c.requires.0)
