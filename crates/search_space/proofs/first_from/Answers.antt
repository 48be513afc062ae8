use mathlib.Core.Path.{refl}
use native.Mathlib.Omega.{arith}
use Prim.Native.Nat.{◌+◌, ◌-◌, ◌*◌, ◌/◌, ◌<◌}
use Rattle.search_space.proofs.Starting.{part_first, later_first, reached}
use Rattle.search_space.proofs.first_from.Goals.{Else-x-part}
use Rattle.search_space.proofs.first_from.Goals as goal

pub returns-then-x-part : goal.returns-then-x-part
returns-then-x-part c =
    let a = c.args in
    (part_first a.period a.part a.x c.requires.1 c.if-x-part.true, omega arith)

soon : (c : Else-x-part)
    → (c.args.x - c.args.part + (c.args.period - 1)) / c.args.period * c.args.period
    < c.args.x - c.args.part + c.args.period
soon c =
    let a = c.args in
    (reached a.period a.part a.x c.requires.1 c.if-x-part.false _ refl).1

pub returns : goal.returns
returns c =
    let a = c.args in
    (later_first a.period a.part a.x c.requires.1 c.if-x-part.false _ refl, omega (arith, soon c))

pub overflow_mul-result : goal.overflow_mul-result
overflow_mul-result c = omega (arith, soon c)

pub overflow_add-result-2 : goal.overflow_add-result-2
overflow_add-result-2 c = omega (arith, soon c)
