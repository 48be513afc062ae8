use Prim.Native.Nat.{◌+◌, ◌*◌, ◌/◌}
use native.Mathlib.Nat.{mod-lt, div-mul-le_self, mul-le-mul_left}
use native.Mathlib.Omega.{arith}
use borrow.Author.Tests.{ne_eqb}
use Rattle.closures.specs.Quick.{descend_of}
use Rattle.closures.proofs.descend.Goals as goal

pub returns : goal.returns
unfolding descend_of
returns c =
    let a = c.args in
    let R = c.requires.0 in
    let whole = (a.m.at + a.b.phase) / a.b.period in (
      rw (ne_eqb a.b.closed 0 c.if-b-eq0.false) (λ j. record { at = c.max.ensures j + a.c.shift; sum = a.m.sum + whole * a.c.per }),
      omega (arith, c.max.ensures, mod-lt (a.m.at + a.b.phase) R.usable.some, R.capped, R.shift_small, R.usable.period_small),
      omega (arith, div-mul-le_self (a.m.at + a.b.phase) a.b.period, mul-le-mul_left whole R.per_small, c.requires),
    )
