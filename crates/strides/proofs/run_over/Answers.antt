use Prim.Native.Nat.{◌+◌}
use native.Mathlib.Omega.{arith}
use Rattle.spans.specs.Pattern.{allows}
use Rattle.units.proofs.Finding.{far}
use Rattle.strides.proofs.Striding.{run_leaps, run_holds}
use Rattle.strides.proofs.run_over.Goals as goal

pub returns-then-sight-to : goal.returns-then-sight-to
returns-then-sight-to c =
    let a = c.args in
    let u = allows a.p in
    let again = far a.p c.requires.1.regular in
    let to = a.s.n + c.min.result in
    let r = c.run-sight.result in (
      run_leaps a.table u a.s a.end again to r c.requires.0 c.run-sight.ensures (omega (arith, c.min.ensures)),
      run_holds a.table u a.s a.end again to r c.requires.0 c.run-sight.ensures c.if-sight-to.true,
    )

pub returns-else-sight-to : goal.returns-else-sight-to
returns-else-sight-to c =
    let a = c.args in
    let again = far a.p c.requires.1.regular in
    let to = a.s.n + c.min.result in (
      run_leaps a.table (allows a.p) a.s a.end again to c.run-sight.result c.requires.0 c.run-sight.ensures (omega (arith, c.min.ensures)),
      omega (arith, c.min.ensures, c.if-sight-to.false),
    )
