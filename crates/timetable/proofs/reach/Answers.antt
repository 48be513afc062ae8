use mathlib.Core.Bool.{Bool}
use mathlib.Core.Path.{refl, subst}
use native.Mathlib.Omega.{arith}
use Rattle.spans.specs.Pattern.{allows}
use Rattle.timetable.specs.Quick.{Scanned}
use Rattle.timetable.proofs.Searching.{chained}
use Rattle.timetable.proofs.reach.Goals as goal

pub returns-else-far : goal.returns-else-far
returns-else-far c =
    let a = c.args in
    let e = c.scan-far.ensures in
    let f = c.scan.ensures in
    let far = c.scan-far.result.sight in
    let sight = c.scan.result.sight in (
      f.0,
      f.1,
      omega (arith, e.2, f.2),
      f.3,
      (λ ms S X.
          let C = e.4 ms S X in
          chained ms a.p c.requires.1.regular a.table S a.s far sight a.end C
          (subst (λ (b : Bool). Scanned ms (allows a.p) a.table far a.end b sight) (f.6 refl) (f.4 ms S C.exact))),
      f.5,
    )

pub returns-then-far : goal.returns-then-far
returns-then-far c =
    let e = c.scan-far.ensures in
    (e.0, e.1, e.2, e.3, (λ ms S X. let C = e.4 ms S X in record { same = C.same; exact = C.exact; here = λ h. C.here c.if-far.true }), e.5)
