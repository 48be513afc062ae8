use mathlib.Core.Path.{◌≡◌}
use Prim.Native.Nat.{◌^◌, ◌≤◌, ◌<◌}
use native.Mathlib.Nat.{mul-le-mul}
use native.Mathlib.Omega.{arith}
use Rattle.units.specs.declared.Sight.{Sight}
use Rattle.units.specs.Quick.{begin_of}
use Rattle.timetable.proofs.Searching.{passed_all}
use Rattle.timetable.proofs.counted.Goals as goal

pub returns : goal.returns
returns c =
    let a = c.args in
    let e = c.scan.ensures in
    let r = c.scan.result.sight in
    let from : Sight = record { n = a.s.n; wants = a.s.wants; free = a.s.free; k = 2 ^ 31 } in
    let h : r.n ≤ 2 ^ 15 = omega (arith, e.0, c.requires.4) in
    let near : begin_of a.table r.n < 2 ^ 29 = omega (arith, c.requires.0.first, mul-le-mul c.requires.0.unit h) in
    let K = c.requires.5 in
    let ends : r.n ≡ a.end = passed_all K.ms a.p c.requires.1.regular a.table K.serves from r a.end (e.4 K.ms K.serves K.exact) (omega arith) e.3 e.0 near in (
      ends,
      record { small = e.1.small; free = e.1.free },
      omega arith,
      λ ms S X. let C = e.4 ms S X in record { exact = C.exact; count = omega (arith, C.same, e.2) },
    )
