use mathlib.Core.Path.{ap}
use Prim.Native.Nat.{ℕ}
use native.Mathlib.Omega.{arith}
use Rattle.counting.specs.Counting.{rank}
use Rattle.spans.specs.Pattern.{allows}
use Rattle.messages.specs.Messages.{remaining}
use Rattle.units.specs.Quick.{begin_of}
use Rattle.timetable.proofs.Searching.{turned}
use Rattle.timetable.proofs.in_period.Goals as goal

pub returns : goal.returns
returns c =
    λ ms S C.
    let a = c.args in
    let D = c.counted.ensures.3 ms S C.exact in
    let rest = remaining ms (allows a.p) in
    omega (
      arith,
      C.count,
      D.count,
      ap (λ (n : ℕ). rank rest (begin_of a.table n)) c.counted.ensures.0,
      turned ms a.p c.requires.1.regular a.table S a.n,
    )
