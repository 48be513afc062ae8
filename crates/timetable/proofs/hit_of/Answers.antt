use Prim.Native.Nat.{ℕ, ◌+◌, ◌-◌, ◌*◌, ◌%◌, ◌≤◌}
use native.Mathlib.Omega.{arith}
use Rattle.counting.specs.Scaffold.{Nth}
use Rattle.spans.specs.Pattern.{allows}
use Rattle.messages.specs.declared.Messages.{Messages}
use Rattle.messages.specs.Messages.{remaining}
use Rattle.units.specs.declared.Sight.{Sight}
use Rattle.units.specs.Quick.{Serves}
use Rattle.timetable.specs.Quick.{SightAt, moved, Hits}
use Rattle.timetable.proofs.Searching.{hit_is}
use Rattle.timetable.proofs.hit_of.Goals.{After-land}
use Rattle.timetable.proofs.hit_of.Goals as goal

module _ (c : After-land) where
  abbrev Q : ℕ
  Q = c.args.table.unit * c.args.table.units

  found : (ms : Messages) (S : Serves ms c.args.table) (g : Sight) (j : ℕ) → SightAt ms (allows c.args.p) c.args.table (c.args.from % Q) g
      → Hits ms (allows c.args.p) c.args.table (moved g j) c.args.h
      → (5 * Q ≤ c.land.result + c.args.h.later)
      × Nth (remaining ms (allows c.args.p)) c.args.from j (c.land.result + c.args.h.later + c.quotient-whole.result * Q - 5 * Q)
  found ms S g j A H =
      hit_is ms c.args.p c.requires.1.regular c.args.table S g c.args.h c.args.from j c.land.result c.quotient-whole.result (omega (arith, c.requires.0.long)) A H
      c.quotient-whole.ensures (c.land.ensures.1 ms S H.exact H.here)

pub overflow_sub-result : goal.overflow_sub-result
overflow_sub-result c =
    let W = c.requires.7 in
    omega (arith, (found (goal.at.overflow_sub-result c).After-land W.ms W.serves W.s W.j W.sight W.hits).0)

pub returns : goal.returns
returns c = λ ms S g j A H. (found (goal.at.returns c).After-land ms S g j A H).1
