-- The search: `left` free numbers are still to be passed from `at` on, and once one was passed, `first` is the count of the first.
use mathlib.Core.Path.{◌≡◌}
use Prim.Native.Nat.{◌+◌, ◌-◌, ◌≤◌, ◌<◌}
use Rattle.counting.specs.Counting.{rank}
use Rattle.closures.specs.Closures.{is_free}
use Rattle.closures.specs.Quick.{Begins, Held}
use Rattle.closures.proofs.scan.Given as goal

abbrev pub invariant-loop-at : goal.invariant-loop-at
invariant-loop-at l =
    (l.end ≡ l.t + l.n) × (l.at ≤ l.end) × (l.left ≤ l.j) × (rank (is_free l.gap l.nested.closures) l.at + l.left ≡ rank (is_free l.gap l.nested.closures) l.t + l.j) × (l.at < l.end → Begins l.gap l.at)
    × (l.left < l.j → Held l.gap l.nested l.t (l.t + l.n) 0 l.first)

abbrev pub decreases-loop-at : goal.decreases-loop-at
decreases-loop-at l = l.end - l.at
