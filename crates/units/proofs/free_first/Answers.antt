use mathlib.Core.Path.{ap, ◌∙◌}
use Prim.Native.Nat.{ℕ, ◌+◌}
use native.Mathlib.Omega.{arith}
use Rattle.counting.specs.Counting.{rank}
use Rattle.counting.proofs.Rank.{rank_count}
use Rattle.spans.specs.Pattern.{allows}
use Rattle.units.specs.Quick.{begin_of}
use Rattle.units.proofs.free_first.Goals as goal

pub overflow_sub-result : goal.overflow_sub-result
overflow_sub-result c =
    let a = c.args in
    let e = c.free_before.ensures ∙ ap (λ (x : ℕ). rank (allows a.p) (x + a.y)) c.begin.ensures.0 in
    omega (arith, e, rank_count (allows a.p) a.y (begin_of a.table a.n))
