use Prim.Native.Nat.{ℕ, ◌+◌, ◌*◌, ◌-◌}
use mathlib.Core.Path.{◌≡◌, sym}
use native.Mathlib.Omega.{arith}
use Rattle.counting.specs.Counting.{rank}
use Rattle.spans.specs.Pattern.{allows, period_of}
use Rattle.spans.proofs.Laws.{some_of_period, few_of_period}
use Rattle.spans.proofs.Counted.in_period.Goals as goal

pub returns : goal.returns
returns c =
    let p = c.args.self.pattern in
    let a : ℕ = c.args.self.sib1_ones in
    let b : ℕ = c.args.self.usual_ones in
    let all : 4 * a + (c.power_of_two.result - 4) * b ≡ rank (allows p) (period_of p) =
    rw (c.power_of_two.ensures, c.args.self.counts.sib1, c.args.self.counts.usual) (sym (some_of_period p c.args.self.regular)) in
    (all, omega (arith, few_of_period p c.args.self.regular))
