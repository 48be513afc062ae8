use Prim.Native.Nat.{ℕ, ◌*◌, ◌-◌, ◌%◌}
use mathlib.Core.Path.{◌≡◌, ap, subst}
use native.Mathlib.Omega.{arith}
use native.Mathlib.Nat.{div-add-mod'}
use Rattle.spans.specs.Pattern.{period_of, Picked}
use Rattle.spans.proofs.Laws.{at_quick}
use Rattle.spans.proofs.Counted.at.Goals as goal

pub returns : goal.returns
returns c =
    let p = c.args.self.pattern in
    let k : ℕ = c.args.k in
    let per : ℕ = c.in_period-per.result in
    let whole : 40 * c.power_of_two-period.result ≡ period_of p = omega (arith, c.power_of_two-period.ensures) in
    let rest : k - c.quotient-q.result * per ≡ k % per =
    omega (arith, ap (λ (x : ℕ). x * per) c.quotient-q.ensures, div-add-mod' k per) in
    let picked : Picked p (k % per) c.pick.result = subst (λ (x : ℕ). Picked p x c.pick.result) rest c.pick.ensures in
    rw (c.quotient-q.ensures, whole) (at_quick p c.args.self.regular k _ _ c.in_period-per.ensures.0 picked)
