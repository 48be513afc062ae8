use mathlib.Core.Path.{sym, subst}
use Prim.Native.Nat.{ℕ, ◌%◌, ◌^◌, ◌≤◌}
use native.Mathlib.Omega.{arith}
use Rattle.grid.specs.Grid.{symbols}
use Rattle.elements.proofs.Closed.{highest, symbol_with, Lies, symbol_found, bytes_low, six_few}
use Rattle.elements.proofs.Summed.symbol_with.Goals as goal

pub overflow_mul-passed : goal.overflow_mul-passed
overflow_mul-passed c = omega (arith, c.requires, six_few c.args.self.layout c.args.self.valid symbols (omega arith))

pub overflow_add-passed : goal.overflow_add-passed
overflow_add-passed c = omega (arith, c.requires, six_few c.args.self.layout c.args.self.valid symbols (omega arith))

pub overflow_sub-passed : goal.overflow_sub-passed
overflow_sub-passed c =
    let s = c.args.self in
    let low : s.sums % 2 ^ 56 ≤ highest = subst (λ (x : ℕ). x % 2 ^ 56 ≤ highest) (sym s.summed) (bytes_low s.layout s.valid) in
    omega (arith, low)

pub returns : goal.returns
returns c =
    let s = c.args.self in
    let y = c.args.y in
    let r : Lies s.layout y (symbol_with s.sums y) =
    subst (λ (x : ℕ). Lies s.layout y (symbol_with x y)) (sym s.summed) (symbol_found s.layout s.valid y c.requires) in
    (r.inside, r.from, r.below)
