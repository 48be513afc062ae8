use mathlib.Core.Path.{refl, ap}
use Prim.Native.Nat.{ℕ, ◌+◌}
use native.Mathlib.Omega.{arith}
use Rattle.grid.specs.Grid.{symbols}
use Rattle.elements.specs.Quick.{rows}
use Rattle.elements.proofs.Closed.{six_few, rows_second, past_first, spot}
use Rattle.elements.proofs.Summed.row_with.Goals as goal

pub overflow_add-y : goal.overflow_add-y
overflow_add-y c =
    let s = c.args.self in
    omega (arith, c.requires, rows_second s.layout s.valid rows (omega arith), six_few s.layout s.valid symbols (omega arith))

pub symbol_with-l-requires : goal.symbol_with-l-requires
symbol_with-l-requires c =
    let s = c.args.self in
    past_first s.layout s.valid c.args.q c.from-slot.result 0 (c.args.q + c.before-2.result) c.before-whole.result _ 0
    (ap (λ (x : ℕ). c.args.q + x) c.before-2.ensures.0) c.before-whole.ensures.0 c.from-slot.ensures refl c.requires

pub returns : goal.returns
returns c =
    let s = c.args.self in
    let r = c.symbol_with-l.ensures in
    spot s.layout s.valid c.args.q c.from-slot.result c.symbol_with-l.result (c.args.q + c.before-2.result) c.before-whole.result _ c.before-3.result
    (ap (λ (x : ℕ). c.args.q + x) c.before-2.ensures.0) c.before-whole.ensures.0 c.from-slot.ensures refl c.before-3.ensures.0
    (record { inside = r.0; from = r.1; below = r.2 })
