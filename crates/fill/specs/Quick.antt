-- For the code alone. What the code writes row by row.
use Rattle.std.specs.Prelude.{cond, List, ℕ, ◌+◌}
use Rattle.counting.specs.Counting.{rank, count}
use Rattle.grid.specs.Grid.{subcarriers}
use Rattle.elements.specs.declared.Layout.{Layout}
use Rattle.elements.specs.declared.Row.{Row}
use Rattle.elements.specs.Quick.{has_in}
use Rattle.elements.specs.Elements.{used}
use Rattle.symbol.specs.declared.Symbol.{Symbol}
use Rattle.symbol.specs.Quick.{silence, picked_of}

-- what a fill writes, of four symbols, at the at-th element from `start` on; symbol c is the next to go out there
abbrev pub written_in : Layout → ℕ → List ℕ → List Symbol → ℕ → ℕ → Symbol
written_in g c bits four start at =
    cond (used g 0 subcarriers (start + at)) (picked_of four bits (c + count (used g 0 subcarriers) start at)) silence

-- the same in a row
abbrev pub written_in_row : Row → ℕ → List ℕ → List Symbol → ℕ → Symbol
written_in_row r c bits four k = cond (has_in r k) (picked_of four bits (c + rank (has_in r) k)) silence
