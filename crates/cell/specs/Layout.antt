-- The layout of a cell's subframes, and E: 01 "Downlink elements"; 02 L3.
use Rattle.std.specs.Prelude.{cond, List, ℕ, ◌%◌, eqb}
use Rattle.counting.specs.Counting.{rank}
use Rattle.grid.specs.Grid.{elements}
use Rattle.elements.specs.declared.Layout.{Layout}
use Rattle.elements.specs.Elements.{eligible}
use Rattle.cell.specs.declared.CellConfig.{CellConfig}
use Rattle.cell.specs.declared.Cell.{Cell}
use Rattle.cell.specs.declared.ElementCount.{ElementCount}
use Rattle.cell.specs.Judge.{judge_of}

-- both reference signals use v = identity mod 6, in all modes
abbrev pub layout_of : CellConfig → Layout
layout_of c = record { v = c.identity % 6; nports = c.nports; cports = c.cports; control = c.control }

-- the question on E: the cell's refusal, or how many elements of a subframe are eligible
unfoldable pub element_count_of : Cell → List ℕ → List ℕ → ElementCount
element_count_of c anchor other =
    cond (eqb (judge_of c anchor other) 0) (record { no = 0; e = rank (eligible (layout_of c.config)) elements })
    (record { no = judge_of c anchor other; e = 0 })
