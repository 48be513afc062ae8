-- When a fill is refused, and with which number.
use Rattle.std.specs.Prelude.{false, not, List, ℕ, eqb, Float, length}
use Rattle.grid.specs.Grid.{numbers}
use Rattle.cell.specs.declared.Cell.{Cell}
use Rattle.npdsch.specs.declared.NpdschGrant.{NpdschGrant}
use Rattle.transmitted.specs.Refusals.{call_refusal}

-- the output has one number for each real and imaginary number of a subframe
abbrev pub fill_refusal : Cell → List ℕ → List ℕ → NpdschGrant → ℕ → List ℕ → Float → List Float → ℕ
fill_refusal c anchor other g i bits level out =
    call_refusal c anchor other g i false bits (not (eqb (length out) numbers)) level
