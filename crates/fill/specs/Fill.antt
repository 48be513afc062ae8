-- What a fill leaves in the output: 01 "Questions" (fill).
use Rattle.std.specs.Prelude.{cond, List, [], ◌∷◌, ◌++◌, ℕ, zero, suc, eqb, Float}
use Rattle.grid.specs.Grid.{elements}
use Rattle.cell.specs.declared.Cell.{Cell}
use Rattle.npdsch.specs.declared.NpdschGrant.{NpdschGrant}
use Rattle.symbol.specs.declared.Symbol.{Symbol}
use Rattle.symbol.specs.Outgoing.{written_of}
use Rattle.transmitted.specs.GoesOut.{outgoing_of}
use Rattle.fill.specs.Refusals.{fill_refusal}

-- the numbers of elements 0 to n - 1, each real then imaginary: element x at twice its number
unfoldable pub laid : (ℕ → Symbol) → ℕ → List Float
laid f zero = []
laid f (suc n) = laid f n ++ ((f n).re ∷ (f n).im ∷ [])

-- all numbers of transmitted subframe i
unfoldable pub filled_of : Cell → List ℕ → List ℕ → NpdschGrant → ℕ → List ℕ → Float → List Float
filled_of c anchor other g i bits level = laid (λ x. written_of bits level (outgoing_of c anchor other g i x)) elements

-- the output afterwards: a refused call leaves it as it was
abbrev pub output_of : Cell → List ℕ → List ℕ → NpdschGrant → ℕ → List ℕ → Float → List Float → List Float
output_of c anchor other g i bits level out =
    cond (eqb (fill_refusal c anchor other g i bits level out) 0) (filled_of c anchor other g i bits level) out
