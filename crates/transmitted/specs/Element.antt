-- What is answered for one element of a transmitted subframe: 01 "Questions" (one element may be asked instead).
use Rattle.std.specs.Prelude.{cond, List, ℕ, eqb, Float}
use Rattle.grid.specs.Grid.{element_of}
use Rattle.cell.specs.declared.Cell.{Cell}
use Rattle.npdsch.specs.declared.NpdschGrant.{NpdschGrant}
use Rattle.symbol.specs.declared.Element.{Element}
use Rattle.symbol.specs.declared.Element.TheVariants.{Refused}
use Rattle.symbol.specs.Outgoing.{answer_of}
use Rattle.transmitted.specs.GoesOut.{outgoing_of}
use Rattle.transmitted.specs.Refusals.{element_refusal}

unfoldable pub element_answer : Cell → List ℕ → List ℕ → NpdschGrant → ℕ → ℕ → ℕ → ℕ → List ℕ → Float → Element
element_answer c anchor other g i slot l k bits level =
    cond (eqb (element_refusal c anchor other g i slot l k bits level) 0)
    (answer_of bits level (outgoing_of c anchor other g i (element_of slot l k)))
    (Refused (element_refusal c anchor other g i slot l k bits level))
