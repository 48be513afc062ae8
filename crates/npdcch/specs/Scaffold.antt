-- For the code alone: what contracts of the code and proofs say to each other. No question and no promise cites it.
use Rattle.std.specs.Prelude.{List, ℕ}
use Rattle.cell.specs.declared.Cell.{Cell}
use Rattle.downlink.specs.Cells.{question_refusal}
use Rattle.npdcch.specs.declared.NpdcchGrant.{NpdcchGrant}
use Rattle.npdcch.specs.Refusals.{grant_refusal}

-- the cell's number, or the grant's
abbrev pub refusal_of : Cell → List ℕ → List ℕ → NpdcchGrant → ℕ
refusal_of c anchor other g = question_refusal c anchor other (grant_refusal g)
