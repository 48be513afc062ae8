-- When a question on an NPDSCH is refused, and with which number: the cell's refusals, then 9, 10 and 12 of 01's table.
use Rattle.std.specs.Prelude.{Bool, ◌||◌, List, ℕ, ltb}
use Rattle.cell.specs.declared.Cell.{Cell}
use Rattle.downlink.specs.Cells.{fields_refusal, question_refusal}
use Rattle.npdsch.specs.declared.NpdschGrant.{NpdschGrant}

-- a field is above its largest number
abbrev pub above_largest : NpdschGrant → Bool
above_largest g = ltb 7 g.delay || (ltb 7 g.subframes || ltb 15 g.copies)

unfoldable pub grant_refusal : NpdschGrant → ℕ
grant_refusal g = fields_refusal g.n (above_largest g) g.rmax

abbrev pub refusal_of : Cell → List ℕ → List ℕ → NpdschGrant → ℕ
refusal_of c anchor other g = question_refusal c anchor other (grant_refusal g)
