-- When a question on a search space is refused, and with which number: the cell's refusals, then 9, 10 and 12 of 01's
-- table, then 22 and 23 of 02 L6.
use Rattle.std.specs.Prelude.{Bool, cond, ◌||◌, List, ℕ, eqb, ltb, leb}
use Rattle.cell.specs.declared.Cell.{Cell}
use Rattle.downlink.specs.Cells.{fields_refusal, question_refusal}
use Rattle.search_space.specs.declared.SearchSpace.{SearchSpace}
use Rattle.search_space.specs.Starts.{hyperframe, doubled_period, part_of}

-- a field is above its largest number
abbrev pub above_largest : SearchSpace → Bool
above_largest s = ltb 7 s.g || ltb 3 s.alpha

-- 9, 10 and 12
abbrev pub early_refusal : SearchSpace → ℕ
early_refusal s = fields_refusal s.n (above_largest s) s.rmax

-- then 22, T below 4, and 23, the offset's part of T not below a hyperframe
unfoldable pub space_refusal : SearchSpace → ℕ
space_refusal s =
    cond (eqb (early_refusal s) 0)
    (cond (ltb (doubled_period s) 8) 22
    (cond (leb hyperframe (part_of s)) 23 0))
    (early_refusal s)

abbrev pub refusal_of : Cell → List ℕ → List ℕ → SearchSpace → ℕ
refusal_of c anchor other s = question_refusal c anchor other (space_refusal s)
