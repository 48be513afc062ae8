-- When a question on an NPDCCH is refused, and with which number: the cell's refusals, then 9, 10 and 12 of 01's table.
use Rattle.std.specs.Prelude.{Bool, ◌&&◌, ◌||◌, ℕ, eqb, ltb}
use Rattle.downlink.specs.Cells.{fields_refusal}
use Rattle.npdcch.specs.declared.NpdcchGrant.{NpdcchGrant}

-- a field is above its largest number, or NCCE 1 with format 1
abbrev pub above_largest : NpdcchGrant → Bool
above_largest g = ltb 1 g.format || (ltb 1 g.ncce || (eqb g.format 1 && eqb g.ncce 1))

unfoldable pub grant_refusal : NpdcchGrant → ℕ
grant_refusal g = fields_refusal g.n (above_largest g) g.r
