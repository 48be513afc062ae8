-- The subcarriers that an NPDCCH uses: 01 "Downlink elements", TS 36.211 clause 10.2.5.1. k is the subcarrier.
use Rattle.std.specs.Prelude.{cond, ℕ, ◌*◌, eqb}
use Rattle.grid.specs.Grid.{subcarriers}
use Rattle.elements.specs.Elements.{ncce_width}

-- format 0 uses one NCCE, format 1 both: the first subcarrier, and how many
abbrev pub first_subcarrier : ℕ → ℕ → ℕ
first_subcarrier format ncce = cond (eqb format 0) (ncce_width * ncce) 0

abbrev pub used_subcarriers : ℕ → ℕ
used_subcarriers format = cond (eqb format 0) ncce_width subcarriers
