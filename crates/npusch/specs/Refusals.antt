-- When an uplink grant is refused, and with which number: 01 "Numbers a caller may get back", 02 L4. Each test is
-- asked where those before it passed.
use Rattle.std.specs.Prelude.{Bool, cond, ◌||◌, ℕ, eqb, ltb, leb}
use Rattle.nprach.specs.declared.Windows.{Windows}
use Rattle.nprach.specs.Windows.{refusal_on}
use Rattle.npusch.specs.declared.NpuschGrant.{NpuschGrant}
use Rattle.numerology.specs.Numerology.{by_spacing}
use Rattle.npusch.specs.Fields.{tones_of, first_tone}
use Rattle.grid.specs.Grid.{last_subframe}

-- a field is above its largest number
abbrev pub above_largest : NpuschGrant → Bool
above_largest g =
    ltb 1 g.spacing
    || (ltb 63 g.subcarrier || (ltb 7 g.units || (ltb 7 g.copies || (ltb 3 g.delay || ltb 15 g.mcs))))

-- the subcarrier field names none: 48 to 63 at 3.75 kHz, 19 to 63 at 15 kHz
abbrev pub names_no_tone : NpuschGrant → Bool
names_no_tone g = leb (by_spacing g.spacing 48 19) g.subcarrier

-- the random access windows' refusal on the grant's tones, 19 or 20, or 0
abbrev pub windows_number : NpuschGrant → Windows → ℕ
windows_number g = refusal_on g.spacing (first_tone g.spacing g.subcarrier) (tones_of g.spacing g.subcarrier)

-- the number of the fields, or 0
unfoldable pub fields_refusal : NpuschGrant → ℕ
fields_refusal g =
    cond (ltb last_subframe g.n) 9
    (cond (above_largest g) 10
    (cond (names_no_tone g) 11
    (cond (ltb 4 g.mcs) 13
    0)))

-- the number, or 0: the windows' after those of the fields
unfoldable pub refusal : NpuschGrant → Windows → ℕ
refusal g ws = cond (eqb (fields_refusal g) 0) (windows_number g ws) (fields_refusal g)
