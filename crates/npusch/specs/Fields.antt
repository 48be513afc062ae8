-- What an uplink grant's fields name: 01 "Uplink grants"; TS 36.213 clause 16.5.1 and TS 36.211 clause 10.1.
use Rattle.std.specs.Prelude.{cond, ℕ, ◌+◌, ◌-◌, ◌*◌, ◌/◌, eqb, ltb}
use Rattle.grid.specs.Grid.{uplink_subcarriers}
use Rattle.grid.specs.Tables.{entry, size_of, single_tone_rows, single_tone_orders, up_to_four}
use Rattle.numerology.specs.Numerology.{by_spacing}

-- ---- tones, by subcarrier field (table 16.5.1.1-1): a single tone by its number; at 15 kHz also three, six or all

unfoldable pub tones_of : ℕ → ℕ → ℕ
tones_of spacing field =
    cond (ltb field (uplink_subcarriers spacing)) 1
    (cond (ltb field 16) 3
    (cond (ltb field 18) 6
    (uplink_subcarriers spacing)))

unfoldable pub first_tone : ℕ → ℕ → ℕ
first_tone spacing field =
    cond (ltb field (uplink_subcarriers spacing)) field
    (cond (ltb field 16) (3 * (field - 12))
    (cond (ltb field 18) (6 * (field - 16))
    0))

-- ---- slots

-- slots in a resource unit (TS 36.211 table 10.1.2.3-1)
unfoldable pub unit_slots : ℕ → ℕ
unit_slots tones = cond (eqb tones 1) 16 (cond (eqb tones 3) 8 (cond (eqb tones 6) 4 2))

-- how often a group of slots goes out in a row (TS 36.211 clause 10.1.3.6): min(ceil(R/2), 4), or 1 for one tone
unfoldable pub consecutive_of : ℕ → ℕ → ℕ
consecutive_of tones copies = cond (eqb tones 1) 1 (up_to_four ((copies + 1) / 2))

-- the reference symbol (TS 36.211 table 10.1.4.2-1)
abbrev pub reference_of : ℕ → ℕ
reference_of spacing = by_spacing spacing 4 3

-- ---- size and modulation order (tables 16.5.1.2-1 and 16.5.1.2-2)

unfoldable pub block_size : ℕ → ℕ → ℕ → ℕ
block_size tones mcs units = size_of (cond (eqb tones 1) (entry single_tone_rows mcs) mcs) units

unfoldable pub order_of : ℕ → ℕ → ℕ
order_of tones mcs = cond (eqb tones 1) (entry single_tone_orders mcs) 2
