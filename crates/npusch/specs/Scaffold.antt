-- For the code alone: what contracts of the code and proofs say to each other. No question and no promise cites it.
use Rattle.std.specs.Prelude.{Bool, ℕ, ltb}
use Rattle.grid.specs.Tables.{entry, uplink_copies}
use Rattle.numerology.specs.Numerology.{by_spacing}
use Rattle.npusch.specs.declared.NpuschGrant.{NpuschGrant}

-- the first subcarrier field of three tones
abbrev pub three_tones : ℕ
three_tones = 12

-- the first of six
abbrev pub six_tones : ℕ
six_tones = 16

-- the one of all
abbrev pub all_tones : ℕ
all_tones = 18

-- how many subcarrier fields name tones
abbrev pub tone_fields : ℕ → ℕ
tone_fields spacing = by_spacing spacing 48 19

-- the MCS is none of 0 to 4
abbrev pub above_mcs : NpuschGrant → Bool
above_mcs g = ltb 4 g.mcs

-- copies of a grant
abbrev pub grant_copies : NpuschGrant → ℕ
grant_copies g = entry uplink_copies g.copies
