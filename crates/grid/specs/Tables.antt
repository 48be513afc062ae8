-- The constant tables of 01: TS 36.213 clauses 16.4.1 and 16.5.1.
use Rattle.std.specs.Prelude.{Bool, cond, List, [], ◌∷◌, ℕ, ltb, get_or}
use Rattle.counting.specs.Bits.{power_below}

-- entry k of a row; 0 past its end
abbrev pub entry : List ℕ → ℕ → ℕ
entry row k = get_or row k 0

-- subframes of an NPDSCH and resource units of an NPUSCH, by field 0 to 7 (tables 16.4.1.3-1 and 16.5.1.1-2)
abbrev pub lengths : List ℕ
lengths = 1 ∷ 2 ∷ 3 ∷ 4 ∷ 5 ∷ 6 ∷ 8 ∷ 10 ∷ []

-- copies of an NPDSCH, by field 0 to 15 (table 16.4.1.3-2)
abbrev pub downlink_copies : List ℕ
downlink_copies =
    1 ∷ 2 ∷ 4 ∷ 8 ∷ 16 ∷ 32 ∷ 64 ∷ 128 ∷ 192 ∷ 256 ∷ 384 ∷ 512 ∷ 768 ∷ 1024 ∷ 1536 ∷ 2048 ∷ []

-- delay of an NPDSCH in usable subframes, by field 0 to 7, for Rmax below 128 and from 128 (table 16.4.1-1)
abbrev pub short_delays : List ℕ
short_delays = 0 ∷ 4 ∷ 8 ∷ 12 ∷ 16 ∷ 32 ∷ 64 ∷ 128 ∷ []

abbrev pub long_delays : List ℕ
long_delays = 0 ∷ 16 ∷ 32 ∷ 64 ∷ 128 ∷ 256 ∷ 512 ∷ 1024 ∷ []

unfoldable pub downlink_delay : ℕ → ℕ → ℕ
downlink_delay rmax field = cond (ltb rmax 128) (entry short_delays field) (entry long_delays field)

-- copies of an NPUSCH, by field 0 to 7, and its delay in subframes, by field 0 to 3 (tables 16.5.1.1-3 and 16.5.1-1)
abbrev pub uplink_copies : List ℕ
uplink_copies = 1 ∷ 2 ∷ 4 ∷ 8 ∷ 16 ∷ 32 ∷ 64 ∷ 128 ∷ []

abbrev pub uplink_delays : List ℕ
uplink_delays = 8 ∷ 16 ∷ 32 ∷ 64 ∷ []

-- size of a transport block, by row and by field of resource units (table 16.5.1.2-2)
abbrev pub sizes : List (List ℕ)
sizes =
    (16 ∷ 32 ∷ 56 ∷ 88 ∷ 120 ∷ 152 ∷ 208 ∷ 256 ∷ [])
    ∷ (24 ∷ 56 ∷ 88 ∷ 144 ∷ 176 ∷ 208 ∷ 256 ∷ 344 ∷ [])
    ∷ (32 ∷ 72 ∷ 144 ∷ 176 ∷ 208 ∷ 256 ∷ 328 ∷ 424 ∷ [])
    ∷ (40 ∷ 104 ∷ 176 ∷ 208 ∷ 256 ∷ 328 ∷ 440 ∷ 568 ∷ [])
    ∷ (56 ∷ 120 ∷ 208 ∷ 256 ∷ 328 ∷ 408 ∷ 552 ∷ 680 ∷ [])
    ∷ []

abbrev pub size_of : ℕ → ℕ → ℕ
size_of row units = get_or (get_or sizes row []) units 0

-- size row and modulation order of one tone, by MCS 0 to 4 (table 16.5.1.2-1)
abbrev pub single_tone_rows : List ℕ
single_tone_rows = 0 ∷ 2 ∷ 1 ∷ 3 ∷ 4 ∷ []

abbrev pub single_tone_orders : List ℕ
single_tone_orders = 1 ∷ 1 ∷ 2 ∷ 2 ∷ 2 ∷ []

-- how often a unit goes out in a row, at the most four times (TS 36.211 clauses 10.1.3.6 and 10.2.3.4): min(x, 4)
abbrev pub up_to_four : ℕ → ℕ
up_to_four x = cond (ltb x 4) x 4

-- a power of two, 1 to 2048: Rmax, and the copies of an NPDCCH
unfoldable pub is_repetition : ℕ → Bool
is_repetition x = power_below 12 x
