-- Uplink slots by subcarrier spacing: 01 "Time and grid" and "Uplink grants"; TS 36.211 clauses 10.1.2 and 10.1.3.6,
-- TS 36.213 clause 16.5.1.
use Rattle.std.specs.Prelude.{Bool, cond, ℕ, ◌+◌, ◌*◌, ◌/◌, eqb, leb}
use Rattle.counting.specs.Counting.{next}

-- one number at 3.75 kHz (spacing 0), another at 15 kHz (spacing 1)
abbrev pub by_spacing : ℕ → ℕ → ℕ → ℕ
by_spacing spacing narrow wide = cond (eqb spacing 0) narrow wide

-- how many halves of a subframe (of 1 ms) a slot lasts
abbrev pub slot_halves : ℕ → ℕ
slot_halves spacing = by_spacing spacing 4 1

-- how many slots last so many ms
abbrev pub slots_in : ℕ → ℕ → ℕ
slots_in spacing ms = 2 * ms / slot_halves spacing

-- slots are numbered from time 0 on, so a slot begins where those before it end; subframe t ends where t + 1 begins
abbrev pub begins_after : ℕ → ℕ → ℕ → Bool
begins_after spacing t slot = leb (2 * (t + 1)) (slot * slot_halves spacing)

-- the first slot that begins after the end of subframe t
unfoldable pub first_after : ℕ → ℕ → ℕ
first_after spacing t = next (begins_after spacing t) (2 * (t + 1) + 1) 0

-- slots in a group, which go out together (TS 36.211 clause 10.1.3.6)
abbrev pub group_of : ℕ → ℕ
group_of spacing = by_spacing spacing 1 2

-- how many ms a group lasts
abbrev pub group_ms : ℕ → ℕ
group_ms spacing = group_of spacing * slot_halves spacing / 2

-- how many tones at 3.75 kHz a tone covers
abbrev pub narrow_tones : ℕ → ℕ
narrow_tones spacing = by_spacing spacing 1 4
