-- When an uplink grant sends: TS 36.211 clause 10.1.3.6; 01 "Uplink grants", 02 L4.
use Rattle.std.specs.Prelude.{Bool, ◌&&◌, ℕ, ◌+◌, ◌-◌, ◌*◌, ◌/◌, ◌%◌, leb, ltb}
use Rattle.counting.specs.Counting.{rank, select, among_first}
use Rattle.uplink.specs.declared.Shape.{Shape}

-- 256 ms of sending or postponing and the 40 ms that are left empty after them, in slots
abbrev pub gap_period : Shape → ℕ
gap_period s = s.block + s.gap

-- slot number x, counted from the slot that the grant first names, lies in 256 ms of sending or postponing
unfoldable pub in_block : Shape → ℕ → Bool
in_block s x = ltb (x % gap_period s) s.block

-- the group that a slot is in, counted from time 0
abbrev pub group_at : Shape → ℕ → ℕ
group_at s slot = slot / s.group

-- it may be sent: the 256 ms run on while slots are postponed, and no random access window closes its group; is_open u
-- says so of group u
unfoldable pub active : Shape → (ℕ → Bool) → ℕ → Bool
active s is_open x = in_block s x && is_open (group_at s (s.first + x))

-- after so many slots the same may be sent again: 320 gap periods of 296 ms are 37 times 2,560 ms, and each window's
-- period divides that
abbrev pub period : Shape → ℕ
period s = 320 * gap_period s

-- how many slots are sent: the codeword's slots, once for each copy
abbrev pub sent_slots : Shape → ℕ
sent_slots s = s.copies * s.codeword

-- transmitted slot i
unfoldable pub slot_at : Shape → (ℕ → Bool) → ℕ → ℕ
slot_at s is_open i = s.first + select (active s is_open) (period s) 0 i

-- a slot is sent: it is one of the first so many that may be
unfoldable pub is_sent : Shape → (ℕ → Bool) → ℕ → Bool
is_sent s is_open slot = leb s.first slot && among_first (active s is_open) 0 (sent_slots s) (slot - s.first)

-- which transmitted slot it is
unfoldable pub index_of : Shape → (ℕ → Bool) → ℕ → ℕ
index_of s is_open slot = rank (active s is_open) (slot - s.first)
