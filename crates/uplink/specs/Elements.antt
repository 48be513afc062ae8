-- What stands where in a slot that is sent: TS 36.211 clause 10.1.3.6 (data) and table 10.1.4.2-1 (reference
-- symbols); 01 "Uplink grants".
use Rattle.std.specs.Prelude.{Bool, not, ◌&&◌, ℕ, ltb}
use Rattle.counting.specs.Counting.{rank, select, in_range}
use Rattle.grid.specs.Grid.{symbols, uplink_elements, uplink_symbol_of, uplink_subcarrier_of}
use Rattle.uplink.specs.declared.Shape.{Shape}

-- symbol l is a reference symbol; subcarrier k is a granted tone
abbrev pub is_reference : Shape → ℕ → Bool
is_reference s l = in_range s.reference s.references l

abbrev pub is_granted : Shape → ℕ → Bool
is_granted s k = in_range s.tone s.tones k

-- symbol l of the slot carries data
abbrev pub is_data_symbol : Shape → ℕ → Bool
is_data_symbol s l = ltb l symbols && not (is_reference s l)

-- element x carries data: a granted tone of a symbol that is no reference symbol
unfoldable pub carries_data : Shape → ℕ → Bool
carries_data s x =
    is_data_symbol s (uplink_symbol_of s.subcarriers x) && is_granted s (uplink_subcarrier_of s.subcarriers x)

-- element x carries the reference signal
unfoldable pub carries_reference : Shape → ℕ → Bool
carries_reference s x =
    is_reference s (uplink_symbol_of s.subcarriers x) && is_granted s (uplink_subcarrier_of s.subcarriers x)

-- data elements of a slot, in the order of element numbers: how many, the e-th, and the place of x among them
unfoldable pub slot_data : Shape → ℕ
slot_data s = rank (carries_data s) (uplink_elements s.subcarriers)

unfoldable pub element_at : Shape → ℕ → ℕ
element_at s e = select (carries_data s) (uplink_elements s.subcarriers) 0 e

unfoldable pub number_of : Shape → ℕ → ℕ
number_of s x = rank (carries_data s) x
