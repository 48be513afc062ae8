-- For the code alone: what contracts of the code and proofs say to each other. No question and no promise cites it.
use Rattle.std.specs.Prelude.{Bool, true, ℕ, ◌*◌}
use Rattle.uplink.specs.declared.Shape.{Shape}
use Rattle.uplink.specs.Timing.{sent_slots}
use Rattle.sending.specs.Sending.{Sending}
use Rattle.uplink.specs.Elements.{slot_data}
use Rattle.grid.specs.Grid.{uplink_element_of}
use Rattle.sending.specs.declared.Back.{Back}
use Rattle.sending.specs.Answer.{place_at, back_at}
use Rattle.uplink.specs.declared.UplinkPlace.{UplinkPlace}
use Rattle.uplink.specs.Answers.{refused_place, place_of, inside_grid}

-- where there is no window, every group is open
abbrev pub all_open : ℕ → Bool
all_open u = true

-- places: each copy has every symbol once
abbrev pub places : Shape → ℕ
places s = sent_slots s * slot_data s

-- forward's answer once no refusal applies
abbrev pub place_in : ℕ → Sending → ℕ → UplinkPlace
place_in T S p = place_at refused_place (place_of T) S p

-- backward's answer once no refusal applies
abbrev pub back_in : ℕ → Sending → ℕ → ℕ → ℕ → Back
back_in T S slot l k = back_at S (inside_grid T l k) slot (uplink_element_of T l k)

-- after so many gap periods of 296 ms the same slots may be sent again
abbrev pub gap_periods : ℕ
gap_periods = 320
