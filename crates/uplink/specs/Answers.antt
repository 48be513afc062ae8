-- How the answers of an uplink grant are shown: 01 "Questions".
use Rattle.std.specs.Prelude.{Bool, ◌&&◌, ℕ, ltb}
use Rattle.grid.specs.Grid.{symbols, uplink_element_of, uplink_symbol_of, uplink_subcarrier_of}
use Rattle.sending.specs.declared.Back.{Back}
use Rattle.sending.specs.Sending.{Spot}
use Rattle.sending.specs.Answer.{Question, Extent, plan_by, forward_by, backward_by}
use Rattle.uplink.specs.declared.UplinkPlan.{UplinkPlan}
use Rattle.uplink.specs.declared.UplinkPlace.{UplinkPlace}

abbrev pub refused_plan : ℕ → UplinkPlan
refused_plan refusal = record { no = refusal; first = 0; last = 0; copies = 0; places = 0; size = 0; order = 0 }

-- beside the transport block's size and the modulation order m
abbrev pub plan_shown : ℕ → ℕ → Extent → UplinkPlan
plan_shown size m x =
    record { no = 0; first = x.first; last = x.last; copies = x.copies; places = x.places; size = size; order = m }

abbrev pub plan_answer : ℕ → ℕ → Question → UplinkPlan
plan_answer size order = plan_by refused_plan (plan_shown size order)

abbrev pub refused_place : ℕ → UplinkPlace
refused_place refusal = record { no = refusal; slot = 0; l = 0; k = 0; symbol = 0 }

-- a place in a grid of T subcarriers
abbrev pub place_of : ℕ → Spot → UplinkPlace
place_of T spot = record {
  no = 0;
  slot = spot.time;
  l = uplink_symbol_of T spot.element;
  k = uplink_subcarrier_of T spot.element;
  symbol = spot.symbol;
}

abbrev pub forward_answer : ℕ → Question → ℕ → UplinkPlace
forward_answer T = forward_by refused_place (place_of T)

-- what stands at symbol l and subcarrier k of a slot, whichever slot
abbrev pub inside_grid : ℕ → ℕ → ℕ → Bool
inside_grid T l k = ltb l symbols && ltb k T

abbrev pub backward_answer : ℕ → Question → ℕ → ℕ → ℕ → Back
backward_answer T q slot l k = backward_by q (inside_grid T l k) slot (uplink_element_of T l k)
