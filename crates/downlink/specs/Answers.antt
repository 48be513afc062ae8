-- How the answers of a downlink grant are shown: 01 "Questions", and the cause beside backward's answer, 02 L2.
use Rattle.std.specs.Prelude.{Bool, cond, ◌&&◌, ℕ, ◌-◌, ltb}
use Rattle.grid.specs.Grid.{subcarriers, symbols, slots, element_of, slot_of, symbol_of, subcarrier_of}
use Rattle.cell.specs.declared.Cause.{Cause}
use Rattle.cell.specs.declared.Cause.TheVariants.{None}
use Rattle.sending.specs.Sending.{Sending, Spot}
use Rattle.sending.specs.Answer.{Question, Extent, answer_of, plan_by, forward_by, refused_back, back_at}
use Rattle.downlink.specs.declared.DownlinkPlan.{DownlinkPlan}
use Rattle.downlink.specs.declared.DownlinkPlace.{DownlinkPlace}
use Rattle.downlink.specs.declared.DownlinkBack.{DownlinkBack}

abbrev pub refused_plan : ℕ → DownlinkPlan
refused_plan refusal = record { no = refusal; first = 0; last = 0; copies = 0; places = 0 }

abbrev pub plan_shown : Extent → DownlinkPlan
plan_shown x = record { no = 0; first = x.first; last = x.last; copies = x.copies; places = x.places }

abbrev pub plan_answer : Question → DownlinkPlan
plan_answer = plan_by refused_plan plan_shown

abbrev pub refused_place : ℕ → DownlinkPlace
refused_place refusal = record { no = refusal; t = 0; slot = 0; l = 0; k = 0; symbol = 0 }

abbrev pub place_of : Spot → DownlinkPlace
place_of spot = record {
  no = 0;
  t = spot.time;
  slot = slot_of spot.element;
  l = symbol_of spot.element;
  k = subcarrier_of spot.element;
  symbol = spot.symbol;
}

abbrev pub forward_answer : Question → ℕ → DownlinkPlace
forward_answer = forward_by refused_place place_of

abbrev pub inside_grid : ℕ → ℕ → ℕ → Bool
inside_grid slot l k = ltb slot slots && (ltb l symbols && ltb k subcarriers)

-- strictly between the plan's first and last subframe
unfoldable pub is_between : Sending → ℕ → Bool
is_between S t = ltb (S.time 0) t && ltb t (S.time (S.K - 1))

-- backward hands on why t, the cause that makes a subframe unusable, between the first and the last one sent;
-- elsewhere there is none
unfoldable pub cause_at : Sending → (ℕ → Cause) → ℕ → ℕ → ℕ → ℕ → Cause
cause_at S why t slot l k = cond (inside_grid slot l k && is_between S t) (why t) None

abbrev pub refused_why : ℕ → DownlinkBack
refused_why refusal = record { back = refused_back refusal; cause = None }

unfoldable pub back_why : Sending → (ℕ → Cause) → ℕ → ℕ → ℕ → ℕ → DownlinkBack
back_why S why t slot l k =
    record { back = back_at S (inside_grid slot l k) t (element_of slot l k); cause = cause_at S why t slot l k }

abbrev pub back_answer : Question → (ℕ → Cause) → ℕ → ℕ → ℕ → ℕ → DownlinkBack
back_answer q why t slot l k = answer_of refused_why q.no (back_why q.sending why t slot l k)
