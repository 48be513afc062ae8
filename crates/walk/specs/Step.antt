-- What a step of a walk answers, and the record that it leaves: 01 "Questions", the walk.
use Rattle.std.specs.Prelude.{cond, List, ℕ, ◌+◌, eqb, ltb}
use Rattle.cell.specs.declared.Cell.{Cell}
use Rattle.uplink.specs.declared.UplinkPlace.{UplinkPlace}
use Rattle.downlink.specs.declared.DownlinkPlace.{DownlinkPlace}
use Rattle.npusch.specs.Questions as up
use Rattle.harq_ack.specs.Questions as ack
use Rattle.npdsch.specs.Questions as down
use Rattle.npdcch.specs.Questions as control
use Rattle.walk.specs.declared.Grant.{Grant}
use Rattle.walk.specs.declared.Grant.TheVariants.{Npusch, HarqAck, Npdsch, Npdcch}
use Rattle.walk.specs.declared.Walk.{Walk}
use Rattle.walk.specs.declared.WalkPlace.{WalkPlace}
use Rattle.sending.specs.Answer.{no_such_place}
use Rattle.walk.specs.declared.Stepped.{Stepped}
use Rattle.uplink.specs.declared.UplinkPlan.{UplinkPlan}
use Rattle.downlink.specs.declared.DownlinkPlan.{DownlinkPlan}

-- ---- answers

-- forward's answer in the columns of a step; in the uplink the slot alone is the time
abbrev pub from_uplink : UplinkPlace → WalkPlace
from_uplink a = record { no = a.no; finished = 0; t = 0; slot = a.slot; l = a.l; k = a.k; symbol = a.symbol }

abbrev pub from_downlink : DownlinkPlace → WalkPlace
from_downlink a = record { no = a.no; finished = 0; t = a.t; slot = a.slot; l = a.l; k = a.k; symbol = a.symbol }

abbrev pub refused_step : ℕ → WalkPlace
refused_step refusal = record { no = refusal; finished = 0; t = 0; slot = 0; l = 0; k = 0; symbol = 0 }

abbrev pub finished_step : WalkPlace
finished_step = record { no = 0; finished = 1; t = 0; slot = 0; l = 0; k = 0; symbol = 0 }

-- ---- what is asked of a grant

-- what plan and forward answer of it: the refusal number, the places, and forward at a position
pub record Asked : Type 0 where
  pub no : ℕ
  pub places : ℕ
  pub at : ℕ → WalkPlace

-- by plan's answer, and forward's at each position
abbrev pub uplink_asked : UplinkPlan → (ℕ → UplinkPlace) → Asked
uplink_asked plan forward = record { no = plan.no; places = plan.places; at = λ p. from_uplink (forward p) }

abbrev pub downlink_asked : DownlinkPlan → (ℕ → DownlinkPlace) → Asked
downlink_asked plan forward = record { no = plan.no; places = plan.places; at = λ p. from_downlink (forward p) }

-- an uplink grant has no use for the cell and the buffers
unfoldable pub asked : Cell → List ℕ → List ℕ → Grant → Asked
asked c anchor other (Npusch g ws) = uplink_asked (up.plan_of g ws) (up.forward_of g ws)
asked c anchor other (HarqAck g ws) = uplink_asked (ack.plan_of g ws) (ack.forward_of g ws)
asked c anchor other (Npdsch g) = downlink_asked (down.plan_of c anchor other g) (down.forward_of c anchor other g)
asked c anchor other (Npdcch g) =
    downlink_asked (control.plan_of c anchor other g) (control.forward_of c anchor other g)

abbrev pub asked_of : Walk → List ℕ → List ℕ → Asked
asked_of w anchor other = asked w.cell anchor other w.grant

-- ---- a step

pub record Moved : Type 0 where
  pub answer : WalkPlace
  pub p : ℕ

abbrev pub onward : WalkPlace → ℕ → Moved
onward answer p = record { answer = answer; p = p + 1 }

abbrev pub unmoved : WalkPlace → ℕ → Moved
unmoved answer p = record { answer = answer; p = p }

-- a refused record has its number; below the total forward answers and p moves on; at the total the walk is finished;
-- past it 14
unfoldable pub moved : Asked → ℕ → Moved
moved q p =
    cond (eqb q.no 0)
    (cond (ltb p q.places) (onward (q.at p) p)
    (cond (eqb p q.places) (unmoved finished_step p)
    (unmoved (refused_step no_such_place) p)))
    (unmoved (refused_step q.no) p)

abbrev pub moved_of : Walk → List ℕ → List ℕ → Moved
moved_of w anchor other = moved (asked_of w anchor other) w.p

-- the record with another position
abbrev pub moved_to : Walk → ℕ → Walk
moved_to w p = record { cell = w.cell; grant = w.grant; p = p }

-- the answer, and the whole record afterwards: nothing but p moves
unfoldable pub stepped_of : Walk → List ℕ → List ℕ → Stepped
stepped_of w anchor other = record {
  answer = (moved_of w anchor other).answer;
  walk = moved_to w (moved_of w anchor other).p;
}
