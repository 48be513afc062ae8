-- What the uplink questions answer, on any numbers, of a grant beside random access windows: 01 "Questions", 02 L4. A
-- grant alone is one beside `none`.
use Rattle.std.specs.Prelude.{ℕ}
use Rattle.grid.specs.Grid.{uplink_subcarriers}
use Rattle.sending.specs.declared.Back.{Back}
use Rattle.sending.specs.Answer.{Question}
use Rattle.uplink.specs.declared.UplinkPlan.{UplinkPlan}
use Rattle.uplink.specs.declared.UplinkPlace.{UplinkPlace}
use Rattle.uplink.specs.Mapping.{sending_of}
use Rattle.uplink.specs.Answers.{plan_answer, forward_answer, backward_answer}
use Rattle.nprach.specs.declared.Windows.{Windows}
use Rattle.npusch.specs.declared.NpuschGrant.{NpuschGrant}
use Rattle.npusch.specs.Refusals.{refusal}
use Rattle.npusch.specs.Shaping.{shape_of, grant_size, grant_order, open_of}

abbrev pub question_of : NpuschGrant → Windows → Question
question_of g ws = record { no = refusal g ws; sending = sending_of (shape_of g) (open_of g ws) }

unfoldable pub plan_of : NpuschGrant → Windows → UplinkPlan
plan_of g ws = plan_answer (grant_size g) (grant_order g) (question_of g ws)

unfoldable pub forward_of : NpuschGrant → Windows → ℕ → UplinkPlace
forward_of g ws p = forward_answer (uplink_subcarriers g.spacing) (question_of g ws) p

unfoldable pub backward_of : NpuschGrant → Windows → ℕ → ℕ → ℕ → Back
backward_of g ws slot l k = backward_answer (uplink_subcarriers g.spacing) (question_of g ws) slot l k
