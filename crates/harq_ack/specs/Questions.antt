-- What the questions on an acknowledgement answer, on any numbers, beside random access windows: 02 L1 and L4, 01
-- "Questions". A grant alone is one beside `none`.
use Rattle.std.specs.Prelude.{ℕ}
use Rattle.grid.specs.Grid.{uplink_subcarriers}
use Rattle.sending.specs.declared.Back.{Back}
use Rattle.sending.specs.Answer.{Question}
use Rattle.uplink.specs.declared.UplinkPlan.{UplinkPlan}
use Rattle.uplink.specs.declared.UplinkPlace.{UplinkPlace}
use Rattle.uplink.specs.Mapping.{sending_of}
use Rattle.uplink.specs.Answers.{plan_answer, forward_answer, backward_answer}
use Rattle.nprach.specs.declared.Windows.{Windows}
use Rattle.harq_ack.specs.declared.HarqAckGrant.{HarqAckGrant}
use Rattle.harq_ack.specs.Refusals.{refusal}
use Rattle.harq_ack.specs.Shaping.{shape_of, open_of}

abbrev pub question_of : HarqAckGrant → Windows → Question
question_of g ws = record { no = refusal g ws; sending = sending_of (shape_of g) (open_of g ws) }

-- size 1 and order 1: one bit, by BPSK (TS 36.211 table 10.1.3.2-1)
unfoldable pub plan_of : HarqAckGrant → Windows → UplinkPlan
plan_of g ws = plan_answer 1 1 (question_of g ws)

unfoldable pub forward_of : HarqAckGrant → Windows → ℕ → UplinkPlace
forward_of g ws p = forward_answer (uplink_subcarriers g.spacing) (question_of g ws) p

unfoldable pub backward_of : HarqAckGrant → Windows → ℕ → ℕ → ℕ → Back
backward_of g ws slot l k = backward_answer (uplink_subcarriers g.spacing) (question_of g ws) slot l k
