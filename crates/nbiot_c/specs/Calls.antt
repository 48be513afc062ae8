-- What each call replies, over the definitions of the questions, on any buffers.
use Rattle.std.specs.Prelude.{cond, ◌||◌, List, [], ◌∷◌, ℕ, eqb, Float, length}
use Rattle.cell.specs.declared.CellConfig.{CellConfig}
use Rattle.cell.specs.declared.Cell.{Cell}
use Rattle.cell.specs.Judge.{judge_of, in_force_of, cause_of}
use Rattle.cell.specs.Layout.{element_count_of}
use Rattle.npusch.specs.Questions as up
use Rattle.harq_ack.specs.Questions as ack
use Rattle.npdsch.specs.Questions as down
use Rattle.npdcch.specs.Questions as control
use Rattle.search_space.specs.Questions.{search_of}
use Rattle.broadcast.specs.Channels.{Channel}
use Rattle.broadcast.specs.Questions as broadcast
use Rattle.walk.specs.Step.{stepped_of}
use Rattle.symbol.specs.Outgoing.{numbers_of}
use Rattle.fill.specs.Refusals.{fill_refusal}
use Rattle.fill.specs.Fill.{output_of}
use Rattle.transmitted.specs.Element.{element_answer}
use Rattle.buffers.specs.Buffers.{config_at, cell_in, windows_of, npusch_at, harq_ack_at, npdsch_at, npdcch_at}
use Rattle.buffers.specs.Buffers.{search_space_at}
use Rattle.buffers.specs.Buffers.{npusch_walk, harq_ack_walk, npdsch_walk, npdcch_walk}
use Rattle.buffers.specs.Buffers.{uplink_plan_numbers, downlink_plan_numbers}
use Rattle.buffers.specs.Buffers.{uplink_place_numbers, downlink_place_numbers}
use Rattle.buffers.specs.Buffers.{back_numbers, downlink_back_numbers, search_numbers}
use Rattle.buffers.specs.Buffers.{cause_numbers, count_numbers, lacks, windows_short, too_short, put, put_stepped}
use Rattle.buffers.specs.Buffers.{put_element}

-- the number that is returned, and the answer's buffer afterwards; of a step the walk's buffer before it
abbrev pub Reply : Type 0
Reply = ℕ × List ℕ

abbrev pub StepReply : Type 0
StepReply = ℕ × List ℕ × List ℕ

-- ---- a cell

abbrev pub judge : List ℕ → List ℕ → List ℕ → ℕ
judge cell anchor other = cond (lacks 8 cell) too_short (judge_of (cell_in cell 0 8) anchor other)

-- the bitmap in force is the first bytes of one of the two buffers: 0 the anchor's, 1 the other; a refused cell has 0
-- and 0
abbrev pub bitmap_numbers : Cell → List ℕ → List ℕ → List ℕ
bitmap_numbers c anchor other =
    judge_of c anchor other ∷ cond (eqb (judge_of c anchor other) 0) c.config.carrier 0
    ∷ length (in_force_of c anchor other) ∷ []

abbrev pub bitmap : List ℕ → List ℕ → List ℕ → List ℕ → Reply
bitmap cell anchor other answer =
    cond (lacks 8 cell || lacks 3 answer) (too_short, answer)
    (put (bitmap_numbers (cell_in cell 0 8) anchor other) answer)

abbrev pub cause : List ℕ → List ℕ → List ℕ → ℕ → List ℕ → Reply
cause cell anchor other t answer =
    cond (lacks 8 cell || lacks 2 answer) (too_short, answer)
    (put (cause_numbers (cause_of (cell_in cell 0 8) anchor other t)) answer)

abbrev pub count : List ℕ → List ℕ → List ℕ → List ℕ → Reply
count cell anchor other answer =
    cond (lacks 8 cell || lacks 2 answer) (too_short, answer)
    (put (count_numbers (element_count_of (cell_in cell 0 8) anchor other)) answer)

-- ---- NPUSCH format 1

abbrev pub plan_up : List ℕ → List ℕ → List ℕ → Reply
plan_up grant windows answer =
    cond (windows_short windows || (lacks 7 grant || lacks 7 answer)) (too_short, answer)
    (put (uplink_plan_numbers (up.plan_of (npusch_at grant 0) (windows_of windows))) answer)

abbrev pub forward_up : List ℕ → List ℕ → ℕ → List ℕ → Reply
forward_up grant windows p answer =
    cond (windows_short windows || (lacks 7 grant || lacks 5 answer)) (too_short, answer)
    (put (uplink_place_numbers (up.forward_of (npusch_at grant 0) (windows_of windows) p)) answer)

abbrev pub backward_up : List ℕ → List ℕ → ℕ → ℕ → ℕ → List ℕ → Reply
backward_up grant windows slot l k answer =
    cond (windows_short windows || (lacks 7 grant || lacks 5 answer)) (too_short, answer)
    (put (back_numbers (up.backward_of (npusch_at grant 0) (windows_of windows) slot l k)) answer)

abbrev pub step_up : List ℕ → List ℕ → List ℕ → StepReply
step_up walk windows answer =
    cond (windows_short windows || (lacks 8 walk || lacks 7 answer)) (too_short, walk, answer)
    (put_stepped (stepped_of (npusch_walk walk windows) [] []) walk answer)

-- ---- acknowledgements on NPUSCH format 2

abbrev pub plan_ack : List ℕ → List ℕ → List ℕ → Reply
plan_ack grant windows answer =
    cond (windows_short windows || (lacks 4 grant || lacks 7 answer)) (too_short, answer)
    (put (uplink_plan_numbers (ack.plan_of (harq_ack_at grant 0) (windows_of windows))) answer)

abbrev pub forward_ack : List ℕ → List ℕ → ℕ → List ℕ → Reply
forward_ack grant windows p answer =
    cond (windows_short windows || (lacks 4 grant || lacks 5 answer)) (too_short, answer)
    (put (uplink_place_numbers (ack.forward_of (harq_ack_at grant 0) (windows_of windows) p)) answer)

abbrev pub backward_ack : List ℕ → List ℕ → ℕ → ℕ → ℕ → List ℕ → Reply
backward_ack grant windows slot l k answer =
    cond (windows_short windows || (lacks 4 grant || lacks 5 answer)) (too_short, answer)
    (put (back_numbers (ack.backward_of (harq_ack_at grant 0) (windows_of windows) slot l k)) answer)

abbrev pub step_ack : List ℕ → List ℕ → List ℕ → StepReply
step_ack walk windows answer =
    cond (windows_short windows || (lacks 5 walk || lacks 7 answer)) (too_short, walk, answer)
    (put_stepped (stepped_of (harq_ack_walk walk windows) [] []) walk answer)

-- ---- NPDSCH

abbrev pub plan_down : List ℕ → List ℕ → List ℕ → List ℕ → List ℕ → Reply
plan_down cell anchor other grant answer =
    cond (lacks 8 cell || (lacks 5 grant || lacks 5 answer)) (too_short, answer)
    (put (downlink_plan_numbers (down.plan_of (cell_in cell 0 8) anchor other (npdsch_at grant 0))) answer)

abbrev pub forward_down : List ℕ → List ℕ → List ℕ → List ℕ → ℕ → List ℕ → Reply
forward_down cell anchor other grant p answer =
    cond (lacks 8 cell || (lacks 5 grant || lacks 6 answer)) (too_short, answer)
    (put (downlink_place_numbers (down.forward_of (cell_in cell 0 8) anchor other (npdsch_at grant 0) p)) answer)

abbrev pub backward_down : List ℕ → List ℕ → List ℕ → List ℕ → ℕ → ℕ → ℕ → ℕ → List ℕ → Reply
backward_down cell anchor other grant t slot l k answer =
    cond (lacks 8 cell || (lacks 5 grant || lacks 6 answer)) (too_short, answer)
    (put (downlink_back_numbers (down.backward_of (cell_in cell 0 8) anchor other (npdsch_at grant 0) t slot l k))
    answer)

abbrev pub step_down : List ℕ → List ℕ → List ℕ → List ℕ → StepReply
step_down walk anchor other answer =
    cond (lacks 14 walk || lacks 7 answer) (too_short, walk, answer)
    (put_stepped (stepped_of (npdsch_walk walk) anchor other) walk answer)

-- ---- NPDCCH

abbrev pub plan_control : List ℕ → List ℕ → List ℕ → List ℕ → List ℕ → Reply
plan_control cell anchor other grant answer =
    cond (lacks 8 cell || (lacks 4 grant || lacks 5 answer)) (too_short, answer)
    (put (downlink_plan_numbers (control.plan_of (cell_in cell 0 8) anchor other (npdcch_at grant 0))) answer)

abbrev pub forward_control : List ℕ → List ℕ → List ℕ → List ℕ → ℕ → List ℕ → Reply
forward_control cell anchor other grant p answer =
    cond (lacks 8 cell || (lacks 4 grant || lacks 6 answer)) (too_short, answer)
    (put (downlink_place_numbers (control.forward_of (cell_in cell 0 8) anchor other (npdcch_at grant 0) p)) answer)

abbrev pub backward_control : List ℕ → List ℕ → List ℕ → List ℕ → ℕ → ℕ → ℕ → ℕ → List ℕ → Reply
backward_control cell anchor other grant t slot l k answer =
    cond (lacks 8 cell || (lacks 4 grant || lacks 6 answer)) (too_short, answer)
    (put (downlink_back_numbers (control.backward_of (cell_in cell 0 8) anchor other (npdcch_at grant 0) t slot l k))
    answer)

abbrev pub step_control : List ℕ → List ℕ → List ℕ → List ℕ → StepReply
step_control walk anchor other answer =
    cond (lacks 13 walk || lacks 7 answer) (too_short, walk, answer)
    (put_stepped (stepped_of (npdcch_walk walk) anchor other) walk answer)

-- ---- where NPDCCH may start

abbrev pub search : List ℕ → List ℕ → List ℕ → List ℕ → List ℕ → Reply
search cell anchor other space answer =
    cond (lacks 8 cell || (lacks 4 space || lacks 48 answer)) (too_short, answer)
    (put (search_numbers (search_of (cell_in cell 0 8) anchor other (search_space_at space 0))) answer)

-- ---- the broadcast: a channel of the cell

abbrev pub forward_on : (CellConfig → Channel) → List ℕ → List ℕ → List ℕ → ℕ → List ℕ → Reply
forward_on channel cell anchor other p answer =
    cond (lacks 8 cell || lacks 6 answer) (too_short, answer)
    (put (downlink_place_numbers
    (broadcast.forward_of (cell_in cell 0 8) anchor other (channel (config_at cell 0)) p)) answer)

abbrev pub backward_on : (CellConfig → Channel) → List ℕ → List ℕ → List ℕ → ℕ → ℕ → ℕ → ℕ → List ℕ → Reply
backward_on channel cell anchor other t slot l k answer =
    cond (lacks 8 cell || lacks 5 answer) (too_short, answer)
    (put (back_numbers
    (broadcast.backward_of (cell_in cell 0 8) anchor other (channel (config_at cell 0)) t slot l k)) answer)

-- ---- the numbers of a transmitted subframe: an output that is no subframe's is refused by 15

abbrev pub fill : List ℕ → List ℕ → List ℕ → List ℕ → ℕ → List ℕ → Float → List Float → ℕ × List Float
fill cell anchor other grant i bits level output =
    cond (lacks 8 cell || lacks 5 grant) (too_short, output) (
      fill_refusal (cell_in cell 0 8) anchor other (npdsch_at grant 0) i bits level output,
      output_of (cell_in cell 0 8) anchor other (npdsch_at grant 0) i bits level output,
    )

-- one element: its state, and its two amplitudes
abbrev pub element : List ℕ → List ℕ → List ℕ → List ℕ → ℕ → ℕ → ℕ → ℕ → List ℕ → Float → List ℕ → List Float
    → ℕ × List ℕ × List Float
element cell anchor other grant i slot l k bits level answer amplitudes =
    cond ((lacks 8 cell || lacks 5 grant) || (lacks 2 answer || lacks 2 amplitudes)) (too_short, answer, amplitudes)
    (put_element (numbers_of
    (element_answer (cell_in cell 0 8) anchor other (npdsch_at grant 0) i slot l k bits level)) answer amplitudes)
