-- What the questions on a channel answer, on any numbers and buffers: 02 L9.
use Rattle.std.specs.Prelude.{cond, List, ℕ, ◌%◌}
use Rattle.grid.specs.Grid.{element_of}
use Rattle.cell.specs.declared.CellConfig.{CellConfig}
use Rattle.cell.specs.declared.Cell.{Cell}
use Rattle.cell.specs.Usable.{is_anchor}
use Rattle.sending.specs.declared.Back.{Back}
use Rattle.sending.specs.Answer.{Question, backward_by}
use Rattle.downlink.specs.declared.DownlinkPlace.{DownlinkPlace}
use Rattle.downlink.specs.Mapping.{sending_of}
use Rattle.downlink.specs.Cells.{question_refusal}
use Rattle.downlink.specs.Answers.{inside_grid, forward_answer}
use Rattle.broadcast.specs.Channels.{Channel}

-- 25: a non-anchor broadcasts nothing
unfoldable pub carrier_refusal : CellConfig → ℕ
carrier_refusal c = cond (is_anchor c) 0 25

-- refused by the cell, then by its carrier; sent in the channel's own subframes
abbrev pub question_of : Cell → List ℕ → List ℕ → Channel → Question
question_of c anchor other channel = record {
  no = question_refusal c anchor other (carrier_refusal c.config);
  sending = sending_of channel.is_own channel.period channel.burst;
}

-- a place of the period that begins in subframe 0
unfoldable pub forward_of : Cell → List ℕ → List ℕ → Channel → ℕ → DownlinkPlace
forward_of c anchor other channel p = forward_answer (question_of c anchor other channel) p

-- any subframe, by its number in its period
unfoldable pub backward_of : Cell → List ℕ → List ℕ → Channel → ℕ → ℕ → ℕ → ℕ → Back
backward_of c anchor other channel t slot l k =
    backward_by (question_of c anchor other channel) (inside_grid slot l k) (t % channel.period) (element_of slot l k)
