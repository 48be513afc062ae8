-- What the questions on an NPDSCH answer, on any numbers and buffers: 01 "Downlink grants" and "Questions", 02 L2; TS
-- 36.213 clauses 16.4.1 and 16.4.1.3, TS 36.211 clause 10.2.3.4.
use Rattle.std.specs.Prelude.{List, ℕ, ◌+◌}
use Rattle.grid.specs.Grid.{subcarriers}
use Rattle.grid.specs.Tables.{entry, lengths, downlink_copies, downlink_delay, up_to_four}
use Rattle.cell.specs.declared.CellConfig.{CellConfig}
use Rattle.cell.specs.declared.Cell.{Cell}
use Rattle.cell.specs.Bitmap.{bitmap_of}
use Rattle.cell.specs.Usable.{why}
use Rattle.sending.specs.Answer.{Question}
use Rattle.downlink.specs.declared.Burst.{Burst}
use Rattle.downlink.specs.declared.DownlinkPlan.{DownlinkPlan}
use Rattle.downlink.specs.declared.DownlinkPlace.{DownlinkPlace}
use Rattle.downlink.specs.declared.DownlinkBack.{DownlinkBack}
use Rattle.downlink.specs.Cells.{question_on}
use Rattle.cell.specs.Layout.{layout_of}
use Rattle.downlink.specs.Answers.{plan_answer, forward_answer, back_answer}
use Rattle.npdsch.specs.declared.NpdschGrant.{NpdschGrant}
use Rattle.npdsch.specs.Refusals.{grant_refusal}

-- the first subframe sent is the usable one before which exactly (delay) usable ones lie, counting from n + 5; all
-- subcarriers are used
abbrev pub burst_of : CellConfig → NpdschGrant → Burst
burst_of c g = record {
  layout = layout_of c;
  low = 0;
  width = subcarriers;
  from = g.n + 5;
  skip = downlink_delay g.rmax g.delay;
  codeword = entry lengths g.subframes;
  copies = entry downlink_copies g.copies;
  consecutive = up_to_four (entry downlink_copies g.copies);
}

-- sent in the cell's usable subframes, refused by the cell and then by the grant
abbrev pub question_of : Cell → List ℕ → List ℕ → NpdschGrant → Question
question_of c anchor other g = question_on c anchor other (grant_refusal g) (burst_of c.config g)

unfoldable pub plan_of : Cell → List ℕ → List ℕ → NpdschGrant → DownlinkPlan
plan_of c anchor other g = plan_answer (question_of c anchor other g)

unfoldable pub forward_of : Cell → List ℕ → List ℕ → NpdschGrant → ℕ → DownlinkPlace
forward_of c anchor other g p = forward_answer (question_of c anchor other g) p

-- with the cause that makes a subframe between the first and the last one unusable
unfoldable pub backward_of : Cell → List ℕ → List ℕ → NpdschGrant → ℕ → ℕ → ℕ → ℕ → DownlinkBack
backward_of c anchor other g = back_answer (question_of c anchor other g) (why c (bitmap_of c anchor other))
