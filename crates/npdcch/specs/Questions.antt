-- What the questions on an NPDCCH answer, on any numbers and buffers: 01 "Downlink grants" and "Questions", 02 L2; TS
-- 36.211 clause 10.2.5.5.
use Rattle.std.specs.Prelude.{List, ℕ}
use Rattle.cell.specs.declared.CellConfig.{CellConfig}
use Rattle.cell.specs.declared.Cell.{Cell}
use Rattle.cell.specs.Bitmap.{bitmap_of}
use Rattle.cell.specs.Usable.{why}
use Rattle.npdcch.specs.Ncce.{first_subcarrier, used_subcarriers}
use Rattle.sending.specs.Answer.{Question}
use Rattle.downlink.specs.declared.Burst.{Burst}
use Rattle.downlink.specs.declared.DownlinkPlan.{DownlinkPlan}
use Rattle.downlink.specs.declared.DownlinkPlace.{DownlinkPlace}
use Rattle.downlink.specs.declared.DownlinkBack.{DownlinkBack}
use Rattle.downlink.specs.Cells.{question_on}
use Rattle.cell.specs.Layout.{layout_of}
use Rattle.downlink.specs.Answers.{plan_answer, forward_answer, back_answer}
use Rattle.npdcch.specs.declared.NpdcchGrant.{NpdcchGrant}
use Rattle.npdcch.specs.Refusals.{grant_refusal}

-- r copies in the first r usable subframes at or after n; each carries the whole codeword, on one NCCE or both
abbrev pub burst_of : CellConfig → NpdcchGrant → Burst
burst_of c g = record {
  layout = layout_of c;
  low = first_subcarrier g.format g.ncce;
  width = used_subcarriers g.format;
  from = g.n;
  skip = 0;
  codeword = 1;
  copies = g.r;
  consecutive = 1;
}

-- sent in the cell's usable subframes, refused by the cell and then by the grant
abbrev pub question_of : Cell → List ℕ → List ℕ → NpdcchGrant → Question
question_of c anchor other g = question_on c anchor other (grant_refusal g) (burst_of c.config g)

unfoldable pub plan_of : Cell → List ℕ → List ℕ → NpdcchGrant → DownlinkPlan
plan_of c anchor other g = plan_answer (question_of c anchor other g)

unfoldable pub forward_of : Cell → List ℕ → List ℕ → NpdcchGrant → ℕ → DownlinkPlace
forward_of c anchor other g p = forward_answer (question_of c anchor other g) p

-- with the cause that makes a subframe between the first and the last one unusable
unfoldable pub backward_of : Cell → List ℕ → List ℕ → NpdcchGrant → ℕ → ℕ → ℕ → ℕ → DownlinkBack
backward_of c anchor other g = back_answer (question_of c anchor other g) (why c (bitmap_of c anchor other))
