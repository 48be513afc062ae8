-- A question on a grant of a cell: the grant's refusals, and the cell's before them.
use Rattle.std.specs.Prelude.{Bool, cond, not, List, ℕ, eqb, ltb}
use Rattle.grid.specs.Grid.{last_subframe}
use Rattle.grid.specs.Tables.{is_repetition}
use Rattle.cell.specs.declared.Cell.{Cell}
use Rattle.cell.specs.Bitmap.{bitmap_of}
use Rattle.cell.specs.Usable.{period, usable}
use Rattle.cell.specs.Judge.{judge_of}
use Rattle.sending.specs.Answer.{Question}
use Rattle.downlink.specs.declared.Burst.{Burst}
use Rattle.downlink.specs.Mapping.{sending_of}

-- 9, 10 and 12 of 01's table: a subframe past the last, a field above its largest number, no number of repetitions
unfoldable pub fields_refusal : ℕ → Bool → ℕ → ℕ
fields_refusal n above repetitions =
    cond (ltb last_subframe n) 9
    (cond above 10
    (cond (not (is_repetition repetitions)) 12 0))

-- the cell's number, or the grant's where the cell is accepted
unfoldable pub question_refusal : Cell → List ℕ → List ℕ → ℕ → ℕ
question_refusal c anchor other grant = cond (eqb (judge_of c anchor other) 0) grant (judge_of c anchor other)

-- a question on a grant of a cell, with refusal `grant` after the cell's, that is sent as burst b in the cell's
-- usable subframes
abbrev pub question_on : Cell → List ℕ → List ℕ → ℕ → Burst → Question
question_on c anchor other grant b = record {
  no = question_refusal c anchor other grant;
  sending = sending_of (usable c (bitmap_of c anchor other)) period b;
}
