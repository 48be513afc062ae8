-- The cell's refusals, the number beside its test: 01 "The cell" and "Numbers a caller may get back", 02 L2, L5 and L7.
-- They are tested in the order of the list, which is not that of the numbers: 1 to 5, 24, 6, 7, 21, 8, 18. And why a
-- subframe is not usable, asked with the cell's refusals.
use Rattle.std.specs.Prelude.{Bool, cond, not, ◌&&◌, ◌||◌, List, [], ℕ, eqb, ltb, leb}
use Rattle.counting.specs.Counting.{rank}
use Rattle.bitmap.specs.Bitmap.{bad_bitmap, allowed}
use Rattle.messages.specs.Messages.{are_listed}
use Rattle.cell.specs.declared.CellConfig.{CellConfig}
use Rattle.cell.specs.declared.Cell.{Cell}
use Rattle.cell.specs.declared.Cause.TheVariants.{None}
use Rattle.cell.specs.declared.CauseAnswer.{CauseAnswer}
use Rattle.cell.specs.Bitmap.{own_buffer, bitmap_in, bitmap_of}
use Rattle.cell.specs.Usable.{period, why, usable}

-- mode 0 in-band with the cell's own identity, 1 in-band with another; 2 guard band and 3 standalone, which differ in
-- nothing that is asked here
abbrev pub in_band : CellConfig → Bool
in_band c = ltb c.mode 2

-- cell reference ports 1, 2 or 4 in-band; 0 in the other modes
abbrev pub cell_ports_listed : CellConfig → Bool
cell_ports_listed c =
    cond (in_band c) (eqb c.cports 1 || (eqb c.cports 2 || eqb c.cports 4)) (eqb c.cports 0)

-- control region 1 to 3 in-band; 0 in the other modes
abbrev pub control_listed : CellConfig → Bool
control_listed c = cond (in_band c) (leb 1 c.control && leb c.control 3) (eqb c.control 0)

-- mode 0: one identity for both, and so the same ports: 02 L7
abbrev pub ports_differ : CellConfig → Bool
ports_differ c = eqb c.mode 0 && not (eqb c.cports c.nports)

-- 1 to 6 and 24, on the numbers alone
unfoldable pub numbers_refusal : CellConfig → ℕ
numbers_refusal c =
    cond (ltb 3 c.mode || ltb 1 c.carrier) 1
    (cond (ltb 503 c.identity) 2
    (cond (not (eqb c.nports 1 || eqb c.nports 2)) 3
    (cond (not (cell_ports_listed c)) 4
    (cond (not (control_listed c)) 5
    (cond (ports_differ c) 24
    (cond (ltb 11 c.sib1) 6 0))))))

-- these and 7. Of the two lent buffers only the carrier's own is read.
unfoldable pub config_refusal : CellConfig → List ℕ → ℕ
config_refusal c own = cond (eqb (numbers_refusal c) 0) (cond (bad_bitmap c.bits own) 7 0) (numbers_refusal c)

-- a well-formed cell: none of 1 to 7, 24 and 21. Messages are judged on both carriers.
unfoldable pub form_refusal : Cell → List ℕ → ℕ
form_refusal c own =
    cond (eqb (config_refusal c.config own) 0)
    (cond (not (are_listed c.messages)) 21 0)
    (config_refusal c.config own)

-- the bitmap alone allows no subframe of a period
abbrev pub none_allowed : Cell → List ℕ → Bool
none_allowed c own = eqb (rank (allowed (bitmap_in c.config own) c.config.bits) period) 0

-- no subframe of a period is usable; where the bitmap allows some, the anchor or messages take them all
abbrev pub none_usable : Cell → List ℕ → Bool
none_usable c own = eqb (rank (usable c (bitmap_in c.config own)) period) 0

-- 8, then 18
unfoldable pub use_refusal : Cell → List ℕ → ℕ
use_refusal c own = cond (none_allowed c own) 8 (cond (none_usable c own) 18 0)

unfoldable pub cell_refusal : Cell → List ℕ → ℕ
cell_refusal c own = cond (eqb (form_refusal c own) 0) (use_refusal c own) (form_refusal c own)

unfoldable pub judge_of : Cell → List ℕ → List ℕ → ℕ
judge_of c anchor other = cell_refusal c (own_buffer c.config anchor other)

-- the bitmap in force; a refused cell has an empty one
unfoldable pub in_force_of : Cell → List ℕ → List ℕ → List ℕ
in_force_of c anchor other = cond (eqb (judge_of c anchor other) 0) (bitmap_of c anchor other) []

-- why subframe t is not usable, for any t; a refused cell has its number and no cause
unfoldable pub cause_of : Cell → List ℕ → List ℕ → ℕ → CauseAnswer
cause_of c anchor other t =
    cond (eqb (judge_of c anchor other) 0) (record { no = 0; cause = why c (bitmap_of c anchor other) t })
    (record { no = judge_of c anchor other; cause = None })
