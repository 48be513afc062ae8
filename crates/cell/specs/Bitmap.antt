-- Where a cell's bitmap stands: 01 "The cell".
use Rattle.std.specs.Prelude.{cond, List, ℕ, eqb, take}
use Rattle.bitmap.specs.Bitmap.{bytes_of}
use Rattle.cell.specs.declared.CellConfig.{CellConfig}
use Rattle.cell.specs.declared.Cell.{Cell}

-- the carrier's own buffer, of the anchor's and the non-anchor's
abbrev pub own_buffer : CellConfig → List ℕ → List ℕ → List ℕ
own_buffer c anchor other = cond (eqb c.carrier 0) anchor other

-- the bitmap: the first bytes of the carrier's own buffer
abbrev pub bitmap_in : CellConfig → List ℕ → List ℕ
bitmap_in c own = take (bytes_of c.bits) own

-- the bitmap in force of an accepted cell
abbrev pub bitmap_of : Cell → List ℕ → List ℕ → List ℕ
bitmap_of c anchor other = bitmap_in c.config (own_buffer c.config anchor other)
