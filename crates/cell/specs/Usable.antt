-- Which subframes are usable, and why another is not: TS 36.213 clause 16.4; 01 "Usable subframes", 02 L2 and L5.
use Rattle.std.specs.Prelude.{Bool, cond, ◌&&◌, List, ℕ, eqb}
use Rattle.bitmap.specs.Bitmap.{allowed}
use Rattle.sync.specs.Sync.{npbch, npss, nsss, sib1}
use Rattle.messages.specs.Messages.{all_periods, is_message}
use Rattle.cell.specs.declared.CellConfig.{CellConfig}
use Rattle.cell.specs.declared.Cell.{Cell}
use Rattle.cell.specs.declared.Cause.{Cause}
use Rattle.cell.specs.declared.Cause.TheVariants.{None, Npbch, Npss, Nsss, Sib1, Message, Bitmap}

-- all that makes a subframe usable repeats after so many subframes: 4,096 frames
abbrev pub period : ℕ
period = all_periods

abbrev pub is_anchor : CellConfig → Bool
is_anchor c = eqb c.carrier 0

-- a cause's number
abbrev pub cause_number : Cause → ℕ
cause_number None = 0
cause_number Npbch = 1
cause_number Npss = 2
cause_number Nsss = 3
cause_number Sib1 = 4
cause_number Message = 5
cause_number Bitmap = 6

-- no cause stands against it
abbrev pub none : Cause → Bool
none cause = eqb (cause_number cause) 0

-- what an anchor takes subframe t for by itself: the first in this order
unfoldable pub anchor_cause : CellConfig → ℕ → Cause
anchor_cause c t =
    cond (is_anchor c && npbch t) Npbch
    (cond (is_anchor c && npss t) Npss
    (cond (is_anchor c && nsss t) Nsss
    (cond (is_anchor c && sib1 c.identity c.sib1 t) Sib1 None)))

-- what messages are laid over, with the bitmap b in force: the anchor does not take it, and the bitmap allows it
unfoldable pub free : CellConfig → List ℕ → ℕ → Bool
free c b t = none (anchor_cause c t) && allowed b c.bits t

-- why subframe t is not usable: the anchor's own cause, then a message, then what the last test withholds
unfoldable pub why_unless : Cell → List ℕ → (ℕ → Bool) → ℕ → Cause
why_unless c b permitted t =
    cond (none (anchor_cause c.config t))
    (cond (is_anchor c.config && is_message c.messages (free c.config b) t) Message
    (cond (permitted t) None Bitmap))
    (anchor_cause c.config t)

-- with the bitmap as the last test
abbrev pub why : Cell → List ℕ → ℕ → Cause
why c b = why_unless c b (allowed b c.config.bits)

abbrev pub usable : Cell → List ℕ → ℕ → Bool
usable c b t = none (why c b t)
