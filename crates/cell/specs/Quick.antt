-- For the code alone. What the quick code chooses: the cell's masks, and the cause read off a mask.
use Rattle.std.specs.Prelude.{Bool, true, cond, not, ◌&&◌, List, ◌≡◌, ◌⊎◌, ℕ, ◌+◌, ◌*◌, ◌≤◌, ◌<◌, eqb, ltb}
use Rattle.std.specs.Prelude.{Result, Ok, Err, IfOk}
use Rattle.refusals.specs.declared.Refusal.{Refusal}
use Rattle.refusals.specs.Refusal.{number_of, refused_by}
use Rattle.counting.specs.Counting.{rank}
use Rattle.spans.specs.declared.Pattern.{Pattern}
use Rattle.spans.specs.Pattern.{span, mask_bit, mask_at, allows, Regular}
use Rattle.bitmap.specs.Quick.{BitmapFits, Loaded}
use Rattle.messages.specs.declared.Messages.{Messages}
use Rattle.messages.specs.Quick.{is_silent}
use Rattle.subframes.specs.Subframes.{messages_in}
use Rattle.subframes.specs.Scaffold.{left_in, Searchable}
use Rattle.cell.specs.declared.CellConfig.{CellConfig}
use Rattle.cell.specs.declared.Cell.{Cell}
use Rattle.cell.specs.declared.Cause.{Cause}
use Rattle.cell.specs.declared.Cause.TheVariants.{None, Message, Bitmap}
use Rattle.cell.specs.declared.CauseAnswer.{CauseAnswer}
use Rattle.cell.specs.declared.Verdict.{Verdict}
use Rattle.cell.specs.Bitmap.{bitmap_in}
use Rattle.cell.specs.Usable.{is_anchor, none, anchor_cause, free, why}
use Rattle.grid.specs.Grid.{elements}
use Rattle.elements.specs.Elements.{eligible}
use Rattle.cell.specs.declared.ElementCount.{ElementCount}
use Rattle.cell.specs.Layout.{layout_of}
use Rattle.cell.specs.Judge.{cell_ports_listed, control_listed, ports_differ, cell_refusal}

-- 4, 5 and 24
unfoldable pub band_refusal : CellConfig → ℕ
band_refusal c = cond (not (cell_ports_listed c)) 4 (cond (not (control_listed c)) 5 (cond (ports_differ c) 24 0))

-- bit i of a span's mask says whether subframe i of the span is free
pub record Shows (c : CellConfig) (b : List ℕ) (p : Pattern) : Type 0 where
  pub regular : Regular p
  pub bits : (s i : ℕ) → i < span → mask_bit (mask_at p s) i ≡ free c b (span * s + i)

-- p shows the cell with whichever bitmap m was loaded from
pub record ShowsLoaded (c : CellConfig) (m : ℕ) (p : Pattern) : Type 0 where
  pub shows : (own : List ℕ) → BitmapFits c.bits own → Loaded own c.bits m → Shows c (bitmap_in c own) p

-- a cell of these eight numbers
abbrev pub with_messages : CellConfig → Messages → Cell
with_messages c ms = record { config = c; messages = ms }

-- a cell whose messages are lent as numbers
abbrev pub lent_cell : CellConfig → List ℕ → Cell
lent_cell c si = with_messages c (messages_in si)

-- messages are laid on an anchor that has some
abbrev pub lays_messages : Cell → Bool
lays_messages c = is_anchor c.config && ltb 0 c.messages.count

-- the cause of a subframe that is not free: what the anchor takes it for, else the bitmap
unfoldable pub why_not_free : CellConfig → ℕ → Cause
why_not_free c t = cond (none (anchor_cause c t)) Bitmap (anchor_cause c t)

-- the cause of a subframe that is not usable: a free one is a message's
unfoldable pub why_not : CellConfig → Pattern → Bool → ℕ → Cause
why_not c p laid t = cond (laid && allows p t) Message (why_not_free c t)

-- the cause, by a pattern of the free subframes and the messages laid over them
unfoldable pub seen : Cell → Pattern → Bool → ℕ → Cause
seen c p laid t = cond (left_in p laid c.messages t) None (why_not c.config p laid t)

-- what the verdict on an accepted cell tells: where to search
pub record Accepted (c : Cell) (own : List ℕ) (v : Verdict) : Type 0 where
  pub laid : v.laid ≡ lays_messages c
  pub shows : Shows c.config (bitmap_in c.config own) v.pattern
  pub searchable : Searchable v.pattern v.laid c.messages

-- a cell judged by its own buffer
pub record VerdictOn (c : Cell) (own : List ℕ) (r : Result Verdict Refusal) : Type 0 where
  pub number : refused_by r ≡ cell_refusal c own
  pub accepted : IfOk r (Accepted c own)

-- the same of eight numbers, whatever messages stand beside them that change nothing
abbrev pub VerdictAlone : CellConfig → List ℕ → Result Verdict Refusal → Type 0
VerdictAlone c own r = (ms : Messages) → is_silent ms ≡ true → VerdictOn (with_messages c ms) own r

-- a refusal has its number and no cause
abbrev pub cause_answer : Result Cause Refusal → CauseAnswer
cause_answer (Ok cause) = record { no = 0; cause = cause }
cause_answer (Err refusal) = record { no = number_of refusal; cause = None }

-- the question of the cause, on the cell's own buffer
abbrev pub cause_on : Cell → List ℕ → ℕ → CauseAnswer
cause_on c own t =
    cond (eqb (cell_refusal c own) 0) (record { no = 0; cause = why c (bitmap_in c.config own) t })
    (record { no = cell_refusal c own; cause = None })

-- E after the cell's refusal number
unfoldable pub count_after : ℕ → CellConfig → ElementCount
count_after refusal c =
    cond (eqb refusal 0) (record { no = 0; e = rank (eligible (layout_of c)) elements })
    (record { no = refusal; e = 0 })

-- what acceptance says of the numbers
pub record WellFormed (c : CellConfig) : Type 0 where
  pub carrier : c.carrier ≤ 1
  pub identity : c.identity < 504
  pub nports : (c.nports ≡ 1) ⊎ (c.nports ≡ 2)
  pub cports : (c.cports ≡ 0) ⊎ ((c.cports ≡ 1) ⊎ ((c.cports ≡ 2) ⊎ (c.cports ≡ 4)))
  pub control : c.control ≤ 3
  pub sib1 : c.sib1 ≤ 11
