-- What is promised beside demand 3: places clear of the random access windows, 02 L4; the bitmap in force as a part, 01
-- "The cell"; messages laid as 02 L5 has them; the numbers of the answers that are enums, the cause of 02 L2 and one
-- element of a fill, 01 "Questions"; and which kinds are answered, 02 L8.
use Rattle.std.specs.Prelude.{false, ◌&&◌, List, [], ◌++◌, ◌↔◌, ◌⊎◌, ◌≡◌, ℕ, ◌+◌, ◌*◌, ◌/◌, ◌≤◌, ◌<◌, Float, length}
use Rattle.numerology.specs.Numerology.{group_of, group_ms, narrow_tones}
use Rattle.nprach.specs.declared.Window.{Window}
use Rattle.nprach.specs.declared.Windows.{Windows}
use Rattle.nprach.specs.Windows.{window_tones}
use Rattle.nprach.specs.Meaning.{Meeting}
use Rattle.bitmap.specs.Bitmap.{bytes_of, allowed}
use Rattle.messages.specs.Messages.{remaining}
use Rattle.messages.specs.Meaning.{AllLaid}
use Rattle.cell.specs.declared.Cell.{Cell}
use Rattle.cell.specs.declared.CauseAnswer.{CauseAnswer}
use Rattle.cell.specs.Usable.{free, cause_number, usable}
use Rattle.sending.specs.declared.Back.{Back}
use Rattle.sending.specs.Sending.{ours, not_ours}
use Rattle.sending.specs.Answer.{back_of}
use Rattle.symbol.specs.declared.ElementNumbers.{ElementNumbers}
use Rattle.symbol.specs.Symbol.{symbol_of}
use Rattle.symbol.specs.Outgoing.{plus_zero, numbers_of}
use Rattle.transmitted.specs.Element.{element_answer}
use Rattle.elements.specs.declared.Layout.{Layout}
use Rattle.elements.specs.Elements.{nrs, crs}
use Rattle.npusch.specs.declared.NpuschGrant.{NpuschGrant}
use Rattle.npusch.specs.Questions as npusch
use Rattle.harq_ack.specs.declared.HarqAckGrant.{HarqAckGrant}
use Rattle.harq_ack.specs.Questions as ack
use Rattle.npdsch.specs.declared.NpdschGrant.{NpdschGrant}
use Rattle.npdsch.specs.Questions as npdsch
use Rattle.npdcch.specs.declared.NpdcchGrant.{NpdcchGrant}
use Rattle.npdcch.specs.Questions as npdcch
use Rattle.broadcast.specs.Channels.{Channel}
use Rattle.broadcast.specs.Questions as broadcast

-- ---- 02 L4: clear of the windows

-- the windows that are read: as many of the four as are counted
pub data Reads (ws : Windows) : Window → Type 0 where
  first : 1 ≤ ws.count → Reads ws ws.w1
  second : 2 ≤ ws.count → Reads ws ws.w2
  third : 3 ≤ ws.count → Reads ws ws.w3
  fourth : 4 ≤ ws.count → Reads ws ws.w4

-- a window has one of so many granted tones from a first one on: one at 3.75 kHz, of which a tone at 15 kHz covers four
pub record Shares (spacing tone tones : ℕ) (w : Window) : Type 0 where
  pub at : ℕ
  pub granted : (narrow_tones spacing * tone ≤ at) × (at < narrow_tones spacing * (tone + tones))
  pub taken : (w.tone ≤ at) × (at < w.tone + window_tones)

-- the slot is in no group that a window which is read meets in time and tone
abbrev pub KeepsClear : ℕ → ℕ → ℕ → Windows → ℕ → Type 0
KeepsClear spacing tone tones ws slot =
    (w : Window) → Reads ws w → Shares spacing tone tones w → Meeting (group_ms spacing) w (slot / group_of spacing) → ⊥

-- ---- the bitmap in force

-- the first n bytes of a buffer, which has them
pub record Front (n : ℕ) (buffer part : List ℕ) : Type 0 where
  pub rest : List ℕ
  pub joined : buffer ≡ part ++ rest
  pub size : length part ≡ n

-- of a cell with refusal number `no`: 0, 2 or 5 bytes of the carrier's own buffer; a refused one has an empty part
pub record InForce (c : Cell) (no : ℕ) (anchor other part : List ℕ) : Type 0 where
  pub on_anchor : no ≡ 0 → c.config.carrier ≡ 0 → Front (bytes_of c.config.bits) anchor part
  pub on_other : no ≡ 0 → c.config.carrier ≡ 1 → Front (bytes_of c.config.bits) other part
  pub refused : (no ≡ 0 → ⊥) → part ≡ []

-- ---- the cause by its number: 0 exactly where the subframe is usable, and where the cell is refused

pub record CauseTold (no : ℕ) (usable : Type 0) (a : CauseAnswer) : Type 0 where
  pub number : a.no ≡ no
  pub told : no ≡ 0 → (cause_number a.cause ≡ 0) ↔ usable
  pub refused : (no ≡ 0 → ⊥) → cause_number a.cause ≡ 0

-- ---- 02 L5: messages

-- they are laid copy by copy over what the anchor and the bitmap allow, and on the anchor what they leave is usable;
-- on a non-anchor none is laid, and what the bitmap allows is usable
pub record MessagesLaid (c : Cell) (bitmap : List ℕ) : Type 0 where
  pub laid : AllLaid c.messages (free c.config bitmap)
  pub on_anchor : c.config.carrier ≡ 0 → (t : ℕ)
      → usable c bitmap t ≡ remaining c.messages (free c.config bitmap) t
  pub on_other : c.config.carrier ≡ 1 → (t : ℕ) → usable c bitmap t ≡ allowed bitmap c.config.bits t

-- ---- one element by its numbers, beside what backward answers at its place

-- a refusal alone; 4 and the symbol's two numbers where it is ours; elsewhere the kind, 0 silent and 1 or 2 a reference
pub record ElementTold (no : ℕ) (at : Back) (bits : List ℕ) (level : Float) (e : ElementNumbers) : Type 0 where
  pub refused : (no ≡ 0 → ⊥) → e ≡ record { no = no; state = 0; re = plus_zero; im = plus_zero }
  pub sent : (s p : ℕ) → no ≡ 0 → at ≡ back_of (ours s p)
      → e ≡ record { no = 0; state = 4; re = (symbol_of bits level s).re; im = (symbol_of bits level s).im }
  pub unsent : (kind : ℕ) → no ≡ 0 → at ≡ back_of (not_ours kind)
      → e ≡ record { no = 0; state = kind; re = plus_zero; im = plus_zero }

-- ---- 02 L8: kinds

-- of every question, refused ones too
pub record KindsTold : Type 0 where
  -- of any layout: no element is both a narrowband and a cell reference
  pub never_both : (g : Layout) (l k : ℕ) → (nrs g l k && crs g l k) ≡ false
  pub uplink : (g : NpuschGrant) (ws : Windows) (slot l k : ℕ) → (npusch.backward_of g ws slot l k).kind ≤ 1
  pub acknowledgement : (g : HarqAckGrant) (ws : Windows) (slot l k : ℕ) → (ack.backward_of g ws slot l k).kind ≤ 1
  pub downlink : (c : Cell) (anchor other : List ℕ) (g : NpdschGrant) (t slot l k : ℕ)
      → (npdsch.backward_of c anchor other g t slot l k).back.kind ≤ 2
  pub control : (c : Cell) (anchor other : List ℕ) (g : NpdcchGrant) (t slot l k : ℕ)
      → (npdcch.backward_of c anchor other g t slot l k).back.kind ≤ 2
  -- NPBCH, SIB1, or any other channel of a cell
  pub broadcast : (c : Cell) (anchor other : List ℕ) (channel : Channel) (t slot l k : ℕ)
      → (broadcast.backward_of c anchor other channel t slot l k).kind ≤ 2
  -- one element: silent, a reference of either kind, or a symbol
  pub element : (c : Cell) (anchor other : List ℕ) (g : NpdschGrant) (i slot l k : ℕ) (bits : List ℕ) (level : Float)
      → ((numbers_of (element_answer c anchor other g i slot l k bits level)).state ≤ 2)
      ⊎ ((numbers_of (element_answer c anchor other g i slot l k bits level)).state ≡ 4)
