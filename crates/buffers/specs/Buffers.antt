-- Cells, grants and answers as buffers of numbers, in the order of include/nbiot_numbers.h, and what a call replies.
use Rattle.std.specs.Prelude.{Bool, cond, ◌&&◌, List, [], ◌∷◌, ◌++◌, length, get_or, drop}
use Rattle.std.specs.Prelude.{ℕ, zero, suc, ◌+◌, ltb, Float}
use Rattle.subframes.specs.Subframes.{messages_in}
use Rattle.cell.specs.declared.CellConfig.{CellConfig}
use Rattle.cell.specs.declared.Cell.{Cell}
use Rattle.cell.specs.declared.CauseAnswer.{CauseAnswer}
use Rattle.cell.specs.Usable.{cause_number}
use Rattle.nprach.specs.declared.Window.{Window}
use Rattle.nprach.specs.declared.Windows.{Windows}
use Rattle.nprach.specs.Windows.{none}
use Rattle.npusch.specs.declared.NpuschGrant.{NpuschGrant}
use Rattle.harq_ack.specs.declared.HarqAckGrant.{HarqAckGrant}
use Rattle.npdsch.specs.declared.NpdschGrant.{NpdschGrant}
use Rattle.npdcch.specs.declared.NpdcchGrant.{NpdcchGrant}
use Rattle.sending.specs.declared.Back.{Back}
use Rattle.uplink.specs.declared.UplinkPlan.{UplinkPlan}
use Rattle.uplink.specs.declared.UplinkPlace.{UplinkPlace}
use Rattle.downlink.specs.declared.DownlinkPlan.{DownlinkPlan}
use Rattle.downlink.specs.declared.DownlinkPlace.{DownlinkPlace}
use Rattle.downlink.specs.declared.DownlinkBack.{DownlinkBack}
use Rattle.cell.specs.declared.ElementCount.{ElementCount}
use Rattle.walk.specs.declared.Grant.{Grant}
use Rattle.walk.specs.declared.Grant.TheVariants.{Npusch, HarqAck, Npdsch, Npdcch}
use Rattle.walk.specs.declared.Walk.{Walk}
use Rattle.walk.specs.declared.WalkPlace.{WalkPlace}
use Rattle.walk.specs.declared.Stepped.{Stepped}
use Rattle.search_space.specs.declared.SearchSpace.{SearchSpace}
use Rattle.search_space.specs.declared.Candidate.{Candidate}
use Rattle.search_space.specs.declared.SearchAnswer.{SearchAnswer}
use Rattle.search_space.specs.Candidates.{room, blank}
use Rattle.symbol.specs.declared.ElementNumbers.{ElementNumbers}

-- ---- what is asked: records whose numbers stand from a place of a buffer on

abbrev pub config_at : List ℕ → ℕ → CellConfig
config_at s i = record {
  mode = get_or s i 0;
  carrier = get_or s (i + 1) 0;
  identity = get_or s (i + 2) 0;
  nports = get_or s (i + 3) 0;
  cports = get_or s (i + 4) 0;
  control = get_or s (i + 5) 0;
  sib1 = get_or s (i + 6) 0;
  bits = get_or s (i + 7) 0;
}

-- a cell, its eight numbers from one place on and its messages from another; a buffer that ends before has none
abbrev pub cell_in : List ℕ → ℕ → ℕ → Cell
cell_in s i j = record { config = config_at s i; messages = messages_in (drop j s) }

abbrev pub window_at : List ℕ → ℕ → Window
window_at s i =
    record { period = get_or s i 0; start = get_or s (i + 1) 0; length = get_or s (i + 2) 0; tone = get_or s (i + 3) 0 }

-- random access windows: their count and four windows, 17 numbers; a buffer of fewer has none
unfoldable pub windows_of : List ℕ → Windows
windows_of s =
    cond (ltb (length s) 17) none record {
      count = get_or s 0 0;
      w1 = window_at s 1;
      w2 = window_at s 5;
      w3 = window_at s 9;
      w4 = window_at s 13;
    }

abbrev pub npusch_at : List ℕ → ℕ → NpuschGrant
npusch_at s i = record {
  n = get_or s i 0;
  spacing = get_or s (i + 1) 0;
  subcarrier = get_or s (i + 2) 0;
  units = get_or s (i + 3) 0;
  copies = get_or s (i + 4) 0;
  delay = get_or s (i + 5) 0;
  mcs = get_or s (i + 6) 0;
}

abbrev pub harq_ack_at : List ℕ → ℕ → HarqAckGrant
harq_ack_at s i = record {
  n = get_or s i 0;
  spacing = get_or s (i + 1) 0;
  field = get_or s (i + 2) 0;
  copies = get_or s (i + 3) 0;
}

abbrev pub npdsch_at : List ℕ → ℕ → NpdschGrant
npdsch_at s i = record {
  n = get_or s i 0;
  delay = get_or s (i + 1) 0;
  rmax = get_or s (i + 2) 0;
  subframes = get_or s (i + 3) 0;
  copies = get_or s (i + 4) 0;
}

abbrev pub npdcch_at : List ℕ → ℕ → NpdcchGrant
npdcch_at s i =
    record { n = get_or s i 0; r = get_or s (i + 1) 0; format = get_or s (i + 2) 0; ncce = get_or s (i + 3) 0 }

abbrev pub search_space_at : List ℕ → ℕ → SearchSpace
search_space_at s i =
    record { n = get_or s i 0; rmax = get_or s (i + 1) 0; g = get_or s (i + 2) 0; alpha = get_or s (i + 3) 0 }

-- a walk's record: the position, the eight numbers of a downlink grant's cell, the grant, and the cell's messages. An
-- uplink walk has a cell of zeros, which is not looked at.
abbrev pub walk_of : Cell → Grant → ℕ → Walk
walk_of c g p = record { cell = c; grant = g; p = p }

abbrev pub npusch_walk : List ℕ → List ℕ → Walk
npusch_walk s windows = walk_of (cell_in [] 0 8) (Npusch (npusch_at s 1) (windows_of windows)) (get_or s 0 0)

abbrev pub harq_ack_walk : List ℕ → List ℕ → Walk
harq_ack_walk s windows = walk_of (cell_in [] 0 8) (HarqAck (harq_ack_at s 1) (windows_of windows)) (get_or s 0 0)

abbrev pub npdsch_walk : List ℕ → Walk
npdsch_walk s = walk_of (cell_in s 1 14) (Npdsch (npdsch_at s 9)) (get_or s 0 0)

abbrev pub npdcch_walk : List ℕ → Walk
npdcch_walk s = walk_of (cell_in s 1 13) (Npdcch (npdcch_at s 9)) (get_or s 0 0)

-- ---- what is answered

abbrev pub uplink_plan_numbers : UplinkPlan → List ℕ
uplink_plan_numbers a = a.no ∷ a.first ∷ a.last ∷ a.copies ∷ a.places ∷ a.size ∷ a.order ∷ []

abbrev pub downlink_plan_numbers : DownlinkPlan → List ℕ
downlink_plan_numbers a = a.no ∷ a.first ∷ a.last ∷ a.copies ∷ a.places ∷ []

abbrev pub uplink_place_numbers : UplinkPlace → List ℕ
uplink_place_numbers a = a.no ∷ a.slot ∷ a.l ∷ a.k ∷ a.symbol ∷ []

abbrev pub downlink_place_numbers : DownlinkPlace → List ℕ
downlink_place_numbers a = a.no ∷ a.t ∷ a.slot ∷ a.l ∷ a.k ∷ a.symbol ∷ []

abbrev pub back_numbers : Back → List ℕ
back_numbers a = a.no ∷ a.ours ∷ a.symbol ∷ a.position ∷ a.kind ∷ []

-- the cause is its number
abbrev pub downlink_back_numbers : DownlinkBack → List ℕ
downlink_back_numbers a =
    a.back.no ∷ a.back.ours ∷ a.back.symbol ∷ a.back.position ∷ a.back.kind ∷ cause_number a.cause ∷ []

abbrev pub count_numbers : ElementCount → List ℕ
count_numbers a = a.no ∷ a.e ∷ []

abbrev pub cause_numbers : CauseAnswer → List ℕ
cause_numbers a = a.no ∷ cause_number a.cause ∷ []

-- three numbers of each of n candidates, from candidate k on
abbrev pub candidate_numbers : List Candidate → ℕ → ℕ → List ℕ
candidate_numbers list k zero = []
candidate_numbers list k (suc n) =
    (get_or list k blank).first ∷ (get_or list k blank).r ∷ (get_or list k blank).last
    ∷ candidate_numbers list (suc k) n

abbrev pub search_numbers : SearchAnswer → List ℕ
search_numbers a = a.no ∷ a.start ∷ a.count ∷ candidate_numbers a.list 0 room

abbrev pub step_numbers : WalkPlace → List ℕ
step_numbers a = a.no ∷ a.finished ∷ a.t ∷ a.slot ∷ a.l ∷ a.k ∷ a.symbol ∷ []

abbrev pub element_columns : ElementNumbers → List ℕ
element_columns a = a.no ∷ a.state ∷ []

abbrev pub element_amplitudes : ElementNumbers → List Float
element_amplitudes a = a.re ∷ a.im ∷ []

-- ---- buffers too short

-- a buffer has fewer numbers than are needed
abbrev pub lacks : {A : Type 0} → ℕ → List A → Bool
lacks n s = ltb (length s) n

-- the windows' buffer has some numbers and fewer than 17
abbrev pub windows_short : List ℕ → Bool
windows_short s = ltb 0 (length s) && lacks 17 s

-- ---- what a call returns, and its buffers afterwards

-- this boundary's own number
abbrev pub too_short : ℕ
too_short = 255

-- the numbers at the front of a buffer, its rest kept
abbrev pub laid : {A : Type 0} → List A → List A → List A
laid numbers s = numbers ++ drop (length numbers) s

-- an answer's first number is returned and all of them are laid
abbrev pub put : List ℕ → List ℕ → ℕ × List ℕ
put numbers s = (get_or numbers 0 0, laid numbers s)

-- a step's position laid in the walk's record, and its answer
abbrev pub put_step : ℕ → WalkPlace → List ℕ → List ℕ → ℕ × List ℕ × List ℕ
put_step p a walk s = (a.no, laid (p ∷ []) walk, laid (step_numbers a) s)

abbrev pub put_stepped : Stepped → List ℕ → List ℕ → ℕ × List ℕ × List ℕ
put_stepped x = put_step x.walk.p x.answer

-- an element's state laid, and its amplitudes
abbrev pub put_element : ElementNumbers → List ℕ → List Float → ℕ × List ℕ × List Float
put_element a s amplitudes = (a.no, laid (element_columns a) s, laid (element_amplitudes a) amplitudes)
