-- DEMAND 3 of every accepted grant, on every cell and any buffers, and what is promised beside it.
use Rattle.std.specs.Prelude.{Bool, true, false, not, ◌&&◌, List, ◌↔◌, ◌≡◌, ℕ, ◌*◌, ◌≤◌, ◌<◌, eqb, Float}
use Rattle.counting.specs.Counting.{rank}
use Rattle.grid.specs.Grid.{elements, uplink_subcarriers}
use Rattle.grid.specs.Tables.{entry, lengths, downlink_copies, uplink_copies}
use Rattle.cell.specs.declared.Cell.{Cell}
use Rattle.cell.specs.declared.Cause.{Cause}
use Rattle.cell.specs.declared.Cause.TheVariants.{None}
use Rattle.cell.specs.Bitmap.{bitmap_of}
use Rattle.cell.specs.Usable.{period, why, usable, cause_number, none}
use Rattle.cell.specs.Judge.{judge_of, in_force_of, cause_of}
use Rattle.npdcch.specs.Ncce.{first_subcarrier, used_subcarriers}
use Rattle.elements.specs.Elements.{reference, control_region, eligible, count_of}
use Rattle.uplink.specs.Mapping as uplink
use Rattle.sending.specs.Sending as sending
use Rattle.sending.specs.Answer.{back_of}
use Rattle.nprach.specs.declared.Windows.{Windows}
use Rattle.nprach.specs.declared.Window.{Window}
use Rattle.nprach.specs.Windows.{is_listed, overlaps}
use Rattle.nprach.specs.Meaning.{Meeting}
use Rattle.downlink.specs.declared.DownlinkPlan.{DownlinkPlan}
use Rattle.downlink.specs.declared.DownlinkBack.{DownlinkBack}
use Rattle.cell.specs.Layout.{layout_of, element_count_of}
use Rattle.downlink.specs.Mapping as downlink
use Rattle.npusch.specs.declared.NpuschGrant.{NpuschGrant}
use Rattle.npusch.specs.Fields.{first_tone, unit_slots}
use Rattle.npusch.specs.Shaping.{shape_of, open_of, grant_tones}
use Rattle.npusch.specs.Questions as npusch
use Rattle.harq_ack.specs.declared.HarqAckGrant.{HarqAckGrant}
use Rattle.harq_ack.specs.Fields.{tone_of}
use Rattle.harq_ack.specs.Shaping as ack_shaping
use Rattle.harq_ack.specs.Questions as ack
use Rattle.npdsch.specs.declared.NpdschGrant.{NpdschGrant}
use Rattle.npdsch.specs.Questions as npdsch
use Rattle.npdcch.specs.declared.NpdcchGrant.{NpdcchGrant}
use Rattle.npdcch.specs.Questions as npdcch
use Rattle.search_space.specs.Promised.{SearchPromises}
use Rattle.symbol.specs.Outgoing.{numbers_of}
use Rattle.transmitted.specs.Refusals.{element_refusal}
use Rattle.transmitted.specs.Element.{element_answer}
use Rattle.walk.specs.declared.Walk.{Walk}
use Rattle.walk.specs.Step.{asked_of}
use Rattle.walk.specs.Course.{Course}
use Rattle.promises.specs.Demand.{Answers, Granted, Demand}
use Rattle.promises.specs.Grids.{SubframePlace, downlink_grid, downlink_answers, uplink_grid, uplink_answers}
use Rattle.promises.specs.Broadcast.{BroadcastPromises}
use Rattle.promises.specs.Further.{KeepsClear, InForce, MessagesLaid, CauseTold, ElementTold, KindsTold}

-- ---- 5., of downlink grants

-- the bitmap alone makes a subframe unusable: it withholds it
abbrev pub withholds : Cause → Bool
withholds cause = eqb (cause_number cause) 6

-- anything but the bitmap does: synchronization or broadcast takes it
abbrev pub takes : Cause → Bool
takes cause = not (none cause) && not (withholds cause)

-- a place is no reference element, not in the control region, in no subframe that is taken, and in none that the
-- bitmap withholds
pub record Clear (c : Cell) (bitmap : List ℕ) (x : SubframePlace) : Type 0 where
  pub no_reference : reference (layout_of c.config) x.l x.k ≡ false
  pub no_control : control_region (layout_of c.config) x.slot x.l ≡ false
  pub not_taken : takes (why c bitmap x.t) ≡ false
  pub not_withheld : withholds (why c bitmap x.t) ≡ false

pub record DownlinkDemand (c : Cell) (bitmap : List ℕ) (g : Granted) (a : Answers SubframePlace) : Type 0 where
  -- 1. to 4.
  pub demand : Demand downlink_grid g a
  -- 5. Every place is clear of what is not the grant's.
  pub clear : (p : ℕ) → p < a.places → Clear c bitmap (a.forward p).place

-- ---- the cause that backward hands on, of every question, refused ones too (their plan has first 0 and last 0)

pub record HandsOn (c : Cell) (anchor other : List ℕ) (plan : DownlinkPlan)
    (backward : SubframePlace → DownlinkBack) : Type 0 where
  -- Inside the grid and strictly between the first and the last subframe it is what the question of the cause answers.
  pub between : (x : SubframePlace) → downlink_grid.Inside x → plan.first < x.t → x.t < plan.last
      → (backward x).cause ≡ (cause_of c anchor other x.t).cause
  -- Its number there is 0 exactly where the subframe is usable.
  pub numbered : (x : SubframePlace) → downlink_grid.Inside x → plan.first < x.t → x.t < plan.last
      → (cause_number (backward x).cause ≡ 0) ↔ (usable c (bitmap_of c anchor other) x.t ≡ true)
  -- Elsewhere there is none.
  pub early : (x : SubframePlace) → x.t ≤ plan.first → (backward x).cause ≡ None
  pub late : (x : SubframePlace) → plan.last ≤ x.t → (backward x).cause ≡ None
  pub outside : (x : SubframePlace) → (downlink_grid.Inside x → ⊥) → (backward x).cause ≡ None
  -- Beside a cause stands: not refused, not ours, kind 0.
  pub beside : (x : SubframePlace) → ((backward x).cause ≡ None → ⊥) → (backward x).back ≡ back_of (sending.not_ours 0)

-- backward by a place
abbrev pub by_place : (ℕ → ℕ → ℕ → ℕ → DownlinkBack) → SubframePlace → DownlinkBack
by_place backward x = backward x.t x.slot x.l x.k

-- ---- what is granted: R and the codeword's symbols from fields, tables and the cell, and the sending

-- E: the eligible elements of a subframe
abbrev pub eligible_count : Cell → ℕ
eligible_count c = rank (eligible (layout_of c.config)) elements

-- N·E symbols
abbrev pub downlink_granted : Cell → List ℕ → NpdschGrant → Granted
downlink_granted c bitmap g = record {
  copies = entry downlink_copies g.copies;
  symbols = entry lengths g.subframes * eligible_count c;
  sending = downlink.sending_of (usable c bitmap) period (npdsch.burst_of c.config g);
}

-- as many symbols as the eligible elements that are used in a subframe, those of one NCCE or of both
abbrev pub control_granted : Cell → List ℕ → NpdcchGrant → Granted
control_granted c bitmap g = record {
  copies = g.r;
  symbols = count_of (layout_of c.config) (first_subcarrier g.format g.ncce) (used_subcarriers g.format);
  sending = downlink.sending_of (usable c bitmap) period (npdcch.burst_of c.config g);
}

-- N times the granted tones times the l that carry data in a slot, six of seven; N is units times slots in a unit
abbrev pub uplink_granted : NpuschGrant → Windows → Granted
uplink_granted g ws = record {
  copies = entry uplink_copies g.copies;
  symbols = entry lengths g.units * unit_slots (grant_tones g) * (grant_tones g * 6);
  sending = uplink.sending_of (shape_of g) (open_of g ws);
}

-- an acknowledgement: 4 slots of one tone, and of the seven l of a slot four carry data
abbrev pub ack_granted : HarqAckGrant → Windows → Granted
ack_granted g ws = record {
  copies = entry uplink_copies g.copies;
  symbols = 4 * 4;
  sending = uplink.sending_of (ack_shaping.shape_of g) (ack_shaping.open_of g ws);
}

-- ---- the promises

pub record Promises : Type 0 where
  -- NPUSCH
  pub uplink : (g : NpuschGrant) (ws : Windows) → (npusch.plan_of g ws).no ≡ 0
      → Demand (uplink_grid (uplink_subcarriers g.spacing)) (uplink_granted g ws)
      (uplink_answers (npusch.plan_of g ws) (npusch.forward_of g ws) (npusch.backward_of g ws))
  -- acknowledgements
  pub acknowledgement : (g : HarqAckGrant) (ws : Windows) → (ack.plan_of g ws).no ≡ 0
      → Demand (uplink_grid (uplink_subcarriers g.spacing)) (ack_granted g ws)
      (uplink_answers (ack.plan_of g ws) (ack.forward_of g ws) (ack.backward_of g ws))
  -- no place of either is in a group that meets a random access window in time and tone: 02 L4
  pub uplink_clear : (g : NpuschGrant) (ws : Windows) → (npusch.plan_of g ws).no ≡ 0 → (p : ℕ)
      → p < (npusch.plan_of g ws).places
      → KeepsClear g.spacing (first_tone g.spacing g.subcarrier) (grant_tones g) ws
      (npusch.forward_of g ws p).slot
  pub ack_clear : (g : HarqAckGrant) (ws : Windows) → (ack.plan_of g ws).no ≡ 0
      → (p : ℕ) → p < (ack.plan_of g ws).places
      → KeepsClear g.spacing (tone_of g.spacing g.field) 1 ws (ack.forward_of g ws p).slot
  -- the test of a group that the answers read is such a meeting, for every window that is listed
  pub meeting : (ms : ℕ) (w : Window) (u : ℕ) → is_listed w ≡ true → (overlaps ms w u ≡ true) ↔ Meeting ms w u
  -- NPDSCH
  pub downlink : (c : Cell) (anchor other : List ℕ) (g : NpdschGrant) → (npdsch.plan_of c anchor other g).no ≡ 0
      → DownlinkDemand c (bitmap_of c anchor other) (downlink_granted c (bitmap_of c anchor other) g)
      (downlink_answers (npdsch.plan_of c anchor other g) (npdsch.forward_of c anchor other g)
      (npdsch.backward_of c anchor other g))
  -- NPDCCH
  pub control : (c : Cell) (anchor other : List ℕ) (g : NpdcchGrant) → (npdcch.plan_of c anchor other g).no ≡ 0
      → DownlinkDemand c (bitmap_of c anchor other) (control_granted c (bitmap_of c anchor other) g)
      (downlink_answers (npdcch.plan_of c anchor other g) (npdcch.forward_of c anchor other g)
      (npdcch.backward_of c anchor other g))
  -- the cause, NPDSCH and NPDCCH
  pub downlink_cause : (c : Cell) (anchor other : List ℕ) (g : NpdschGrant)
      → HandsOn c anchor other (npdsch.plan_of c anchor other g) (by_place (npdsch.backward_of c anchor other g))
  pub control_cause : (c : Cell) (anchor other : List ℕ) (g : NpdcchGrant)
      → HandsOn c anchor other (npdcch.plan_of c anchor other g) (by_place (npdcch.backward_of c anchor other g))
  -- NPBCH and SIB1
  pub broadcast : BroadcastPromises
  -- where NPDCCH may start: the start, the candidates, and the plan of each
  pub search : SearchPromises
  -- E, of every accepted cell: how many elements of a subframe are eligible
  pub count : (c : Cell) (anchor other : List ℕ) → judge_of c anchor other ≡ 0
      → element_count_of c anchor other ≡ record { no = 0; e = eligible_count c }
  -- a walk of any accepted grant from position 0 runs its whole course
  pub course : (w : Walk) (anchor other : List ℕ) → w.p ≡ 0 → (asked_of w anchor other).no ≡ 0
      → Course w anchor other (asked_of w anchor other)
  -- the bitmap in force
  pub in_force : (c : Cell) (anchor other : List ℕ)
      → InForce c (judge_of c anchor other) anchor other (in_force_of c anchor other)
  -- the messages of an accepted cell
  pub messages : (c : Cell) (anchor other : List ℕ) → judge_of c anchor other ≡ 0
      → MessagesLaid c (bitmap_of c anchor other)
  -- the question of the cause, at any subframe
  pub cause : (c : Cell) (anchor other : List ℕ) (t : ℕ)
      → CauseTold (judge_of c anchor other) (usable c (bitmap_of c anchor other) t ≡ true) (cause_of c anchor other t)
  -- the kinds that are answered
  pub kinds : KindsTold
  -- one element of transmitted subframe i of an NPDSCH, which goes out where forward has its first place
  pub element : (c : Cell) (anchor other : List ℕ) (g : NpdschGrant) (i slot l k : ℕ) (bits : List ℕ) (level : Float)
      → ElementTold (element_refusal c anchor other g i slot l k bits level)
      (npdsch.backward_of c anchor other g
      (npdsch.forward_of c anchor other g (i * eligible_count c)).t slot l k).back bits level
      (numbers_of (element_answer c anchor other g i slot l k bits level))
