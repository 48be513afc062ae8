-- Which kinds are answered: at most 2, in the uplink at most 1.
use mathlib.Core.Bool.{Bool, true, false, cond, ◌&&◌}
use mathlib.Core.List.{List}
use mathlib.Core.Logic.{◌⊎◌, inl, inr}
use mathlib.Core.Path.{◌≡◌, refl}
use Prim.Native.Nat.{ℕ, ◌≤◌}
use native.Mathlib.Omega.{arith}
use lib.Dec.{eqb}
use lib.Ieee.{Float}
use mir.Val.{bool_byte}
use Rattle.grid.specs.Grid.{element_of, uplink_element_of}
use Rattle.cell.specs.declared.Cell.{Cell}
use Rattle.cell.specs.declared.Cause.{Cause}
use Rattle.cell.specs.Usable.{period, usable}
use Rattle.sending.specs.declared.Back.{Back}
use Rattle.sending.specs.Sending.{Sending, ours, not_ours}
use Rattle.sending.specs.Answer.{Question, refused_back, back_at, backward_by}
use Rattle.sending.proofs.Answer.{answer_all, kind_most}
use Rattle.elements.specs.Elements.{kind_of}
use Rattle.elements.proofs.Laws.{never_both_lem, kind_small}
use Rattle.uplink.specs.declared.Shape.{Shape}
use Rattle.uplink.specs.Elements.{carries_reference}
use Rattle.uplink.specs.Timing as timing
use Rattle.uplink.specs.Mapping as mapping
use Rattle.uplink.specs.Answers as uplink
use Rattle.uplink.specs.Scaffold as uplink_scaffold
use Rattle.downlink.specs.declared.Burst.{Burst}
use Rattle.downlink.specs.declared.DownlinkBack.{DownlinkBack}
use Rattle.downlink.specs.Mapping.{is_sent, sending_of}
use Rattle.downlink.specs.Answers.{inside_grid, refused_why, back_why, back_answer}
use Rattle.npusch.specs.Shaping as npusch_shaping
use Rattle.npusch.specs.Questions as npusch
use Rattle.harq_ack.specs.Shaping as ack_shaping
use Rattle.harq_ack.specs.Questions as ack
use Rattle.npdsch.specs.declared.NpdschGrant.{NpdschGrant}
use Rattle.npdsch.specs.Questions as npdsch
use Rattle.npdcch.specs.Questions as npdcch
use Rattle.broadcast.specs.Questions as broadcast
use Rattle.symbol.specs.declared.Element.{Element}
use Rattle.symbol.specs.Outgoing.{answer_of, numbers_of}
use Rattle.transmitted.specs.GoesOut.{goes_out, outgoing_of}
use Rattle.transmitted.specs.Scaffold.{sending_for}
use Rattle.transmitted.specs.Refusals.{element_refusal}
use Rattle.transmitted.specs.Element.{element_answer}
use Rattle.promises.specs.Further.{KindsTold}
use Rattle.cell.specs.Bitmap.{bitmap_of}
use Rattle.promises.proofs.Further.{kind_numbers}

-- ---- a sending's kinds

burst_kinds : (u : ℕ → Bool) (P : ℕ) (b : Burst) (t x : ℕ) → (sending_of u P b).kind t x ≤ 2
burst_kinds u P b t x = by (is_sent u P b t)
  where
    by : (s : Bool) → cond s (kind_of b.layout x) 0 ≤ 2
    by true = kind_small b.layout x
    by false = omega arith

sent_kinds : (c : Cell) (anchor other : List ℕ) (b : Burst) (t x : ℕ) → (sending_of (usable c (bitmap_of c anchor other)) period b).kind t x ≤ 2
sent_kinds c anchor other = burst_kinds (usable c (bitmap_of c anchor other)) period

slot_kinds : (s : Shape) (is_open : ℕ → Bool) (slot x : ℕ) → (mapping.sending_of s is_open).kind slot x ≤ 1
slot_kinds s is_open slot x = by (timing.is_sent s is_open slot && carries_reference s x)
  where
    by : (b : Bool) → bool_byte b ≤ 1
    by true = omega arith
    by false = omega arith

-- ---- backward

module _ (q : Question) where
  downlink_kind : ((t x : ℕ) → q.sending.kind t x ≤ 2) → (why : ℕ → Cause) (t slot l k : ℕ) → (back_answer q why t slot l k).back.kind ≤ 2
  unfolding back_why
  downlink_kind h why t slot l k =
      answer_all refused_why (λ (r : DownlinkBack). r.back.kind ≤ 2) (λ m. omega arith) q.no (back_why q.sending why t slot l k)
      (kind_most q.sending 2 h (inside_grid slot l k) t (element_of slot l k))

  uplink_kind : ((t x : ℕ) → q.sending.kind t x ≤ 1) → (T slot l k : ℕ) → (uplink.backward_answer T q slot l k).kind ≤ 1
  uplink_kind h T slot l k =
      answer_all refused_back (λ (r : Back). r.kind ≤ 1) (λ m. omega arith) q.no (uplink_scaffold.back_in T q.sending slot l k)
      (kind_most q.sending 1 h (uplink.inside_grid T l k) slot (uplink_element_of T l k))

  channel_kind : ((t x : ℕ) → q.sending.kind t x ≤ 2) → (inside : Bool) (t x : ℕ) → (backward_by q inside t x).kind ≤ 2
  channel_kind h inside t x =
      answer_all refused_back (λ (r : Back). r.kind ≤ 2) (λ m. omega arith) q.no (back_at q.sending inside t x)
      (kind_most q.sending 2 h inside t x)

-- ---- one element

abbrev Stated : ℕ → Type 0
Stated s = (s ≤ 2) ⊎ (s ≡ 4)

content_state : (bits : List ℕ) (level : Float) (b : Bool) (s p kind : ℕ) → kind ≤ 2
    → Stated (numbers_of (answer_of bits level (goes_out (cond b (ours s p) (not_ours kind))))).state
content_state bits level true s p kind h = inr refl
content_state bits level false s p kind h = rw (kind_numbers bits level kind) (inl h)

element_state : (c : Cell) (anchor other : List ℕ) (g : NpdschGrant) (i slot l k : ℕ) (bits : List ℕ) (level : Float)
    → Stated (numbers_of (element_answer c anchor other g i slot l k bits level)).state
unfolding element_answer outgoing_of
element_state c anchor other g i slot l k bits level = by (eqb (element_refusal c anchor other g i slot l k bits level) 0)
  where
    S : Sending
    S = sending_for c anchor other g

    x : ℕ
    x = element_of slot l k

    by : (b : Bool) → Stated
        (numbers_of
        (cond b (answer_of bits level (outgoing_of c anchor other g i x))
        (Element.Refused (element_refusal c anchor other g i slot l k bits level)))).state
    by true = content_state bits level (S.sent (S.time i) && S.used x) _ _ (S.kind (S.time i) x) (sent_kinds c anchor other (npdsch.burst_of c.config g) (S.time i) x)
    by false = inl (omega arith)

pub kinds_told : KindsTold
unfolding npusch.backward_of ack.backward_of npdsch.backward_of npdcch.backward_of broadcast.backward_of
kinds_told = record {
  never_both = never_both_lem;
  uplink = λ g ws slot l k. uplink_kind (npusch.question_of g ws) (slot_kinds (npusch_shaping.shape_of g) (npusch_shaping.open_of g ws)) _ slot l k;
  acknowledgement = λ g ws slot l k. uplink_kind (ack.question_of g ws) (slot_kinds (ack_shaping.shape_of g) (ack_shaping.open_of g ws)) _ slot l k;
  downlink = λ c anchor other g t slot l k. downlink_kind (npdsch.question_of c anchor other g) (sent_kinds c anchor other (npdsch.burst_of c.config g)) _ t slot l k;
  control = λ c anchor other g t slot l k. downlink_kind (npdcch.question_of c anchor other g) (sent_kinds c anchor other (npdcch.burst_of c.config g)) _ t slot l k;
  broadcast = λ c anchor other channel t slot l k.
      channel_kind (broadcast.question_of c anchor other channel) (burst_kinds channel.is_own channel.period channel.burst) _ _ _;
  element = element_state;
}
