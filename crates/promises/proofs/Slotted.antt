-- DEMAND 3 of every accepted uplink grant: each kind is a shape.
use mathlib.Core.Bool.{Bool, true}
use mathlib.Core.Path.{◌≡◌, refl, ap, ◌∙◌, subst⁻¹}
use mathlib.Core.Logic.{inl, inr, ⊎_elim}
use Prim.Native.Nat.{ℕ, ◌*◌, ◌/◌, ◌%◌, ◌≤◌, ◌<◌}
use native.Mathlib.Nat.{mul_comm, mod-lt, div-add-mod'}
use native.Mathlib.Omega.{arith}
use borrow.Author.Tests.{lt-ltb}
use Rattle.counting.proofs.Facts.{order, both, div_mono}
use Rattle.grid.specs.Grid.{symbols, uplink_subcarriers, uplink_element_of}
use Rattle.grid.proofs.Numbering.{uplink_of_parts, uplink_symbol_of_lem, uplink_subcarrier_of_lem}
use Rattle.sending.specs.Answer.{Question, extent_of}
use Rattle.sending.proofs.Answer.{accepts, answer_map, forward_map}
use Rattle.uplink.specs.declared.Shape.{Shape}
use Rattle.uplink.specs.declared.UplinkPlan.{UplinkPlan}
use Rattle.uplink.specs.Fits.{Fits, OpenRepeats}
use Rattle.uplink.specs.Timing.{group_at}
use Rattle.uplink.specs.Elements.{slot_data, element_at}
use Rattle.uplink.specs.Mapping.{sending_of}
use Rattle.uplink.specs.Answers.{refused_plan, plan_shown, refused_place, place_of, inside_grid, plan_answer, forward_answer, backward_answer}
use Rattle.uplink.proofs.Joined.{sent_open}
use Rattle.uplink.proofs.Lines.{slot_data_lem, elements_listed, data_parts, data_symbol_parts}
use Rattle.uplink.proofs.Lawfulness.{lawful}
use Rattle.nprach.specs.declared.Windows.{Windows}
use Rattle.npusch.specs.declared.NpuschGrant.{NpuschGrant}
use Rattle.npusch.specs.Fields.{first_tone}
use Rattle.npusch.specs.Refusals.{refusal}
use Rattle.npusch.specs.Shaping.{grant_tones, grant_size, grant_order, shape_of, open_of}
use Rattle.npusch.specs.Questions.{plan_of, forward_of, backward_of}
use Rattle.npusch.proofs.Acceptance as acceptance
use Rattle.npusch.proofs.Acceptance.{fits, opens}
use Rattle.harq_ack.specs.declared.HarqAckGrant.{HarqAckGrant}
use Rattle.harq_ack.specs.Fields.{tone_of}
use Rattle.harq_ack.specs.Refusals as ack_refusals
use Rattle.harq_ack.specs.Shaping as ack_shaping
use Rattle.harq_ack.specs.Questions as ack
use Rattle.harq_ack.proofs.Accepting as ack_accepting
use Rattle.promises.specs.Demand.{Answers, Demand, FirstBy}
use Rattle.promises.specs.Grids.{SlotPlace, uplink_grid, uplink_columns, uplink_answers}
use Rattle.promises.specs.Further.{KeepsClear}
use Rattle.promises.specs.Promises.{uplink_granted, ack_granted}
use Rattle.promises.specs.Scaffold.{data_symbols, ack_data_symbols}
use Rattle.promises.proofs.Bridge.{Numbered, answers_by, Sends, at_places, demand}
use Rattle.promises.proofs.Further.{keeps_clear}

-- ---- the grid

-- a larger element has a later symbol, or the same symbol and a later subcarrier
slot_further : (T x y : ℕ) → 0 < T → x < y → FirstBy (x / T) (y / T) (x % T < y % T)
slot_further T x y h l = ⊎_elim inl same (order (x / T) (y / T))
  where
    same : y / T ≤ x / T → FirstBy (x / T) (y / T) (x % T < y % T)
    same w =
        let e : x / T ≡ y / T = omega (arith, div_mono x y T h (omega arith)) in
        inr (e, omega (arith, ap (λ (q : ℕ). q * T) e, div-add-mod' x T, div-add-mod' y T))

uplink_numbered : (T : ℕ) → 0 < T → Numbered (uplink_grid T)
uplink_numbered T h = record {
  time = λ x. x.slot;
  element = λ x. uplink_element_of T x.l x.k;
  timed = λ t x. refl;
  numbered = λ t x. uplink_of_parts T x;
  back = λ x i. λ j. record {
    slot = x.slot;
    l = uplink_symbol_of_lem T x.l x.k i.1 j;
    k = uplink_subcarrier_of_lem T x.l x.k i.1 j;
  };
  is_inside = λ x. inside_grid T x.l x.k;
  inside_is = λ x i. both _ _ (lt-ltb x.l symbols i.0) (lt-ltb x.k T i.1);
  later = λ t t' x x' l. inl l;
  further = λ t x x' l. inr (refl, slot_further T x x' h l);
}

-- the uplink's answers to a question are in its columns
uplink_are : (T size order : ℕ) (h : 0 < T) (q : Question)
    → uplink_answers (plan_answer size order q) (forward_answer T q) (backward_answer T q) ≡ answers_by (uplink_grid T) (uplink_numbered T h) q
unfolding uplink_numbered
uplink_are T size order h q = λ i. record {
  places = answer_map (λ (x : UplinkPlan). x.places) refused_plan q.no (plan_shown size order (extent_of q.sending)) i;
  forward = λ p. forward_map uplink_columns refused_place (place_of T) q p i;
  backward = λ x. backward_answer T q x.slot x.l x.k;
}

-- ---- a shape: any kind of uplink grant

module _ (s : Shape) (is_open : ℕ → Bool) (f : Fits s) (o : OpenRepeats s is_open) where
  shape_sends : Sends (uplink_grid s.subcarriers) (sending_of s is_open) s.codeword s.copies
  shape_sends = record {
    lawful = lawful s is_open f o;
    units = f.codeword;
    copies = f.copies;
    inside = λ i e k h. (
      (data_symbol_parts s f _ (data_parts s f _ ((elements_listed s f).passes e h)).0).0,
      mod-lt (element_at s e) (omega (arith, f.tones, f.within_tones)),
    );
  }

module _ (refusal : ℕ) (s : Shape) (is_open : ℕ → Bool) (fit : refusal ≡ 0 → Fits s) (left : refusal ≡ 0 → OpenRepeats s is_open)
    (size order : ℕ) where
  abbrev q : Question
  q = record { no = refusal; sending = sending_of s is_open }

  abbrev answers : Answers SlotPlace
  answers = uplink_answers (plan_answer size order q) (forward_answer s.subcarriers q) (backward_answer s.subcarriers q)

  module _ (h : (plan_answer size order q).no ≡ 0) where
    zero : refusal ≡ 0
    zero = accepts refused_plan (λ x. x.no) (λ m. refl) refusal _ refl h

    some_tones : 0 < s.subcarriers
    some_tones = omega (arith, (fit zero).tones, (fit zero).within_tones)

    pub question_demand : (copies symbols : ℕ) → copies ≡ s.copies → (refusal ≡ 0 → symbols ≡ s.codeword * slot_data s)
        → Demand (uplink_grid s.subcarriers) (record { copies = copies; symbols = symbols; sending = sending_of s is_open }) answers
    question_demand copies symbols R N =
        subst⁻¹ (Demand (uplink_grid s.subcarriers) _) (uplink_are s.subcarriers size order some_tones q)
        (demand (uplink_grid s.subcarriers) (uplink_numbered _ some_tones) q zero _ _
        (shape_sends s is_open (fit zero) (left zero)) copies symbols R (N zero))

    -- every place is in a group that is open
    pub question_open : (p : ℕ) → p < answers.places → is_open (group_at s (answers.forward p).place.slot) ≡ true
    question_open =
        subst⁻¹ (λ (a : Answers SlotPlace). (p : ℕ) → p < a.places → is_open (group_at s (a.forward p).place.slot) ≡ true)
        (uplink_are s.subcarriers size order some_tones q)
        (at_places (uplink_grid s.subcarriers) (uplink_numbered _ some_tones) q zero _ _ (shape_sends s is_open (fit zero) (left zero))
        (λ x. is_open (group_at s x.slot) ≡ true)
        (λ i e l m. sent_open s is_open _ ((lawful s is_open (fit zero) (left zero)).units.passes i l)))

-- ---- NPUSCH

-- six data symbols on each tone
six_each : (g : NpuschGrant) (ws : Windows) → refusal g ws ≡ 0 → grant_tones g * data_symbols ≡ slot_data (shape_of g)
unfolding shape_of
six_each g ws e = mul_comm (grant_tones g) data_symbols ∙ slot_data_lem (shape_of g) (fits g ws e)

module _ (g : NpuschGrant) (ws : Windows) (h : (plan_of g ws).no ≡ 0) where
  pub uplink_demand : Demand (uplink_grid (uplink_subcarriers g.spacing)) (uplink_granted g ws)
      (uplink_answers (plan_of g ws) (forward_of g ws) (backward_of g ws))
  unfolding shape_of plan_of forward_of backward_of
  uplink_demand =
      question_demand (refusal g ws) (shape_of g) (open_of g ws) (fits g ws) (opens g ws) (grant_size g) (grant_order g) h _ _ refl
      (λ e. ap (λ (w : ℕ). (shape_of g).codeword * w) (six_each g ws e))

  pub uplink_clear_lem : (p : ℕ) → p < (plan_of g ws).places
      → KeepsClear g.spacing (first_tone g.spacing g.subcarrier) (grant_tones g) ws (forward_of g ws p).slot
  unfolding shape_of plan_of forward_of
  uplink_clear_lem p l =
      let e = zero (refusal g ws) (shape_of g) (open_of g ws) (fits g ws) (opens g ws) (grant_size g) (grant_order g) h in
      keeps_clear g.spacing _ _ ws (acceptance.accepted g ws e).windows _
      (question_open (refusal g ws) (shape_of g) (open_of g ws) (fits g ws) (opens g ws) (grant_size g) (grant_order g) h p l)

-- ---- acknowledgements

-- four data symbols on the tone
four_each : (g : HarqAckGrant) (ws : Windows) → ack_refusals.refusal g ws ≡ 0 → ack_data_symbols ≡ slot_data (ack_shaping.shape_of g)
unfolding ack_shaping.shape_of
four_each g ws e = slot_data_lem (ack_shaping.shape_of g) (ack_accepting.fits g ws e)

module _ (g : HarqAckGrant) (ws : Windows) (h : (ack.plan_of g ws).no ≡ 0) where
  pub ack_demand : Demand (uplink_grid (uplink_subcarriers g.spacing)) (ack_granted g ws)
      (uplink_answers (ack.plan_of g ws) (ack.forward_of g ws) (ack.backward_of g ws))
  unfolding ack_shaping.shape_of ack.plan_of ack.forward_of ack.backward_of
  ack_demand =
      question_demand (ack_refusals.refusal g ws) (ack_shaping.shape_of g) (ack_shaping.open_of g ws) (ack_accepting.fits g ws)
      (ack_accepting.opens g ws) 1 1 h _ _ refl
      (λ e. ap (λ (w : ℕ). 4 * w) (four_each g ws e))

  pub ack_clear_lem : (p : ℕ) → p < (ack.plan_of g ws).places
      → KeepsClear g.spacing (tone_of g.spacing g.field) 1 ws (ack.forward_of g ws p).slot
  unfolding ack_shaping.shape_of ack.plan_of ack.forward_of
  ack_clear_lem p l =
      let e = zero (ack_refusals.refusal g ws) (ack_shaping.shape_of g) (ack_shaping.open_of g ws) (ack_accepting.fits g ws)
      (ack_accepting.opens g ws) 1 1 h in
      keeps_clear g.spacing _ _ ws (ack_accepting.accepted g ws e).windows _
      (question_open (ack_refusals.refusal g ws) (ack_shaping.shape_of g) (ack_shaping.open_of g ws) (ack_accepting.fits g ws)
      (ack_accepting.opens g ws) 1 1 h p l)
