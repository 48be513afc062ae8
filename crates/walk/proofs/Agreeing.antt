-- Plan and forward agree on a grant: forward refuses what plan refuses, answers below plan's places, and gives 14 from there on.
use mathlib.Core.List.{List}
use mathlib.Core.Path.{◌≡◌, refl, ap, ◌∙◌, subst⁻¹}
use Prim.Native.Nat.{ℕ, ◌^◌, ◌≤◌, ◌<◌}
use native.Mathlib.Nat.{mul-le-mul, le_of_lt}
use native.Mathlib.Omega.{arith}
use Rattle.counting.proofs.Facts.{chained}
use Rattle.grid.specs.Grid.{uplink_subcarriers}
use Rattle.sending.specs.Sending.{places_of, Spot}
use Rattle.sending.specs.Answer.{Question, extent_of, plan_by, forward_by}
use Rattle.sending.proofs.Answer.{accepted, number_of, forward_refused, forward_inside, forward_past, answer_map, forward_map}
use Rattle.elements.proofs.Laws.{count_le}
use Rattle.cell.specs.declared.Cell.{Cell}
use Rattle.cell.specs.Judge.{judge_of}
use Rattle.cell.specs.Quick.{WellFormed}
use Rattle.uplink.specs.declared.Shape.{Shape}
use Rattle.uplink.specs.declared.UplinkPlan.{UplinkPlan}
use Rattle.uplink.specs.Fits as uplink_fits
use Rattle.uplink.specs.Answers as uplink
use Rattle.uplink.specs.Scaffold as uplink_scaffold
use Rattle.uplink.proofs.Joined as uplink_joined
use Rattle.uplink.proofs.Lines.{slot_data_small}
use Rattle.downlink.specs.declared.Burst.{Burst}
use Rattle.downlink.specs.declared.DownlinkPlan.{DownlinkPlan}
use Rattle.downlink.specs.Fits.{Fits}
use Rattle.downlink.specs.Mapping.{places}
use Rattle.downlink.specs.Answers as downlink
use Rattle.downlink.specs.Cells.{question_refusal, question_on}
use Rattle.downlink.proofs.Joined.{sent_small, places_small}
use Rattle.downlink.proofs.Judging.{accepted_cell}
use Rattle.npusch.specs.Shaping as up_shaping
use Rattle.npusch.specs.Questions as up
use Rattle.npusch.proofs.Acceptance as up_acceptance
use Rattle.harq_ack.specs.Shaping as ack_shaping
use Rattle.harq_ack.specs.Questions as ack
use Rattle.harq_ack.proofs.Accepting as ack_accepting
use Rattle.npdsch.specs.Questions as down
use Rattle.npdsch.specs.Refusals as down_refusals
use Rattle.npdsch.proofs.Accepting as down_accepting
use Rattle.npdcch.specs.Questions as control
use Rattle.npdcch.specs.Refusals as control_refusals
use Rattle.npdcch.proofs.Accepting as control_accepting
use Rattle.walk.specs.declared.Grant.{Grant}
use Rattle.walk.specs.declared.Grant.TheVariants.{Npusch, HarqAck, Npdsch, Npdcch}
use Rattle.walk.specs.declared.WalkPlace.{WalkPlace}
use Rattle.walk.specs.Step.{from_uplink, from_downlink, refused_step, Asked, asked}

pub record Agrees (q : Asked) : Type 0 where
  pub refused : (p : ℕ) → (q.no ≡ 0 → ⊥) → q.at p ≡ refused_step q.no
  pub inside : (p : ℕ) → q.no ≡ 0 → p < q.places → (q.at p).no ≡ 0
  pub past : (p : ℕ) → q.no ≡ 0 → q.places ≤ p → q.at p ≡ refused_step 14
  -- a position below the total has a next one
  pub small : q.no ≡ 0 → q.places < 2 ^ 63

-- ---- any question: its number, plan's places, and forward in the columns of a step

module _ (shown : Spot → WalkPlace) (shownAt : (s : Spot) → (shown s).no ≡ 0) (q : Question)
    (small : q.no ≡ 0 → places_of q.sending < 2 ^ 63) where
  abbrev by_question : Asked
  by_question = record { no = q.no; places = plan_by (λ n. 0) (λ x. x.places) q; at = forward_by refused_step shown q }

  total : q.no ≡ 0 → by_question.places ≡ places_of q.sending
  total z = accepted (λ n. 0) q.no _ z

  question_agrees : Agrees by_question
  question_agrees = record {
    refused = λ p n. forward_refused refused_step shown q p n;
    inside = λ p z h. ap (λ (a : WalkPlace). a.no) (forward_inside refused_step shown q p z (omega (arith, total z))) ∙ shownAt _;
    past = λ p z h. forward_past refused_step shown q p z (omega (arith, total z));
    small = λ z. omega (arith, total z, small z);
  }

-- of each link: the answers shown further
uplink_agrees : (T size order : ℕ) (q : Question) → (q.no ≡ 0 → places_of q.sending < 2 ^ 63)
    → Agrees (record { no = (uplink.plan_answer size order q).no; places = (uplink.plan_answer size order q).places; at = λ p. from_uplink (uplink.forward_answer T q p) })
uplink_agrees T size order q small =
    subst⁻¹ Agrees (λ i. record {
      no = number_of uplink.refused_plan (λ x. x.no) (λ n. refl) q.no (uplink.plan_shown size order (extent_of q.sending)) refl i;
      places = answer_map (λ (x : UplinkPlan). x.places) uplink.refused_plan q.no (uplink.plan_shown size order (extent_of q.sending)) i;
      at = λ p. forward_map from_uplink uplink.refused_place (uplink.place_of T) q p i;
    }) (question_agrees (λ s. from_uplink (uplink.place_of T s)) (λ s. refl) q small)

downlink_agrees : (q : Question) → (q.no ≡ 0 → places_of q.sending < 2 ^ 63)
    → Agrees (record { no = (downlink.plan_answer q).no; places = (downlink.plan_answer q).places; at = λ p. from_downlink (downlink.forward_answer q p) })
downlink_agrees q small =
    subst⁻¹ Agrees (λ i. record {
      no = number_of downlink.refused_plan (λ x. x.no) (λ n. refl) q.no (downlink.plan_shown (extent_of q.sending)) refl i;
      places = answer_map (λ (x : DownlinkPlan). x.places) downlink.refused_plan q.no (downlink.plan_shown (extent_of q.sending)) i;
      at = λ p. forward_map from_downlink downlink.refused_place downlink.place_of q p i;
    }) (question_agrees (λ s. from_downlink (downlink.place_of s)) (λ s. refl) q small)

-- their places are few
shape_small : (s : Shape) → uplink_fits.Fits s → uplink_scaffold.places s < 2 ^ 63
shape_small s f = omega (arith, mul-le-mul (le_of_lt (uplink_joined.sent_small s f)) (le_of_lt (slot_data_small s f)))

burst_small : (b : Burst) → Fits b → places b < 2 ^ 63
burst_small b f = omega (arith, places_small _ _ (sent_small b f) (count_le b.layout b.low b.width))

-- ---- any grant

module _ (c : Cell) (anchor other : List ℕ) where
  -- a question on a burst that fits where cell and grant are accepted
  burst_agrees : (grant : ℕ) (b : Burst) → (WellFormed c.config → grant ≡ 0 → Fits b)
      → Agrees (record {
        no = (downlink.plan_answer (question_on c anchor other grant b)).no;
        places = (downlink.plan_answer (question_on c anchor other grant b)).places;
        at = λ p. from_downlink (downlink.forward_answer (question_on c anchor other grant b) p);
      })
  unfolding question_refusal
  burst_agrees grant b fit =
      downlink_agrees (question_on c anchor other grant b)
      (λ e. let a = chained (judge_of c anchor other) grant e in burst_small b (fit (accepted_cell c anchor other a.0) a.1))

  pub agrees : (g : Grant) → Agrees (asked c anchor other g)
  unfolding asked up.plan_of up.forward_of ack.plan_of ack.forward_of down.plan_of down.forward_of control.plan_of control.forward_of
  agrees (Npusch g ws) =
      uplink_agrees (uplink_subcarriers g.spacing) _ _ (up.question_of g ws) (λ e. shape_small (up_shaping.shape_of g) (up_acceptance.fits g ws e))
  agrees (HarqAck g ws) =
      uplink_agrees (uplink_subcarriers g.spacing) _ _ (ack.question_of g ws) (λ e. shape_small (ack_shaping.shape_of g) (ack_accepting.fits g ws e))
  agrees (Npdsch g) = burst_agrees (down_refusals.grant_refusal g) (down.burst_of c.config g) (down_accepting.burst_fits c.config g)
  agrees (Npdcch g) = burst_agrees (control_refusals.grant_refusal g) (control.burst_of c.config g) (control_accepting.burst_fits c.config g)
