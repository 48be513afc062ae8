-- The cases of L1 hold: the numbers that a case leaves open are rewritten away, and the rest computes.
use mathlib.Core.Bool.{Bool, or-true}
use mathlib.Core.List.{[], ◌∷◌}
use mathlib.Core.Path.{◌≡◌, refl, sym, ap, ap₂, ◌∙◌}
use Prim.Native.Nat.{ℕ, ◌+◌, ◌-◌, ◌*◌, ◌/◌, ◌^◌, ◌≤◌, ◌<◌}
use native.Mathlib.Omega.{arith}
use lib.Dec.{ltb}
use borrow.Author.Tests.{lt-ltb, le-ltb}
use Rattle.counting.specs.Counting.{rank, next, select}
use Rattle.numerology.specs.Numerology.{first_after}
use Rattle.uplink.specs.Timing.{in_block, active, sent_slots, slot_at}
use Rattle.uplink.specs.Elements.{carries_data, slot_data, element_at}
use Rattle.sending.specs.Answer.{answer_of, extent_of, place_at}
use Rattle.sending.proofs.Answer.{accepted, refused_as}
use Rattle.uplink.specs.Mapping.{sending_of}
use Rattle.uplink.specs.Answers.{refused_plan, plan_shown}
use Rattle.numerology.proofs.Spacing.{first_wide}
use Rattle.uplink.proofs.GapPeriods.{slot_plain}
use Rattle.nprach.specs.declared.Windows.{Windows}
use Rattle.nprach.specs.Windows.{none, are_listed, is_clear, windows_refusal}
use Rattle.nprach.proofs.Spaced.{none_refuses}
use Rattle.harq_ack.specs.declared.HarqAckGrant.{HarqAckGrant}
use Rattle.harq_ack.specs.Fields.{tone_of, delay_of}
use Rattle.harq_ack.specs.Refusals.{last_npdsch_subframe, fields_refusal, refusal}
use Rattle.harq_ack.specs.Shaping.{shape_of, open_of}
use Rattle.harq_ack.specs.Scaffold.{start_of, grant_size, grant_order}
use Rattle.harq_ack.specs.Questions.{question_of, plan_of, forward_of}
use Rattle.harq_ack.specs.Cases.{wide, narrow, one_copy, symbols_from, tone_of_first, AckCases}
use Rattle.harq_ack.proofs.Accepting.{accepts, fits, plain_open}

plans : (plan_of (wide 100 0) none ≡ one_copy 226 229) × (plan_of (wide 101 0) none ≡ one_copy 228 231)
    × (plan_of (narrow 100 0) none ≡ one_copy 57 60) × (plan_of (narrow 101 0) none ≡ one_copy 57 60)
    × (plan_of (wide 100 15) none ≡ one_copy 236 239) × (plan_of (narrow 100 15) none ≡ one_copy 61 64)
unfolding plan_of answer_of refusal fields_refusal shape_of slot_at select next active in_block are_listed is_clear windows_refusal first_after tone_of delay_of slot_data rank carries_data
plans = (refl, refl, refl, refl, refl, refl)

symbols : (symbols_from (wide 100 15) ≡ 0 ∷ 1 ∷ 5 ∷ 6 ∷ 0 ∷ []) × (symbols_from (narrow 100 15) ≡ 3 ∷ 4 ∷ 5 ∷ 6 ∷ 3 ∷ [])
    × (tone_of_first (wide 100 15) ≡ 3) × (tone_of_first (narrow 100 15) ≡ 45)
unfolding forward_of answer_of place_at refusal fields_refusal are_listed is_clear windows_refusal shape_of element_at select next tone_of slot_data rank carries_data
symbols = (refl, refl, refl, refl)

-- the ends of an accepted grant with no window
module _ (g : HarqAckGrant) (h : g.n ≤ last_npdsch_subframe) (sp : g.spacing ≤ 1) (f : g.field ≤ 15) (c : g.copies ≤ 7) where
  accepted_plain : refusal g none ≡ 0
  accepted_plain =
      accepts g none
      (record { range = record { early = h; spacing = sp; field = f; copies = c }; windows = none_refuses g.spacing _ _ none refl })

  slot : (i : ℕ) → slot_at (shape_of g) (open_of g none) i ≡ (shape_of g).first + (i + (shape_of g).gap * (i / (shape_of g).block))
  slot i =
      ap (λ (o : ℕ → Bool). slot_at (shape_of g) o i) (λ j u. sym (plain_open g u) j)
      ∙ slot_plain (shape_of g) (fits g none accepted_plain) i

  planned : plan_of g none ≡ plan_shown grant_size grant_order (extent_of (sending_of (shape_of g) (open_of g none)))
  unfolding plan_of
  planned = accepted refused_plan (refusal g none) _ accepted_plain

  first_is : (plan_of g none).first ≡ slot_at (shape_of g) (open_of g none) 0
  first_is = rw planned refl

  last_is : (plan_of g none).last ≡ slot_at (shape_of g) (open_of g none) (sent_slots (shape_of g) - 1)
  last_is = rw planned refl

latest : (copies : ℕ) → copies ≤ 7
    → (plan_of (record { n = last_npdsch_subframe; spacing = 1; field = 15; copies = copies }) none).first ≡ 2 ^ 32 + 34
unfolding shape_of delay_of
latest copies h =
    let g : HarqAckGrant = record { n = last_npdsch_subframe; spacing = 1; field = 15; copies = copies } in
    let start : 2 * (last_npdsch_subframe + 18 - 1 + 1) ≡ start_of g = first_wide 1 (last_npdsch_subframe + 18 - 1) (λ z. omega arith) in
    omega (arith, first_is g (omega arith) (omega arith) (omega arith) h, slot g (omega arith) (omega arith) (omega arith) h 0, start)

-- 128 copies: of 512 slots the last is number 511, and no gap lies before the first
module _ (g : HarqAckGrant) (h : g.n ≤ last_npdsch_subframe) (f : g.field ≤ 15) (s : g.spacing ≤ 1) (c : g.copies ≡ 7) where
  few : g.copies ≤ 7
  few = omega arith

  sent : sent_slots (shape_of g) ≡ 512
  unfolding shape_of
  sent = rw c refl

  gaps : (gap block last : ℕ) → (shape_of g).gap ≡ gap → (shape_of g).block ≡ block → gap * (0 / block) ≡ 0 → 511 + gap * (511 / block) ≡ last
      → (plan_of g none).last ≡ (plan_of g none).first + last
  gaps gap block last eg eb z e =
      omega (
        arith,
        first_is g h s f few,
        last_is g h s f few ∙ ap (λ (k : ℕ). slot_at (shape_of g) (open_of g none) (k - 1)) sent,
        slot g h s f few 0,
        slot g h s f few 511,
        ap₂ (λ (x y : ℕ). x * (0 / y)) eg eb,
        ap₂ (λ (x y : ℕ). x * (511 / y)) eg eb,
      )

late : (g : HarqAckGrant) (ws : Windows) → last_npdsch_subframe < g.n → plan_of g ws ≡ refused_plan 9
unfolding plan_of refusal fields_refusal
late g ws h =
    sym (refused_as refused_plan (λ S. plan_shown grant_size grant_order (extent_of S)) (question_of g ws) 9
    (rw (lt-ltb last_npdsch_subframe g.n h) refl) (λ z. omega arith))

large : (g : HarqAckGrant) (ws : Windows) → g.n ≤ last_npdsch_subframe → 15 < g.field → plan_of g ws ≡ refused_plan 10
unfolding plan_of refusal fields_refusal
large g ws h l =
    sym (refused_as refused_plan (λ S. plan_shown grant_size grant_order (extent_of S)) (question_of g ws) 10
    (rw (le-ltb last_npdsch_subframe g.n h, lt-ltb 15 g.field l, or-true (ltb 1 g.spacing)) refl) (λ z. omega arith))

pub ack_cases : AckCases
unfolding shape_of
ack_cases = record {
  wide_even = plans.0;
  wide_odd = plans.1;
  narrow_even = plans.2;
  narrow_odd = plans.3;
  wide_symbols = symbols.0;
  narrow_symbols = symbols.1;
  wide_field = (plans.4, symbols.2);
  narrow_field = (plans.5, symbols.3);
  latest = latest;
  narrow_gaps = λ g h f s c. gaps g h f (omega arith) c 20 128 571 (rw s refl) (rw s refl) refl refl;
  wide_gaps = λ g h f s c. gaps g h f (omega arith) c 80 512 511 (rw s refl) (rw s refl) refl refl;
  late = late;
  large = large;
}
