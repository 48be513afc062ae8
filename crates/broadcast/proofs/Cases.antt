-- The cases of L9 hold.
use mathlib.Core.Bool.{true}
use mathlib.Core.List.{List, [], ◌∷◌}
use mathlib.Core.Path.{◌≡◌, refl, sym, ap, ◌∙◌}
use Prim.Native.Nat.{ℕ, ◌%◌}
use native.Mathlib.Omega.{arith}
use borrow.Author.Tests.{ne_eqb}
use Rattle.counting.specs.Counting.{rank, count, next, select, among_first}
use Rattle.grid.specs.Grid.{element_of}
use Rattle.messages.specs.Messages.{are_listed}
use Rattle.cell.specs.declared.Cell.{Cell}
use Rattle.cell.specs.Bitmap.{own_buffer}
use Rattle.cell.specs.Judge.{numbers_refusal, judge_of}
use Rattle.cell.specs.Layout.{element_count_of}
use Rattle.cell.proofs.Cases.{unmapped, ten_nothing}
use Rattle.elements.specs.Elements.{nrs, crs, kind_of, eligible, used}
use Rattle.sending.specs.Answer.{refused_back, place_at, back_at}
use Rattle.sending.proofs.Answer.{accepted, refused}
use Rattle.downlink.specs.Cells.{question_refusal}
use Rattle.downlink.specs.Mapping.{sending_of}
use Rattle.downlink.specs.Answers.{refused_place, place_of, inside_grid}
use Rattle.broadcast.specs.Channels.{Channel}
use Rattle.broadcast.specs.Questions.{carrier_refusal, question_of, forward_of, backward_of}
use Rattle.broadcast.specs.Cases.{one_anchor, in_band_one, BroadcastCases}

-- ---- what an answer is, by the question's number

module _ (c : Cell) (anchor other : List ℕ) (channel : Channel) where
  module _ (n : ℕ) (h : (question_of c anchor other channel).no ≡ n) (z : n ≡ 0 → ⊥) where
    refused_forward : (p : ℕ) → forward_of c anchor other channel p ≡ refused_place n
    unfolding forward_of
    refused_forward p = refused refused_place _ _ (λ e. z (rw h at e)) ∙ ap refused_place h

    refused_backward : (t slot l k : ℕ) → backward_of c anchor other channel t slot l k ≡ refused_back n
    unfolding backward_of
    refused_backward t slot l k = refused refused_back _ _ (λ e. z (rw h at e)) ∙ ap refused_back h

  -- a non-anchor that the cell's refusals let through
  not_anchor : judge_of c anchor other ≡ 0 → c.config.carrier ≡ 1 → (question_of c anchor other channel).no ≡ 25
  unfolding question_refusal carrier_refusal
  not_anchor j e = rw (j, ne_eqb c.config.carrier 0 (λ z. omega arith)) refl

  -- a cell that is refused, whatever its carrier
  by_cell : (n : ℕ) → judge_of c anchor other ≡ n → (n ≡ 0 → ⊥) → (question_of c anchor other channel).no ≡ n
  unfolding question_refusal
  by_cell n j z = rw (j, ne_eqb n 0 z) refl

module _ (c : Cell) (anchor : List ℕ) (numbers : numbers_refusal c.config ≡ 0) (messages : are_listed c.messages ≡ true)
    (bits : c.config.bits ≡ 10) (carrier : c.config.carrier ≡ 1) where
  nothing_allowed : judge_of c anchor (0 ∷ 0 ∷ []) ≡ 8
  unfolding judge_of
  nothing_allowed = rw (ne_eqb c.config.carrier 0 (λ z. omega arith)) (ten_nothing c numbers messages bits)

-- ---- P7's cell

module _ (anchor other : List ℕ) where
  judged : judge_of one_anchor anchor other ≡ 0
  unfolding judge_of numbers_refusal are_listed
  judged = unmapped one_anchor (own_buffer one_anchor.config anchor other) refl refl refl refl

  module _ (channel : Channel) where
    number : (question_of one_anchor anchor other channel).no ≡ 0
    unfolding question_refusal carrier_refusal
    number = rw judged refl

    forward_is : (p : ℕ) → forward_of one_anchor anchor other channel p
        ≡ place_at refused_place place_of (sending_of channel.is_own channel.period channel.burst) p
    unfolding forward_of
    forward_is p = accepted refused_place _ _ number

    backward_is : (t slot l k : ℕ) → backward_of one_anchor anchor other channel t slot l k
        ≡ back_at (sending_of channel.is_own channel.period channel.burst) (inside_grid slot l k) (t % channel.period) (element_of slot l k)
    unfolding backward_of
    backward_is t slot l k = accepted refused_back _ _ number

  in_band_lem : judge_of in_band_one anchor other ≡ 0
  unfolding judge_of numbers_refusal are_listed
  in_band_lem = unmapped in_band_one (own_buffer in_band_one.config anchor other) refl refl refl refl

  own_elements : element_count_of in_band_one anchor other ≡ record { no = 0; e = 128 }
  unfolding element_count_of rank nrs crs eligible
  own_elements = rw in_band_lem refl

pub cases : BroadcastCases
unfolding place_at back_at rank count next select among_first nrs crs kind_of eligible used
cases = record {
  first = λ anchor other. forward_is anchor other _ 0 ∙ refl;
  block = λ anchor other. forward_is anchor other _ 800 ∙ refl;
  last = λ anchor other. forward_is anchor other _ 6399 ∙ refl;
  past = λ anchor other. forward_is anchor other _ 6400 ∙ refl;
  reference = λ anchor other. backward_is anchor other _ 0 0 0 0 ∙ refl;
  far = λ anchor other. backward_is anchor other _ 18446744073709551600 0 3 1 ∙ refl;
  again = λ anchor other slot l k. backward_is anchor other _ 640 slot l k ∙ sym (backward_is anchor other _ 0 slot l k);
  second = λ anchor other. forward_is anchor other _ 160 ∙ refl;
  copy = λ anchor other. forward_is anchor other _ 1280 ∙ refl;
  past_sib1 = λ anchor other. forward_is anchor other _ 5120 ∙ refl;
  symbols = refl;
  elements = own_elements;
  eight = λ c anchor channel p n m e b. refused_forward c anchor _ channel 8 (by_cell c anchor _ channel 8 (nothing_allowed c anchor n m b e) (λ z. omega arith)) (λ z. omega arith) p;
  non_anchor = λ c anchor other channel p j e. refused_forward c anchor other channel 25 (not_anchor c anchor other channel j e) (λ z. omega arith) p;
  non_anchor_back = λ c anchor other channel t slot l k j e. refused_backward c anchor other channel 25 (not_anchor c anchor other channel j e) (λ z. omega arith) t slot l k;
}
