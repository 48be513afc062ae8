-- DEMAND 3 of every accepted NPDSCH and NPDCCH grant: both are bursts over the usable subframes of an accepted cell.
use mathlib.Core.Bool.{Bool, true}
use mathlib.Core.List.{List}
use mathlib.Core.Path.{◌≡◌, refl, ap, subst, subst⁻¹}
use mathlib.Core.Logic.{inl, inr, ⊎_elim}
use Prim.Native.Nat.{ℕ, ◌*◌, ◌<◌}
use native.Mathlib.Omega.{arith}
use borrow.Author.Tests.{lt-ltb}
use Rattle.counting.proofs.Facts.{order, chained}
use Rattle.counting.proofs.Select.{among_parts}
use Rattle.grid.specs.Grid.{subcarriers, symbols, slots, element_of, slot_of, symbol_of, subcarrier_of}
use Rattle.grid.proofs.Numbering.{of_parts, inside, slot_of_lem, symbol_of_lem, subcarrier_of_lem}
use Rattle.cell.specs.declared.Cell.{Cell}
use Rattle.cell.specs.declared.Cause.{Cause}
use Rattle.cell.specs.Usable.{period, why, usable}
use Rattle.cell.specs.Judge.{judge_of}
use Rattle.cell.specs.Quick.{WellFormed}
use Rattle.elements.specs.declared.Layout.{Layout}
use Rattle.elements.specs.Elements.{used, count_of}
use Rattle.elements.proofs.Laws.{used_clear, element_below}
use Rattle.sending.specs.Answer.{Question, extent_of}
use Rattle.sending.proofs.Answer.{accepts, answer_map, forward_map}
use Rattle.downlink.specs.declared.Burst.{Burst}
use Rattle.downlink.specs.declared.DownlinkPlan.{DownlinkPlan}
use Rattle.downlink.specs.declared.DownlinkBack.{DownlinkBack}
use Rattle.downlink.specs.Fits.{Fits}
use Rattle.downlink.specs.Cells.{question_refusal, question_on}
use Rattle.cell.specs.Layout.{layout_of}
use Rattle.downlink.specs.Answers.{refused_plan, plan_shown, refused_place, place_of, refused_why, back_why, inside_grid, plan_answer, forward_answer, back_answer}
use Rattle.downlink.proofs.Lawfulness.{lawful}
use Rattle.downlink.proofs.Judging.{accepted_cell}
use Rattle.promises.specs.Demand.{FirstBy, Answers}
use Rattle.promises.specs.Grids.{SubframePlace, downlink_grid, downlink_columns, downlink_answers}
use Rattle.promises.specs.Promises.{takes, withholds, Clear, DownlinkDemand}
use Rattle.cell.specs.Bitmap.{bitmap_of}
use Rattle.promises.proofs.Bridge.{Numbered, answers_by, Sends, at_places, demand}
use Rattle.promises.proofs.Further.{no_cause}
use Rattle.promises.proofs.Repeating.{usable_again, usable_some}

-- ---- the grid

-- a larger element has a later slot, or the same slot and a later symbol, or the same of both and a later subcarrier
pub further : (x y : ℕ) → x < y → FirstBy (slot_of x) (slot_of y) (FirstBy (symbol_of x) (symbol_of y) (subcarrier_of x < subcarrier_of y))
further x y h =
    ⊎_elim inl
    (λ a.
    ⊎_elim (λ b. inr (omega arith, inl b)) (λ b. inr (omega arith, inr (omega arith, omega arith))) (order (symbol_of x) (symbol_of y)))
    (order (slot_of x) (slot_of y))

pub in_grid_lem : (x : SubframePlace) → downlink_grid.Inside x → inside_grid x.slot x.l x.k ≡ true
in_grid_lem x i = rw (lt-ltb x.slot slots i.0, lt-ltb x.l symbols i.1, lt-ltb x.k subcarriers i.2) refl

unfoldable pub downlink_numbered : Numbered downlink_grid
downlink_numbered = record {
  time = λ x. x.t;
  element = λ x. element_of x.slot x.l x.k;
  timed = λ t x. refl;
  numbered = λ t x. of_parts x;
  back = λ x i. λ j. record {
    t = x.t;
    slot = slot_of_lem x.slot x.l x.k i.1 i.2 j;
    l = symbol_of_lem x.slot x.l x.k i.1 i.2 j;
    k = subcarrier_of_lem x.slot x.l x.k i.1 i.2 j;
  };
  is_inside = λ x. inside_grid x.slot x.l x.k;
  inside_is = in_grid_lem;
  later = λ t t' x x' l. inl l;
  further = λ t x x' l. inr (refl, further x x' l);
}

-- the downlink's answers to a question are in its columns
downlink_are : (q : Question) (why : ℕ → Cause)
    → downlink_answers (plan_answer q) (forward_answer q) (back_answer q why) ≡ answers_by downlink_grid downlink_numbered q
unfolding downlink_numbered back_why
downlink_are q why = λ i. record {
  places = answer_map (λ (x : DownlinkPlan). x.places) refused_plan q.no (plan_shown (extent_of q.sending)) i;
  forward = λ p. forward_map downlink_columns refused_place place_of q p i;
  backward = λ x. answer_map (λ (y : DownlinkBack). y.back) refused_why q.no (back_why q.sending why x.t x.slot x.l x.k) i;
}

-- ---- a burst of a cell

-- a used element of a usable subframe is clear
used_place : (c : Cell) (bitmap : List ℕ) (from width t x : ℕ) → usable c bitmap t ≡ true → used (layout_of c.config) from width x ≡ true
    → Clear c bitmap (downlink_grid.at t x)
used_place c bitmap from width t x u h =
    let d = used_clear (layout_of c.config) from width x h in
    record {
      no_reference = rw (d.no_nrs, d.no_crs) refl;
      no_control = d.no_control;
      not_taken = ap takes (no_cause (why c bitmap t) u);
      not_withheld = ap withholds (no_cause (why c bitmap t) u);
    }

module _ (c : Cell) (anchor other : List ℕ) (grant : ℕ) (b : Burst) (fit : WellFormed c.config → grant ≡ 0 → Fits b)
    (own : b.layout ≡ layout_of c.config) where
  abbrev u : ℕ → Bool
  u = usable c (bitmap_of c anchor other)

  abbrev q : Question
  q = question_on c anchor other grant b

  abbrev answers : Answers SubframePlace
  answers = downlink_answers (plan_answer q) (forward_answer q) (back_answer q (why c (bitmap_of c anchor other)))

  module _ (h : (plan_answer q).no ≡ 0) where
    zero : q.no ≡ 0
    zero = accepts refused_plan (λ x. x.no) (λ m. refl) q.no _ refl h

    judged : (judge_of c anchor other ≡ 0) × (grant ≡ 0)
    unfolding question_refusal
    judged = chained (judge_of c anchor other) grant zero

    f : Fits b
    f = fit (accepted_cell c anchor other judged.0) judged.1

    burst_sends : Sends downlink_grid q.sending b.codeword b.copies
    burst_sends = record {
      lawful = lawful u period (usable_again c anchor other judged.0) (usable_some c anchor other judged.0) b f;
      units = f.codeword;
      copies = f.copies;
      inside = λ i e k h. inside _ (element_below b.layout b.low b.width e h);
    }

    -- a used element of a subframe that is sent is clear
    clear : (i e : ℕ) → i < q.sending.K → e < q.sending.W
        → Clear c (bitmap_of c anchor other) (downlink_grid.at (q.sending.time i) (q.sending.elem e))
    clear i e k l =
        used_place c (bitmap_of c anchor other) b.low b.width _ _
        (among_parts u _ _ _ (burst_sends.lawful.units.passes i k)).1
        (subst (λ (g : Layout). used g b.low b.width (q.sending.elem e) ≡ true) own (burst_sends.lawful.elements.passes e l))

    pub question_demand : (copies symbols : ℕ) → copies ≡ b.copies → symbols ≡ b.codeword * count_of b.layout b.low b.width
        → DownlinkDemand c (bitmap_of c anchor other) (record { copies = copies; symbols = symbols; sending = q.sending }) answers
    question_demand copies symbols R N =
        subst⁻¹ (DownlinkDemand c (bitmap_of c anchor other) _) (downlink_are q (why c (bitmap_of c anchor other)))
        (record {
          demand = demand downlink_grid downlink_numbered q zero _ _ burst_sends copies symbols R N;
          clear = at_places downlink_grid downlink_numbered q zero _ _ burst_sends (Clear c (bitmap_of c anchor other)) clear;
        })
