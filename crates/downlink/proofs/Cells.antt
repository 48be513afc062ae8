-- An answer over what is left in the cell's pattern is the answer over its usable subframes.
use mathlib.Core.Bool.{Bool}
use mathlib.Core.List.{List}
use mathlib.Core.Path.{◌≡◌, sym, ap, ap₂, ◌∙◌, fun_ext}
use Prim.Native.Nat.{ℕ}
use Rattle.std.specs.Prelude.{Result, Ok, IsErrAnd}
use Rattle.std.proofs.lemmas.Result.{err_from_is_err_and}
use Rattle.refusals.specs.declared.Refusal.{Refusal}
use Rattle.refusals.specs.Refusal.{number_of}
use Rattle.refusals.proofs.Numbers.{never_0}
use Rattle.messages.specs.Messages.{all_periods}
use Rattle.subframes.specs.Scaffold.{left_in, Searchable}
use Rattle.cell.specs.declared.Cell.{Cell}
use Rattle.cell.specs.declared.Cause.{Cause}
use Rattle.cell.specs.declared.Verdict.{Verdict}
use Rattle.cell.specs.Bitmap.{own_buffer, bitmap_of}
use Rattle.cell.specs.Judge.{cell_refusal}
use Rattle.cell.specs.Usable.{period, why}
use Rattle.cell.specs.Quick.{VerdictOn, seen}
use Rattle.cell.proofs.Showing.{same_test, seen_is}
use Rattle.sending.specs.Sending.{Sending}
use Rattle.sending.specs.Answer.{Question, answer_of, extent_of, place_at}
use Rattle.sending.proofs.Answer as answer
use Rattle.downlink.specs.declared.Burst.{Burst}
use Rattle.downlink.specs.Answers.{refused_plan, refused_place, refused_why, plan_shown, place_of, back_why, plan_answer, forward_answer, back_answer}
use Rattle.downlink.specs.Cells.{question_on, question_refusal}
use Rattle.downlink.specs.Fits.{Fits}
use Rattle.downlink.specs.Quick.{Judged, told}
use Rattle.downlink.specs.Mapping.{sending_of}
use Rattle.downlink.proofs.Judging.{by_cell, by_grant, well_formed}

-- a refused question, at the exit of a `?`
module _ (c : Cell) (anchor other : List ℕ) (grant : ℕ) {A : Type 0} (zeros : ℕ → A) (answered : A) (e : Refusal) (r : Result A Refusal)
    (h : IsErrAnd r (λ y. y ≡ e)) where
  told_refused : number_of e ≡ question_refusal c anchor other grant → told zeros r ≡ answer_of zeros (question_refusal c anchor other grant) answered
  told_refused f =
      let p = err_from_is_err_and r h in
      rw (p.1, p.2) (rw f (sym (answer.refused zeros (question_refusal c anchor other grant) answered (λ z. never_0 e (f ∙ z)))))

  pub cell_refused : number_of e ≡ cell_refusal c (own_buffer c.config anchor other)
      → told zeros r ≡ answer_of zeros (question_refusal c anchor other grant) answered
  cell_refused f = told_refused (by_cell c anchor other grant e f)

  pub grant_refused : (v : Verdict) → VerdictOn c (own_buffer c.config anchor other) (Ok v) → number_of e ≡ grant
      → told zeros r ≡ answer_of zeros (question_refusal c anchor other grant) answered
  grant_refused v j f = told_refused (f ∙ sym (by_grant c anchor other v j grant))

module _ (c : Cell) (anchor other : List ℕ) (grant : ℕ) (b : Burst) where
  abbrev question : Question
  question = question_on c anchor other grant b

  -- an accepted one
  module _ (v : Verdict) (h : VerdictOn c (own_buffer c.config anchor other) (Ok v)) (d : Burst) (j : Judged c.config grant b (Ok d)) where
    abbrev left : Sending
    left = sending_of (left_in v.pattern v.laid c.messages) all_periods d

    accepted : question.no ≡ 0
    accepted = by_grant c anchor other v h grant ∙ sym j.number

    pub ready : Searchable v.pattern v.laid c.messages × Fits d
    ready = (h.accepted.searchable, j.fits (well_formed c anchor other v h))

    same : left ≡ question.sending
    same =
        ap (sending_of (left_in v.pattern v.laid c.messages) all_periods) j.burst
        ∙ ap (λ (u : ℕ → Bool). sending_of u period b) (same_test c (bitmap_of c anchor other) v.pattern v.laid h.accepted.shows h.accepted.laid)

    pub plan_ready : plan_shown (extent_of left) ≡ plan_answer question
    plan_ready = answer.accepted_as refused_plan (λ S. plan_shown (extent_of S)) question left accepted same

    pub forward_ready : (x : ℕ) → place_at refused_place place_of left x ≡ forward_answer question x
    forward_ready x = answer.accepted_as refused_place (λ S. place_at refused_place place_of S x) question left accepted same

    -- the cause by the pattern is the cell's
    pub backward_ready : (t slot l k : ℕ)
        → back_why left (seen c v.pattern v.laid) t slot l k ≡ back_answer question (why c (bitmap_of c anchor other)) t slot l k
    backward_ready t slot l k =
        ap₂ (λ (S : Sending) (w : ℕ → Cause). back_why S w t slot l k) same
        (fun_ext (seen_is c (bitmap_of c anchor other) v.pattern v.laid h.accepted.shows h.accepted.laid))
        ∙ sym (answer.accepted refused_why _ _ accepted)
