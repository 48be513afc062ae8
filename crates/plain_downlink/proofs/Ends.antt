-- A walk over a question judged ends where its plan says.
use mathlib.Core.List.{List}
use mathlib.Core.Path.{◌≡◌, sym, ap, ap₂, ◌∙◌}
use Prim.Native.Nat.{ℕ, ◌*◌}
use Rattle.std.specs.Prelude.{Result, Ok, IsErrAnd}
use Rattle.std.proofs.lemmas.Result.{err_from_is_err_and}
use Rattle.refusals.specs.declared.Refusal.{Refusal}
use Rattle.refusals.specs.Refusal.{number_of}
use Rattle.refusals.proofs.Numbers.{never_0}
use Rattle.sending.specs.declared.Total.{Total}
use Rattle.sending.proofs.Answer.{refused}
use Rattle.cell.specs.declared.Cell.{Cell}
use Rattle.cell.specs.declared.Verdict.{Verdict}
use Rattle.cell.specs.Bitmap.{own_buffer}
use Rattle.cell.specs.Judge.{cell_refusal}
use Rattle.cell.specs.Quick.{VerdictOn}
use Rattle.elements.specs.Elements.{count_of}
use Rattle.downlink.specs.declared.Burst.{Burst}
use Rattle.downlink.specs.Answers.{refused_plan, plan_answer}
use Rattle.downlink.specs.Cells.{question_on, question_refusal}
use Rattle.downlink.specs.Mapping.{sent_subframes}
use Rattle.downlink.specs.Quick.{Judged}
use Rattle.downlink.proofs.Judging.{by_cell, by_grant}
use Rattle.downlink.proofs.Cells.{plan_ready}
use Rattle.plain_downlink.specs.Places.{total_of, total_in}

module _ (c : Cell) (anchor other : List ℕ) (grant : ℕ) (b : Burst) where
  abbrev ends : Total
  ends = total_in (plan_answer (question_on c anchor other grant b))

  -- at the exit of a `?`
  module _ (e : Refusal) (r : Result ℕ Refusal) (h : IsErrAnd r (λ y. y ≡ e)) where
    none : number_of e ≡ question_refusal c anchor other grant → total_of r ≡ ends
    none f =
        let p = err_from_is_err_and r h in
        let n : number_of e ≡ 0 → ⊥ = never_0 e in
        rw (p.1, p.2)
        (ap (λ (n : ℕ). record { no = n; places = 0 }) f
        ∙ sym (ap total_in (refused refused_plan (question_refusal c anchor other grant) _ (λ z. n (f ∙ z)))))

    pub cell_refused : number_of e ≡ cell_refusal c (own_buffer c.config anchor other) → total_of r ≡ ends
    cell_refused f = none (by_cell c anchor other grant e f)

    pub grant_refused : (v : Verdict) → VerdictOn c (own_buffer c.config anchor other) (Ok v) → number_of e ≡ grant → total_of r ≡ ends
    grant_refused v j f = none (f ∙ sym (by_grant c anchor other v j grant))

  pub ends_at : (v : Verdict) → VerdictOn c (own_buffer c.config anchor other) (Ok v) → (d : Burst) → Judged c.config grant b (Ok d)
      → (sent w : ℕ) → sent ≡ sent_subframes d → w ≡ count_of d.layout d.low d.width → record { no = 0; places = sent * w } ≡ ends
  ends_at v j d a sent w e f =
      ap₂ (λ (x y : ℕ). record { no = 0; places = x * y }) e f
      ∙ ap total_in (plan_ready c anchor other grant b v j d a)
