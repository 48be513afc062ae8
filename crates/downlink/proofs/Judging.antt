-- A question judged: by the cell, then by the grant.
use mathlib.Core.Bool.{Bool, true, false, not}
use mathlib.Core.List.{List}
use mathlib.Core.Path.{◌≡◌, refl, sym, subst}
use Prim.Native.Nat.{ℕ, ◌≤◌}
use native.Mathlib.Omega.{arith}
use lib.Dec.{ltb}
use borrow.Author.Tests.{ltb-false, not-false}
use Rattle.std.specs.Prelude.{Result, Ok, IsErrAnd}
use Rattle.std.proofs.lemmas.Result.{err_from_is_err_and}
use Rattle.refusals.specs.declared.Refusal.{Refusal}
use Rattle.refusals.specs.Refusal.{number_of}
use Rattle.refusals.proofs.Numbers.{stands}
use Rattle.counting.proofs.Facts.{passed}
use Rattle.grid.specs.Grid.{last_subframe}
use Rattle.grid.specs.Tables.{is_repetition}
use Rattle.cell.specs.declared.Cell.{Cell}
use Rattle.cell.specs.declared.CellConfig.{CellConfig}
use Rattle.cell.specs.declared.Verdict.{Verdict}
use Rattle.cell.specs.Bitmap.{own_buffer}
use Rattle.cell.specs.Judge.{cell_refusal, judge_of}
use Rattle.cell.specs.Quick.{VerdictOn, WellFormed}
use Rattle.cell.proofs.Accepted.{accepted_form, form_numbers}
use Rattle.downlink.specs.declared.Burst.{Burst}
use Rattle.downlink.specs.Fits.{Fits}
use Rattle.downlink.specs.Cells.{fields_refusal, question_refusal}
use Rattle.downlink.specs.Quick.{Judged}

module _ (c : Cell) (anchor other : List ℕ) where
  abbrev own : List ℕ
  own = own_buffer c.config anchor other

  -- an accepted question has an accepted cell
  pub accepted_cell : judge_of c anchor other ≡ 0 → WellFormed c.config
  unfolding judge_of
  accepted_cell e = form_numbers c own (accepted_form c own e)

  -- the cell's refusal stands, whatever the grant is
  pub by_cell : (grant : ℕ) (e : Refusal) → number_of e ≡ cell_refusal c own → number_of e ≡ question_refusal c anchor other grant
  unfolding question_refusal judge_of
  by_cell grant e h = stands e grant _ h

  module _ (v : Verdict) (h : VerdictOn c own (Ok v)) where
    -- the grant's number is the question's on an accepted cell
    pub by_grant : (grant : ℕ) → question_refusal c anchor other grant ≡ grant
    unfolding question_refusal judge_of
    by_grant grant = rw (← h.number) refl

    pub well_formed : WellFormed c.config
    well_formed = form_numbers c own (accepted_form c own (sym h.number))

-- ---- the grant judged, at the exit of a `?` and past it

module _ (c : CellConfig) (grant : ℕ) (b : Burst) where
  pub judged_refused : (e : Refusal) (r : Result Burst Refusal) → IsErrAnd r (λ y. y ≡ e) → number_of e ≡ grant → Judged c grant b r
  judged_refused e r h n =
      let p = err_from_is_err_and r h in
      rw (p.1, p.2) (record { number = n; burst = tt; fits = λ w. tt })

  pub judged_accepted : (d : Burst) → 0 ≡ grant → d ≡ b → (WellFormed c → Fits b) → Judged c grant b (Ok d)
  judged_accepted d e f h = record { number = e; burst = f; fits = λ w. subst Fits (sym f) (h w) }

-- ---- what an accepted grant has passed

pub fields_passed : (n : ℕ) (above : Bool) (repetitions : ℕ) → fields_refusal n above repetitions ≡ 0
    → (n ≤ last_subframe) × (above ≡ false) × (is_repetition repetitions ≡ true)
unfolding fields_refusal
fields_passed n above repetitions e =
    let p9 = passed (ltb last_subframe n) 9 _ (omega arith) e in
    let p10 = passed above 10 _ (omega arith) p9.1 in
    let p12 = passed (not (is_repetition repetitions)) 12 0 (omega arith) p10.1 in
    (ltb-false last_subframe n p9.0, p10.0, not-false (is_repetition repetitions) p12.0)
