-- The verdict on a cell, by the branch that gave it.
use mathlib.Core.Bool.{Bool, true, false, cond}
use mathlib.Core.List.{List}
use mathlib.Core.Path.{◌≡◌, refl, sym, ap, ◌∙◌}
use Prim.Native.Nat.{ℕ, zero, suc, ◌<◌}
use native.Mathlib.Omega.{arith}
use lib.Dec.{eqb}
use borrow.Author.Tests.{eq-eqb, ne_eqb, eqb-true, eqb-false}
use Rattle.counting.specs.Counting.{rank}
use Rattle.counting.proofs.Range.{and_none}
use Rattle.spans.specs.declared.Pattern.{Pattern}
use Rattle.spans.specs.Pattern.{allows, period_of, Regular}
use Rattle.messages.specs.Messages.{all_periods}
use Rattle.subframes.specs.Scaffold.{left_in, Laid}
use Rattle.bitmap.specs.Bitmap.{allowed}
use Rattle.bitmap.specs.Quick.{Loaded}
use Rattle.messages.specs.declared.Messages.{Messages}
use Rattle.messages.specs.Quick.{is_silent}
use Rattle.messages.proofs.Repeating.{silent_parts}
use Rattle.subframes.proofs.Left.{left_alone, empty_alone}
use Rattle.cell.specs.declared.CellConfig.{CellConfig}
use Rattle.cell.specs.declared.Cell.{Cell}
use Rattle.cell.specs.declared.Cause.{Cause}
use Rattle.cell.specs.declared.Cause.TheVariants.{None}
use Rattle.cell.specs.declared.Verdict.{Verdict}
use Rattle.std.specs.Prelude.{Result, Ok, Err, IsErrAnd}
use Rattle.std.proofs.lemmas.Result.{err_from_is_err_and}
use Rattle.refusals.specs.declared.Refusal.{Refusal}
use Rattle.refusals.specs.declared.Refusal.TheVariants.{EmptyBitmap, NeverUsable}
use Rattle.refusals.specs.Refusal.{number_of}
use Rattle.refusals.proofs.Numbers.{numbered}
use Rattle.cell.specs.Bitmap.{bitmap_in}
use Rattle.cell.specs.Usable.{period, is_anchor, usable}
use Rattle.cell.specs.Judge.{config_refusal, form_refusal, none_allowed, none_usable, use_refusal, cell_refusal}
use Rattle.cell.specs.Quick.{Shows, ShowsLoaded, with_messages, lays_messages, why_not_free, why_not, VerdictOn, seen, cause_answer, cause_on}
use Rattle.cell.proofs.Accepted.{form_bitmap, form_config, form_messages}
use Rattle.cell.proofs.Showing.{none_allowed_lem, some_allowed, same_test, seen_is}

pub positive : (n : ℕ) → (n ≡ 0 → ⊥) → 0 < n
positive zero h = absurd (h refl)
positive (suc n) h = omega arith

module _ (c : Cell) (own : List ℕ) where
  pub well : form_refusal c own ≡ 0 → cell_refusal c own ≡ use_refusal c own
  unfolding cell_refusal
  well f = rw f refl

  -- the refusals of form come first
  pub form_first : (r : Refusal) → number_of r ≡ form_refusal c own → number_of r ≡ cell_refusal c own
  unfolding cell_refusal
  form_first r e = simp (← e, numbered r)

  -- the two tests, as they came out
  by_use : (x y : Bool) → form_refusal c own ≡ 0 → none_allowed c own ≡ x → none_usable c own ≡ y
      → cell_refusal c own ≡ cond x 8 (cond y 18 0)
  unfolding use_refusal
  by_use x y f e d = well f ∙ rw (e, d) refl

  abbrev b : List ℕ
  b = bitmap_in c.config own

  module _ (m : ℕ) (f : form_refusal c own ≡ 0) (l : Loaded own c.config.bits m) where
    pub refused_eight : m ≡ 0 → VerdictOn c own (Err EmptyBitmap)
    refused_eight e = record {
      number = sym (by_use true (none_usable c own) f
          (eq-eqb (rank (allowed b c.config.bits) period) 0 (none_allowed_lem c.config own m (form_bitmap c own f) l e)) refl);
      accepted = tt;
    }

    module _ (some : m ≡ 0 → ⊥) (p : Pattern) (a : ShowsLoaded c.config m p) (laid : Bool) (y : laid ≡ lays_messages c) where
      shown : Shows c.config b p
      shown = a.shows own (form_bitmap c own f) l

      pub on : Laid p laid c.messages
      on = record { regular = shown.regular; listed = λ z. form_messages c own f }

      allows_some : none_allowed c own ≡ false
      allows_some = ne_eqb (rank (allowed b c.config.bits) period) 0 (some_allowed c.config own m (form_bitmap c own f) l some)

      -- 18 by what is left in the pattern
      usable_left : rank (usable c b) period ≡ rank (left_in p laid c.messages) all_periods
      usable_left = ap (λ (u : ℕ → Bool). rank u period) (sym (same_test c b p laid shown y))

      pub refused_eighteen : rank (left_in p laid c.messages) all_periods ≡ 0 → VerdictOn c own (Err NeverUsable)
      refused_eighteen e = record {
        number = sym (by_use false true f allows_some (eq-eqb (rank (usable c b) period) 0 (usable_left ∙ e)));
        accepted = tt;
      }

      pub accepted : (rank (left_in p laid c.messages) all_periods ≡ 0 → ⊥) → VerdictOn c own (Ok (record { laid = laid; pattern = p }))
      accepted n = record {
        number = sym (by_use false false f allows_some (ne_eqb (rank (usable c b) period) 0 (λ z. n (sym usable_left ∙ z))));
        accepted = record {
          laid = y;
          shows = shown;
          searchable = record { on = on; some = positive (rank (left_in p laid c.messages) all_periods) n };
        };
      }

  -- at the exit of a `?` on the form
  pub refused_form : (e : Refusal) (r : Result Verdict Refusal) → IsErrAnd r (λ y. y ≡ e) → number_of e ≡ form_refusal c own → VerdictOn c own r
  refused_form e r h f =
      let p = err_from_is_err_and r h in
      rw (p.1, p.2) (record { number = form_first e f; accepted = tt })

-- ---- the question of the cause

module _ (c : Cell) (own : List ℕ) (t : ℕ) where
  -- at the exit of a `?`
  pub cause_verdict : (e : Refusal) (r : Result Cause Refusal) → IsErrAnd r (λ y. y ≡ e) → number_of e ≡ cell_refusal c own
      → cause_answer r ≡ cause_on c own t
  cause_verdict e r h f =
      let p = err_from_is_err_and r h in
      rw (p.1, p.2) (simp (← f, numbered e))

  pub cause_told : (v : Verdict) → VerdictOn c own (Ok v) → (x : Cause) → x ≡ seen c v.pattern v.laid t
      → record { no = 0; cause = x } ≡ cause_on c own t
  cause_told v h x d =
      let a = h.accepted in
      simp (← h.number, d, seen_is c (bitmap_in c.config own) v.pattern v.laid a.shows a.laid t)

-- ---- eight numbers beside which no message stands

module _ (c : CellConfig) (own : List ℕ) (ms : Messages) (silent : is_silent ms ≡ true) where
  abbrev alone : Cell
  alone = with_messages c ms

  config_form : config_refusal c own ≡ form_refusal alone own
  config_form = sym (form_config alone own (silent_parts ms silent).1)

  pub config_first : (r : Refusal) → number_of r ≡ config_refusal c own → number_of r ≡ cell_refusal alone own
  config_first r e = form_first alone own r (e ∙ config_form)

  -- at the exit of a `?` on the eight numbers
  pub refused_config : (e : Refusal) (r : Result Verdict Refusal) → IsErrAnd r (λ y. y ≡ e) → number_of e ≡ config_refusal c own → VerdictOn alone own r
  refused_config e r h f = refused_form alone own e r h (f ∙ config_form)

  pub cause_config : (t : ℕ) (e : Refusal) (r : Result Cause Refusal) → IsErrAnd r (λ y. y ≡ e) → number_of e ≡ config_refusal c own
      → cause_answer r ≡ cause_on alone own t
  cause_config t e r h f = cause_verdict alone own t e r h (config_first e f)

  unlaid : false ≡ lays_messages alone
  unlaid = sym (rw (silent_parts ms silent).0 (and_none (is_anchor c)))

  module _ (m : ℕ) (f : config_refusal c own ≡ 0) (l : Loaded own c.bits m) where
    pub eight_alone : m ≡ 0 → VerdictOn alone own (Err EmptyBitmap)
    eight_alone = refused_eight alone own m (sym config_form ∙ f) l

    module _ (some : m ≡ 0 → ⊥) (p : Pattern) (a : ShowsLoaded c m p) where
      regular : Regular p
      regular = (on alone own m (sym config_form ∙ f) l some p a false unlaid).regular

      -- whether none is left is the same by the pattern's own period
      same_empty : eqb (rank (allows p) (period_of p)) 0 ≡ eqb (rank (left_in p false ms) all_periods) 0
      same_empty = empty_alone p regular ∙ ap (λ (u : ℕ → Bool). eqb (rank u all_periods) 0) (sym (left_alone p false ms refl))

      pub eighteen_alone : eqb (rank (allows p) (period_of p)) 0 ≡ true → VerdictOn alone own (Err NeverUsable)
      eighteen_alone e =
          refused_eighteen alone own m (sym config_form ∙ f) l some p a false unlaid (eqb-true _ 0 (sym same_empty ∙ e))

      pub accepted_alone : eqb (rank (allows p) (period_of p)) 0 ≡ false → VerdictOn alone own (Ok (record { laid = false; pattern = p }))
      accepted_alone e = accepted alone own m (sym config_form ∙ f) l some p a false unlaid (eqb-false _ 0 (sym same_empty ∙ e))

  -- the cause, by the pattern alone
  pub told_alone : (v : Verdict) → VerdictOn alone own (Ok v) → (t : ℕ) (x : Cause)
      → x ≡ cond (allows v.pattern t) None (why_not_free c t) → record { no = 0; cause = x } ≡ cause_on alone own t
  unfolding seen why_not left_in
  told_alone v h t x d =
      cause_told alone own t v h x (d ∙ sym (rw (h.accepted.laid ∙ sym unlaid) refl))
