-- What backward hands on beside its answer is the cause that the cell's question answers.
use mathlib.Core.Bool.{Bool, true, false, cond, ◌&&◌}
use mathlib.Core.List.{List}
use mathlib.Core.Path.{◌≡◌, refl, sym, ◌∙◌, subst⁻¹}
use mathlib.Core.Logic.{◌⊎◌, inl, inr, ⊎_elim}
use Prim.Native.Nat.{ℕ, ◌≤◌, ◌<◌}
use native.Mathlib.Decide.{ℕ_discrete}
use native.Mathlib.Omega.{arith}
use lib.Dec.{ltb, leb}
use borrow.Author.Tests.{eq-eqb, lt-ltb, le-ltb, ltb-true}
use Rattle.counting.specs.Counting.{among_first}
use Rattle.counting.proofs.Facts.{both_parts, truth, chained}
use Rattle.counting.proofs.Range.{and_none}
use Rattle.grid.specs.Grid.{subcarriers, symbols, slots}
use Rattle.cell.specs.declared.Cell.{Cell}
use Rattle.cell.specs.declared.Cause.{Cause}
use Rattle.cell.specs.declared.Cause.TheVariants.{None}
use Rattle.cell.specs.Usable.{period, why, usable}
use Rattle.cell.specs.Judge.{judge_of, cause_of}
use Rattle.sending.specs.Sending as sending
use Rattle.sending.specs.Sending.{Sending}
use Rattle.sending.specs.Answer.{Question, extent_of, back_of}
use Rattle.sending.proofs.Answer.{accepted, refused}
use Rattle.downlink.specs.declared.Burst.{Burst}
use Rattle.downlink.specs.declared.DownlinkPlan.{DownlinkPlan}
use Rattle.downlink.specs.declared.DownlinkBack.{DownlinkBack}
use Rattle.downlink.specs.Cells.{question_refusal, question_on}
use Rattle.downlink.specs.Mapping.{first_of, is_sent}
use Rattle.downlink.specs.Answers.{refused_plan, plan_shown, refused_why, inside_grid, is_between, cause_at, back_why, plan_answer, back_answer}
use Rattle.downlink.proofs.Joined.{backward_unsent}
use Rattle.promises.specs.Grids.{SubframePlace, downlink_grid}
use Rattle.promises.specs.Promises.{HandsOn, by_place}
use Rattle.cell.specs.Bitmap.{bitmap_of}
use Rattle.promises.proofs.Further.{no_cause, by_number}
use Rattle.promises.proofs.Framed.{in_grid_lem}

grid_in : (x : SubframePlace) → inside_grid x.slot x.l x.k ≡ true → downlink_grid.Inside x
grid_in x h =
    let a = both_parts (ltb x.slot slots) (ltb x.l symbols && ltb x.k subcarriers) h in
    let b = both_parts (ltb x.l symbols) (ltb x.k subcarriers) a.1 in
    (ltb-true x.slot slots a.0, ltb-true x.l symbols b.0, ltb-true x.k subcarriers b.1)

none_both : (p q : Bool) (y : Cause) → (p ≡ false) ⊎ (q ≡ false) → cond (p && q) y None ≡ None
none_both p q y (inl e) = rw e refl
none_both p q y (inr e) = rw (e, and_none p) refl

module _ (c : Cell) (anchor other : List ℕ) (grant : ℕ) (b : Burst) where
  abbrev u : ℕ → Bool
  u = usable c (bitmap_of c anchor other)

  abbrev w : ℕ → Cause
  w = why c (bitmap_of c anchor other)

  abbrev q : Question
  q = question_on c anchor other grant b

  abbrev S : Sending
  S = q.sending

  -- what an accepted question answers
  abbrev plan : DownlinkPlan
  plan = plan_shown (extent_of S)

  abbrev back : SubframePlace → DownlinkBack
  back x = back_why S w x.t x.slot x.l x.k

  module _ (x : SubframePlace) where
    abbrev in_grid : Bool
    in_grid = inside_grid x.slot x.l x.k

    told : in_grid ≡ true → is_between S x.t ≡ true → (back x).cause ≡ w x.t
    unfolding back_why cause_at
    told i h = rw (i, h) refl

    outside_none : (in_grid ≡ false) ⊎ (is_between S x.t ≡ false) → (back x).cause ≡ None
    unfolding back_why cause_at
    outside_none e = none_both in_grid (is_between S x.t) (w x.t) e

    between : downlink_grid.Inside x → plan.first < x.t → x.t < plan.last → (back x).cause ≡ w x.t
    unfolding is_between
    between i f l = told (in_grid_lem x i) (rw (lt-ltb _ x.t f, lt-ltb x.t _ l) refl)

    early : x.t ≤ plan.first → (back x).cause ≡ None
    unfolding is_between
    early l = outside_none (inr (rw (le-ltb _ x.t l) refl))

    late : plan.last ≤ x.t → (back x).cause ≡ None
    unfolding is_between
    late l = outside_none (inr (rw (le-ltb x.t _ l) (and_none (ltb plan.first x.t))))

    outside : (downlink_grid.Inside x → ⊥) → (back x).cause ≡ None
    outside h = outside_none (inl (⊎_elim (λ i. absurd (h (grid_in x i))) (λ o. o) (truth in_grid)))

    -- a subframe that is not usable is not sent
    unsent : u x.t ≡ false → is_sent u period b x.t ≡ false
    unfolding among_first
    unsent n = rw n (and_none (leb (first_of u period b) x.t))

    beside : ((back x).cause ≡ None → ⊥) → (in_grid ≡ true) ⊎ (in_grid ≡ false) → (u x.t ≡ true) ⊎ (u x.t ≡ false)
        → (back x).back ≡ back_of (sending.not_ours 0)
    unfolding back_why
    beside f (inr o) y = absurd (f (outside_none (inl o)))
    beside f (inl i) (inl y) =
        absurd (f (⊎_elim (λ h. told i h ∙ no_cause (w x.t) y) (λ h. outside_none (inr h)) (truth (is_between S x.t))))
    beside f (inl i) (inr n) = sym (backward_unsent u period b x.t x.slot x.l x.k i (unsent n))

  accepted_hands : judge_of c anchor other ≡ 0 → HandsOn c anchor other plan back
  unfolding cause_of
  accepted_hands e = record {
    between = λ x i f l. rw (eq-eqb (judge_of c anchor other) 0 e) (between x i f l);
    numbered = λ x i f l. rw (between x i f l) (by_number (w x.t));
    early = early;
    late = late;
    outside = outside;
    beside = λ x f. beside x f (truth (in_grid x)) (truth (u x.t));
  }

  refused_hands : (n : ℕ) → HandsOn c anchor other (refused_plan n) (λ x. refused_why n)
  refused_hands n = record {
    between = λ x i f l. absurd (omega arith);
    numbered = λ x i f l. absurd (omega arith);
    early = λ x l. refl;
    late = λ x l. refl;
    outside = λ x h. refl;
    beside = λ x f. absurd (f refl);
  }

  -- answers that are the same
  answered_as : (p p' : DownlinkPlan) (f f' : SubframePlace → DownlinkBack) → p ≡ p' → ((x : SubframePlace) → f x ≡ f' x)
      → HandsOn c anchor other p' f'
      → HandsOn c anchor other p f
  answered_as p p' f f' d e h = subst⁻¹ (λ (y : DownlinkPlan). HandsOn c anchor other y f) d (subst⁻¹ (HandsOn c anchor other p')
      (λ i x. e x i) h)

  pub hands_on : HandsOn c anchor other (plan_answer q) (by_place (back_answer q w))
  unfolding question_refusal
  hands_on = by (ℕ_discrete q.no 0)
    where
      by : Dec (q.no ≡ 0) → HandsOn c anchor other (plan_answer q) (by_place (back_answer q w))
      by (yes e) =
          answered_as _ plan _ back (accepted refused_plan q.no plan e) (λ x. accepted refused_why q.no (back x) e)
          (accepted_hands (chained (judge_of c anchor other) grant e).0)
      by (no h) =
          answered_as _ (refused_plan q.no) _ (λ x. refused_why q.no) (refused refused_plan q.no plan h) (λ x. refused refused_why
          q.no (back x) h)
          (refused_hands q.no)
