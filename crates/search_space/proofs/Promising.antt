-- The promises on search spaces are kept.
use mathlib.Core.Bool.{Bool, true}
use mathlib.Core.List.{List}
use mathlib.Core.Path.{◌≡◌, refl, sym, ap, ◌∙◌, subst}
use Prim.Native.Nat.{ℕ, ◌+◌, ◌-◌, ◌*◌, ◌≤◌, ◌<◌}
use native.Mathlib.Nat.{add-zero}
use native.Mathlib.Omega.{arith}
use borrow.Author.Tests.{le-ltb, eqb-false}
use Rattle.counting.specs.Counting.{rank, select}
use Rattle.counting.proofs.Facts.{chained}
use Rattle.counting.proofs.Period.{select_rises, select_from}
use Rattle.grid.specs.Grid.{last_subframe}
use Rattle.grid.specs.Tables.{is_repetition}
use Rattle.grid.proofs.Rules.{repetition_bounds}
use Rattle.cell.specs.declared.Cell.{Cell}
use Rattle.cell.specs.Bitmap.{own_buffer, bitmap_in}
use Rattle.cell.specs.Usable.{period, usable}
use Rattle.cell.specs.Judge.{judge_of}
use Rattle.cell.proofs.Accepted.{accepted_bitmap, accepted_messages, accepted_some}
use Rattle.cell.proofs.Judging.{positive}
use Rattle.cell.proofs.Repeating as repeating
use Rattle.sending.proofs.Answer.{accepted, accepts}
use Rattle.downlink.specs.Cells.{fields_refusal, question_refusal}
use Rattle.downlink.specs.Answers.{refused_plan}
use Rattle.downlink.specs.declared.DownlinkPlan.{DownlinkPlan}
use Rattle.npdcch.specs.Refusals as npdcch
use Rattle.npdcch.specs.Scaffold as npdcch_scaffold
use Rattle.npdcch.specs.Questions.{plan_of}
use Rattle.search_space.specs.declared.SearchSpace.{SearchSpace}
use Rattle.search_space.specs.declared.SearchAnswer.{SearchAnswer}
use Rattle.search_space.specs.declared.Candidate.{Candidate}
use Rattle.search_space.specs.Starts.{period_of, part_of, start_of}
use Rattle.search_space.specs.Refusals.{space_refusal, refusal_of}
use Rattle.search_space.specs.Candidates.{Label, labels_of, candidate_at}
use Rattle.search_space.specs.Questions.{refused_search, monitored_in, search_of}
use Rattle.search_space.specs.Promised.{FirstStart, grant_of, Planned, Answered, SearchPromises}
use Rattle.search_space.proofs.Accepting.{Timed, timed, part_below}
use Rattle.search_space.proofs.Labels.{label_at}
use Rattle.search_space.proofs.Order.{is_one_lem, entry_at, lists_all}
use Rattle.search_space.proofs.Starting.{first_start}

-- ---- the start

start_first : (s : SearchSpace) → Timed s → FirstStart (period_of s) (part_of s) s.n (start_of s)
unfolding start_of
start_first s t =
    first_start (period_of s) (part_of s) s.n (part_below s.alpha (period_of s) t.fields.alpha (omega (arith, t.long))) t.inside

-- ---- a candidate as control

module _ (c : Cell) (anchor other : List ℕ) (judged : judge_of c anchor other ≡ 0) where
  abbrev u : ℕ → Bool
  u = usable c (bitmap_in c.config (own_buffer c.config anchor other))

  again : (t : ℕ) → u (t + period) ≡ u t
  again = repeating.usable_again c _ (accepted_bitmap c anchor other judged).listed (accepted_messages c anchor other judged)

  some : 0 < rank u period
  unfolding judge_of
  some = positive (rank u period) (eqb-false (rank u period) 0 (accepted_some c (own_buffer c.config anchor other) judged))

  module _ (start : ℕ) (x : Label) (r : is_repetition x.r ≡ true) where
    abbrev at : ℕ → ℕ
    at = select u period start

    abbrev y : Candidate
    y = candidate_at at x

    -- from the first one on
    from : (i : ℕ) → select u period (select u period y.first 0) i ≡ at (x.u * x.r + i)
    from i =
        ap (λ (t : ℕ). select u period t i) (select_from u period again some start (x.u * x.r) 0 ∙ ap at (add-zero (x.u * x.r)))
        ∙ select_from u period again some start (x.u * x.r) i

    granted : y.first ≤ last_subframe → npdcch_scaffold.refusal_of c anchor other (grant_of y) ≡ 0
    unfolding question_refusal npdcch.grant_refusal fields_refusal
    granted h = rw (judged, le-ltb last_subframe y.first h, r) refl

    pub planned_at : y.first ≤ last_subframe → Planned (plan_of c anchor other (grant_of y)) y
    unfolding plan_of
    planned_at h =
        let p = accepted refused_plan (npdcch_scaffold.refusal_of c anchor other (grant_of y)) _ (granted h) in
        let e : x.u * x.r + (x.r * 1 - 1) ≡ x.u * x.r + x.r - 1 = omega (arith, (repetition_bounds x.r r).0) in
        record {
          accepted = ap (λ (p : DownlinkPlan). p.no) p;
          first = ap (λ (p : DownlinkPlan). p.first) p ∙ from 0 ∙ ap at (add-zero (x.u * x.r));
          last = ap (λ (p : DownlinkPlan). p.last) p ∙ from (x.r * 1 - 1) ∙ ap at e;
        }

-- ---- every answer

module _ (c : Cell) (anchor other : List ℕ) (s : SearchSpace) (a : refusal_of c anchor other s ≡ 0) where
  both : (judge_of c anchor other ≡ 0) × (space_refusal s ≡ 0)
  unfolding question_refusal
  both = chained (judge_of c anchor other) (space_refusal s) a

  abbrev w : ℕ → Bool
  w = usable c (bitmap_in c.config (own_buffer c.config anchor other))

  monitored : Answered c anchor other s (monitored_in w s)
  unfolding monitored_in
  monitored =
      let t = timed s both.1 in
      let up = select_rises w period (again c anchor other both.0) (some c anchor other both.0) (start_of s) in
      let h = t.fields.rmax in
      record {
        start = start_first s t;
        list = lists_all s.rmax h (select w period (start_of s)) up;
        planned = λ k l.
            rw (entry_at s.rmax h (select w period (start_of s)) up k l)
            (planned_at c anchor other both.0 (start_of s) (label_at (labels_of s.rmax) k) (is_one_lem s.rmax h k l).1);
      }

  pub answered : Answered c anchor other s (search_of c anchor other s)
  unfolding search_of
  answered = subst (Answered c anchor other s) (sym (accepted refused_search (refusal_of c anchor other s) _ a)) monitored

accepted_search : (c : Cell) (anchor other : List ℕ) (s : SearchSpace) → (search_of c anchor other s).no ≡ 0 → refusal_of c anchor other s ≡ 0
unfolding search_of monitored_in
accepted_search c anchor other s e = accepts refused_search (λ (a : SearchAnswer). a.no) (λ m. refl) _ _ refl e

pub promises : SearchPromises
promises = record { answered = λ c anchor other s e. answered c anchor other s (accepted_search c anchor other s e) }
