-- What an accepted search space says of its numbers, and the answer by the branch that gave it.
use mathlib.Core.Bool.{Bool, true, cond}
use mathlib.Core.List.{List}
use mathlib.Core.Path.{◌≡◌, sym, ap, ◌∙◌, subst}
use Prim.Native.Nat.{ℕ, ◌*◌, ◌/◌, ◌≤◌, ◌<◌}
use native.Mathlib.Nat.{mul-le-mul_right}
use native.Mathlib.Omega.{arith}
use lib.Dec.{ltb, leb}
use lib.ListN.{length, get_or}
use borrow.Author.Tests.{ltb-false, leb-false}
use Rattle.counting.specs.Counting.{select}
use Rattle.counting.proofs.Facts.{passed, chained, either_parts}
use Rattle.grid.specs.Grid.{last_subframe}
use Rattle.grid.specs.Tables.{is_repetition}
use Rattle.subframes.specs.Scaffold.{left_in}
use Rattle.cell.specs.declared.Cell.{Cell}
use Rattle.cell.specs.declared.Verdict.{Verdict}
use Rattle.cell.specs.Bitmap.{own_buffer, bitmap_in}
use Rattle.cell.specs.Usable.{period}
use Rattle.cell.specs.Quick.{VerdictOn}
use Rattle.cell.proofs.Showing.{same_test}
use Rattle.std.specs.Prelude.{Result, Ok, IsErrAnd}
use Rattle.std.proofs.lemmas.Result.{err_from_is_err_and}
use Rattle.refusals.specs.declared.Refusal.{Refusal}
use Rattle.refusals.specs.Refusal.{number_of}
use Rattle.refusals.proofs.Numbers.{never_0}
use Rattle.cell.specs.Judge.{cell_refusal}
use Rattle.sending.proofs.Answer.{accepted, refused}
use Rattle.downlink.proofs.Judging.{by_cell, by_grant, fields_passed}
use Rattle.search_space.specs.declared.SearchSpace.{SearchSpace}
use Rattle.search_space.specs.declared.Candidate.{Candidate}
use Rattle.search_space.specs.declared.Cut.{Cut}
use Rattle.spans.specs.declared.Ends.{Ends}
use Rattle.search_space.specs.Starts.{hyperframe, doubled_period, part_of, start_of}
use Rattle.search_space.specs.Refusals.{above_largest, early_refusal, space_refusal, refusal_of}
use Rattle.search_space.specs.Candidates.{labels_of, room, blank, list_of}
use Rattle.search_space.specs.Questions.{refused_search, monitored_in, search_of}
use Rattle.search_space.specs.Quick.{cut_of, BlocksOf, entry_in, JudgedSpace}
use Rattle.search_space.proofs.Labels.{counted}
use Rattle.search_space.proofs.Listing.{list_is}

-- ---- 9, 10, 12, 22, 23

pub record Fielded (s : SearchSpace) : Type 0 where
  pub n : s.n ≤ last_subframe
  pub g : s.g < 8
  pub alpha : s.alpha ≤ 3
  pub rmax : is_repetition s.rmax ≡ true

pub fielded : (s : SearchSpace) → early_refusal s ≡ 0 → Fielded s
fielded s e =
    let p = fields_passed s.n (above_largest s) s.rmax e in
    let a = either_parts (ltb 7 s.g) (ltb 3 s.alpha) p.1 in
    record { n = p.0; g = omega (arith, ltb-false 7 s.g a.0); alpha = ltb-false 3 s.alpha a.1; rmax = p.2 }

pub record Timed (s : SearchSpace) : Type 0 where
  pub fields : Fielded s
  pub long : 8 ≤ doubled_period s
  pub inside : part_of s < hyperframe

pub timed : (s : SearchSpace) → space_refusal s ≡ 0 → Timed s
unfolding space_refusal
timed s e =
    let a = chained (early_refusal s) (cond (ltb (doubled_period s) 8) 22 (cond (leb hyperframe (part_of s)) 23 0)) e in
    let b = passed (ltb (doubled_period s) 8) 22 (cond (leb hyperframe (part_of s)) 23 0) (omega arith) a.1 in
    record {
      fields = fielded s a.0;
      long = ltb-false (doubled_period s) 8 b.0;
      inside = leb-false hyperframe (part_of s) (passed (leb hyperframe (part_of s)) 23 0 (omega arith) b.1).0;
    }

-- the offset's part is a part of T
pub part_below : (alpha period : ℕ) → alpha ≤ 3 → 0 < period → alpha * period / 8 < period
part_below alpha period h l = omega (arith, mul-le-mul_right {m = alpha} {n = 3} period h)

-- ---- the candidates

module _ (u : ℕ → Bool) (s : SearchSpace) (h : is_repetition s.rmax ≡ true) where
  pub monitored_is : (start : ℕ) (x : Cut) (b : List Ends) (list : List Candidate) → start ≡ start_of s → x ≡ cut_of s.rmax
      → BlocksOf (select u period start) x b → length list ≡ room → ((k : ℕ) → k < room → get_or list k blank ≡ entry_in b x k)
      → record { no = 0; start = start; count = x.count; list = list } ≡ monitored_in u s
  unfolding monitored_in
  monitored_is start x b list e f o n q =
      let many : x.count ≡ length (labels_of s.rmax) = ap (λ (y : Cut). y.count) f ∙ sym (counted s.rmax h).0 in
      let same : list ≡ list_of (select u period (start_of s)) s.rmax =
      list_is (select u period start) s.rmax h b (subst (λ (y : Cut). BlocksOf (select u period start) y b) f o) list n
      (λ k l. q k l ∙ ap (λ (y : Cut). entry_in b y k) f)
      ∙ ap (λ (t : ℕ). list_of (select u period t) s.rmax) e in
      λ i. record { no = 0; start = e i; count = many i; list = same i }

-- ---- the question, judged

module _ (c : Cell) (anchor other : List ℕ) (s : SearchSpace) where
  -- at the exit of a `?`
  refused_as : (e : Refusal) (r : Result Verdict Refusal) → IsErrAnd r (λ y. y ≡ e) → number_of e ≡ refusal_of c anchor other s
      → JudgedSpace c anchor other s r
  refused_as e r h f =
      let p = err_from_is_err_and r h in
      rw (p.1, p.2) (record { number = f; accepted = tt })

  pub cell_refused : (e : Refusal) (r : Result Verdict Refusal) → IsErrAnd r (λ y. y ≡ e)
      → number_of e ≡ cell_refusal c (own_buffer c.config anchor other) → JudgedSpace c anchor other s r
  cell_refused e r h f = refused_as e r h (by_cell c anchor other (space_refusal s) e f)

  module _ (v : Verdict) (j : VerdictOn c (own_buffer c.config anchor other) (Ok v)) where
    pub space_refused : (e : Refusal) (r : Result Verdict Refusal) → IsErrAnd r (λ y. y ≡ e) → number_of e ≡ space_refusal s
        → JudgedSpace c anchor other s r
    space_refused e r h f = refused_as e r h (f ∙ sym (by_grant c anchor other v j (space_refusal s)))

    pub neither : 0 ≡ space_refusal s → JudgedSpace c anchor other s (Ok v)
    neither e = record { number = e ∙ sym (by_grant c anchor other v j (space_refusal s)); accepted = (j.accepted, sym e) }

  pub told_refusal : (e : Refusal) → number_of e ≡ refusal_of c anchor other s → refused_search (number_of e) ≡ search_of c anchor other s
  unfolding search_of
  told_refusal e f = ap refused_search f ∙ sym (refused refused_search _ _ (λ z. never_0 e (f ∙ z)))

  pub told_starts : (v : Verdict) → JudgedSpace c anchor other s (Ok v)
      → monitored_in (left_in v.pattern v.laid c.messages) s ≡ search_of c anchor other s
  unfolding search_of
  told_starts v j =
      let a = j.accepted.0 in
      ap (λ (u : ℕ → Bool). monitored_in u s) (same_test c (bitmap_in c.config (own_buffer c.config anchor other)) v.pattern v.laid a.shows a.laid)
      ∙ sym (accepted refused_search _ _ (sym j.number))
