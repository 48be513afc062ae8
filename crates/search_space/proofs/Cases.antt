-- The cases of L6 hold.
use mathlib.Core.Bool.{Bool}
use mathlib.Core.List.{List, []}
use mathlib.Core.Path.{◌≡◌, refl, ap, ◌∙◌, fun_ext}
use Prim.Native.Nat.{ℕ}
use lib.Dec.{eqb}
use Rattle.counting.specs.Counting.{rank, next, select}
use Rattle.grid.specs.Tables.{is_repetition}
use Rattle.bitmap.specs.Bitmap.{bytes_of, allowed}
use Rattle.messages.specs.Messages.{are_listed}
use Rattle.cell.specs.Bitmap.{own_buffer}
use Rattle.cell.specs.Usable.{anchor_cause, free, usable}
use Rattle.cell.specs.Judge.{numbers_refusal, judge_of}
use Rattle.cell.proofs.Taken.{unlaid}
use Rattle.cell.proofs.Cases.{unmapped}
use Rattle.sending.specs.Answer.{answer_of}
use Rattle.sending.proofs.Answer.{accepted}
use Rattle.downlink.specs.Cells.{fields_refusal, question_refusal}
use Rattle.search_space.specs.declared.SearchSpace.{SearchSpace}
use Rattle.search_space.specs.declared.SearchAnswer.{SearchAnswer}
use Rattle.search_space.specs.Starts.{doubled_period, start_of}
use Rattle.search_space.specs.Refusals.{space_refusal, refusal_of}
use Rattle.search_space.specs.Candidates.{levels_of, labels_of, list_of}
use Rattle.search_space.specs.Questions.{refused_search, monitored_in, search_of}
use Rattle.search_space.specs.Cases.{one_anchor, space, space_number, SearchCases}

-- with no messages what is free is usable
same : usable one_anchor [] ≡ free one_anchor.config []
same = fun_ext (λ t. unlaid one_anchor [] t refl)

module _ (anchor other : List ℕ) where
  judged : judge_of one_anchor anchor other ≡ 0
  unfolding judge_of numbers_refusal are_listed
  judged = unmapped one_anchor (own_buffer one_anchor.config anchor other) refl refl refl refl

  refusal : (s : SearchSpace) (n : ℕ) → space_refusal s ≡ n → refusal_of one_anchor anchor other s ≡ n
  unfolding question_refusal
  refusal s n e = rw judged e

  found : (s : SearchSpace) → space_refusal s ≡ 0 → search_of one_anchor anchor other s ≡ monitored_in (free one_anchor.config []) s
  unfolding search_of bytes_of
  found s e =
      accepted refused_search (refusal_of one_anchor anchor other s) _ (refusal s 0 e) ∙ ap (λ (u : ℕ → Bool). monitored_in u s) same

  turned : (s : SearchSpace) (n : ℕ) → space_refusal s ≡ n → search_of one_anchor anchor other s ≡ answer_of refused_search n (monitored_in (free one_anchor.config []) s)
  unfolding search_of bytes_of
  turned s n e = rw (refusal s n e, same) refl

-- computed
refusals : (space_refusal (space 15 4 2 1) ≡ 0) × (space_refusal (space 10238 4 0 2) ≡ 0) × (space_refusal (space 1 2048 7 0) ≡ 0)
    × (space_refusal (space 0 512 7 3) ≡ 23) × (space_refusal (space 0 1 1 0) ≡ 22) × (space_refusal (space 0 3 8 0) ≡ 10)
    × (space_refusal (space 0 8 1 0) ≡ 0)
unfolding space_refusal fields_refusal is_repetition doubled_period
refusals = (refl, refl, refl, refl, refl, refl, refl)

counts : (rank (λ i. eqb (space_refusal (space_number i)) 22) 384 ≡ 12) × (rank (λ i. eqb (space_refusal (space_number i)) 23) 384 ≡ 15)
unfolding rank space_refusal fields_refusal is_repetition doubled_period
counts = (refl, refl)

starts : (start_of (space 10238 4 0 2) ≡ 10241) × (start_of (space 1 2048 7 0) ≡ 10240)
unfolding start_of doubled_period next
starts = (refl, refl)

pub cases : SearchCases
unfolding monitored_in start_of doubled_period next select levels_of labels_of list_of allowed free anchor_cause answer_of
cases = record {
  seven = λ anchor other. found anchor other (space 15 4 2 1) refusals.0 ∙ refl;
  fifteen = λ anchor other. found anchor other (space 0 8 1 0) refusals.6 ∙ refl;
  turn = λ anchor other. ap (λ (a : SearchAnswer). a.start) (found anchor other (space 10238 4 0 2) refusals.1) ∙ starts.0;
  long = λ anchor other. ap (λ (a : SearchAnswer). a.start) (found anchor other (space 1 2048 7 0) refusals.2) ∙ starts.1;
  part = λ anchor other. turned anchor other (space 0 512 7 3) 23 refusals.3;
  short = λ anchor other. turned anchor other (space 0 1 1 0) 22 refusals.4;
  field = λ anchor other. turned anchor other (space 0 3 8 0) 10 refusals.5;
  refused_22 = counts.0;
  refused_23 = counts.1;
}
