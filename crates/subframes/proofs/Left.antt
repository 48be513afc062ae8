-- What is left repeats, and with no message the search by the pattern's own period is the same.
use mathlib.Core.Bool.{Bool, true, false}
use mathlib.Core.Path.{◌≡◌, refl, sym, ap, ◌∙◌}
use Prim.Native.Nat.{ℕ, zero, suc, ◌+◌, ◌*◌, ◌-◌, ◌^◌, ◌≤◌, ◌<◌}
use native.Mathlib.Nat.{mul-zero}
use native.Mathlib.Omega.{arith}
use lib.Dec.{eqb}
use borrow.Author.Tests.{eq-eqb, ne_eqb}
use mathlib.Core.Logic.{◌⊎◌, inl, inr}
use Rattle.counting.specs.Counting.{rank, select}
use Rattle.counting.proofs.Facts.{order, truth}
use Rattle.counting.proofs.Rank.{rank_mono}
use Rattle.counting.proofs.Period.{rank_whole, repeats_times, select_same}
use Rattle.spans.specs.declared.Pattern.{Pattern}
use Rattle.spans.specs.Pattern.{allows, period_of, Regular}
use Rattle.spans.proofs.Laws.{few_spans, repeats}
use Rattle.spans.specs.Found.{found_among}
use Rattle.messages.specs.declared.Messages.{Messages}
use Rattle.messages.specs.Messages.{all_periods, remaining}
use Rattle.messages.proofs.Repeating.{remaining_again}
use Rattle.subframes.specs.Scaffold.{left_in, Laid, Searchable}

-- 40,960 subframes are whole periods of a pattern
whole_by : (k : ℕ) → k ≤ 4 → 2 ^ (10 - k) * (40 * 2 ^ k) ≡ all_periods
whole_by zero h = refl
whole_by (suc zero) h = refl
whole_by (suc (suc zero)) h = refl
whole_by (suc (suc (suc zero))) h = refl
whole_by (suc (suc (suc (suc zero)))) h = refl
whole_by (suc (suc (suc (suc (suc k))))) h = absurd (omega arith)

module _ (p : Pattern) (ok : Regular p) where
  abbrev times : ℕ
  times = 2 ^ (10 - p.log)

  pub allows_again : (t : ℕ) → allows p (t + all_periods) ≡ allows p t
  allows_again t =
      ap (λ (x : ℕ). allows p (t + x)) (sym (whole_by p.log ok.few)) ∙ repeats_times (allows p) (period_of p) (repeats p ok) times t

  all_rank : rank (allows p) all_periods ≡ times * rank (allows p) (period_of p)
  all_rank = ap (rank (allows p)) (sym (whole_by p.log ok.few)) ∙ rank_whole (allows p) (period_of p) (repeats p ok) times

  pub none_alone : rank (allows p) (period_of p) ≡ 0 → rank (allows p) all_periods ≡ 0
  none_alone z = all_rank ∙ ap (λ (x : ℕ). times * x) z ∙ mul-zero times

  pub some_alone : 0 < rank (allows p) all_periods → 0 < rank (allows p) (period_of p)
  some_alone h = by (order 0 (rank (allows p) (period_of p)))
    where
      by : (0 < rank (allows p) (period_of p)) ⊎ (rank (allows p) (period_of p) ≤ 0) → 0 < rank (allows p) (period_of p)
      by (inl s) = s
      by (inr s) = absurd (omega (arith, none_alone (omega arith)))

  -- whether there is none is the same over both
  pub empty_alone : eqb (rank (allows p) (period_of p)) 0 ≡ eqb (rank (allows p) all_periods) 0
  empty_alone =
      by (rank (allows p) (period_of p)) (rank (allows p) all_periods) none_alone
      (rank_mono (allows p) (period_of p) all_periods (omega (arith, few_spans p ok)))
    where
      by : (a b : ℕ) → (a ≡ 0 → b ≡ 0) → a ≤ b → eqb a 0 ≡ eqb b 0
      by zero b f g = sym (eq-eqb b 0 (f refl))
      by (suc a) zero f g = absurd (omega arith)
      by (suc a) (suc b) f g = ne_eqb (suc a) 0 (λ z. omega arith) ∙ sym (ne_eqb (suc b) 0 (λ z. omega arith))

  -- and so is the search
  pub select_alone : 0 < rank (allows p) all_periods → (f j : ℕ) → select (allows p) (period_of p) f j ≡ select (allows p) all_periods f j
  select_alone h = select_same (allows p) (period_of p) all_periods (repeats p ok) allows_again (some_alone h) h

  pub found_alone : 0 < rank (allows p) all_periods → (f skip many t : ℕ)
      → found_among (allows p) (period_of p) (select (allows p) (period_of p) f skip) many t
      ≡ found_among (allows p) all_periods (select (allows p) all_periods f skip) many t
  unfolding found_among
  found_alone h f skip many t = rw (select_alone h f skip, select_alone h _ 0, select_alone h _ (many - 1)) refl

module _ (p : Pattern) (laid : Bool) (ms : Messages) where
  pub left_laid : laid ≡ true → left_in p laid ms ≡ remaining ms (allows p)
  unfolding left_in
  left_laid h = rw h refl

  pub left_alone : laid ≡ false → left_in p laid ms ≡ allows p
  unfolding left_in
  left_alone h = rw h refl

  -- what is left in a search
  module _ (q : Searchable p laid ms) where
    pub some_laid : laid ≡ true → 0 < rank (remaining ms (allows p)) all_periods
    some_laid h = rw (left_laid h) at q.some

    pub some_whole : laid ≡ false → 0 < rank (allows p) all_periods
    some_whole h = rw (left_alone h) at q.some

    pub some_of_pattern : laid ≡ false → 0 < rank (allows p) (period_of p)
    some_of_pattern h = some_alone p q.on.regular (some_whole h)

  pub left_again : Laid p laid ms → (t : ℕ) → left_in p laid ms (t + all_periods) ≡ left_in p laid ms t
  left_again ok t = by (truth laid)
    where
      by : (laid ≡ true) ⊎ (laid ≡ false) → left_in p laid ms (t + all_periods) ≡ left_in p laid ms t
      by (inl h) = rw (left_laid h) (remaining_again ms (ok.listed h) (allows p) (allows_again p ok.regular) t)
      by (inr h) = rw (left_alone h) (allows_again p ok.regular t)
