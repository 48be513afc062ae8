-- What is usable repeats: the bitmap and the anchor every 2,560 subframes, messages every 40,960.
use mathlib.Core.Bool.{Bool, true, false, cond, not, ◌&&◌}
use mathlib.Core.List.{List}
use mathlib.Core.Path.{◌≡◌, refl, sym, ap, ap₂, ◌∙◌}
use Prim.Native.Nat.{ℕ, zero, suc, ◌+◌, ◌*◌, ◌%◌, ◌^◌, ◌<◌}
use native.Mathlib.Nat.{mod-lt}
use native.Mathlib.Omega.{arith}
use lib.Dec.{lit<}
use mathlib.Core.Logic.{◌⊎◌, inl, inr}
use Rattle.counting.specs.Counting.{rank}
use Rattle.counting.proofs.Facts.{truth}
use Rattle.counting.proofs.Period.{repeats_times, some_of}
use Rattle.spans.specs.declared.Pattern.{Pattern}
use Rattle.spans.specs.Pattern.{span, allows, period_of}
use Rattle.spans.proofs.Laws.{repeats}
use Rattle.bitmap.specs.Bitmap.{listed_length, allowed}
use Rattle.bitmap.proofs.Forty.{allowed_forty}
use Rattle.sync.specs.Sync.{by_schedule}
use Rattle.sync.specs.Quick.{anchor_pattern}
use Rattle.sync.proofs.Taken.{taken, anchor_regular, anchor_allows}
use Rattle.messages.specs.Messages.{are_listed}
use Rattle.messages.proofs.Repeating.{remaining_again}
use Rattle.cell.specs.declared.CellConfig.{CellConfig}
use Rattle.cell.specs.declared.Cell.{Cell}
use Rattle.cell.specs.Usable.{period, is_anchor, free, usable}
use Rattle.cell.specs.Quick.{lays_messages}
use Rattle.cell.proofs.Taken.{free_is, usable_is}

-- ---- 2,560 subframes have the anchor's pattern 4, 8 or 16 times

abbrev pub short : ℕ
short = 2560

times_at : ℕ → ℕ
times_at r = by_schedule r 4 8 16

whole_at : (r : ℕ) → r < 3 → times_at r * (span * 2 ^ by_schedule r 4 3 2) ≡ short
unfolding times_at
whole_at zero h = refl
whole_at (suc zero) h = refl
whole_at (suc (suc zero)) h = refl
whole_at (suc (suc (suc r))) h = absurd (omega arith)

anchor_short : (a k : ℕ) → times_at (k % 3) * period_of (anchor_pattern a k) ≡ short
unfolding anchor_pattern
anchor_short a k = whole_at (k % 3) (mod-lt k (lit< tt))

allowed_again : (b : List ℕ) (bits t : ℕ) → listed_length bits ≡ true → allowed b bits (t + short) ≡ allowed b bits t
allowed_again b bits t h =
    let e : (t + short) % 40 ≡ t % 40 = omega arith in
    sym (allowed_forty b bits (t + short) h) ∙ ap (allowed b bits) e ∙ allowed_forty b bits t h

taken_again : (identity schedule t : ℕ) → not (taken identity schedule (t + short)) ≡ not (taken identity schedule t)
taken_again identity schedule t =
    let p : Pattern = anchor_pattern identity schedule in
    sym (anchor_allows identity schedule (t + short)) ∙ ap (λ (x : ℕ). allows p (t + x)) (sym (anchor_short identity schedule))
    ∙ repeats_times (allows p) (period_of p) (repeats p (anchor_regular identity schedule)) (times_at (schedule % 3)) t ∙ anchor_allows identity schedule t

not_both : (a x y : Bool) → not x ≡ not y → not (a && x) ≡ not (a && y)
not_both true x y e = e
not_both false x y e = refl

module _ (c : CellConfig) (b : List ℕ) (listed : listed_length c.bits ≡ true) where
  free_short : (t : ℕ) → free c b (t + short) ≡ free c b t
  free_short t =
      free_is c b (t + short)
      ∙ ap₂ ◌&&◌ (allowed_again b c.bits t listed) (not_both (is_anchor c) _ _ (taken_again c.identity c.sib1 t))
      ∙ sym (free_is c b t)

  pub free_again : (t : ℕ) → free c b (t + period) ≡ free c b t
  free_again t = repeats_times (free c b) short free_short 16 t

  -- none is free where none of 2,560 is
  pub none_free : rank (free c b) short ≡ 0 → (t : ℕ) → free c b t ≡ false
  none_free z t = by (truth (free c b t))
    where
      by : (free c b t ≡ true) ⊎ (free c b t ≡ false) → free c b t ≡ false
      by (inl y) = absurd (omega (arith, some_of (free c b) short free_short t (omega arith) y))
      by (inr n) = n

module _ (c : Cell) (b : List ℕ) (bitmap : listed_length c.config.bits ≡ true) (messages : are_listed c.messages ≡ true) where
  pub usable_again : (t : ℕ) → usable c b (t + period) ≡ usable c b t
  usable_again t =
      usable_is c b (t + period)
      ∙ ap₂ (λ (x y : Bool). cond (lays_messages c) x y)
      (remaining_again c.messages messages (free c.config b) (free_again c.config b bitmap) t) (free_again c.config b bitmap t)
      ∙ sym (usable_is c b t)
