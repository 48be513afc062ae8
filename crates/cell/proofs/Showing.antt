-- The masks of a well-formed cell say of each subframe whether it is free, and what is left in the pattern is what is usable.
use mathlib.Core.Bool.{Bool, true, false, cond, not, ◌&&◌}
use mathlib.Core.List.{List}
use mathlib.Core.Path.{◌≡◌, refl, sym, ap, ap₂, ◌∙◌, fun_ext}
use mathlib.Core.Logic.{⊎_elim}
use Prim.Native.Nat.{ℕ, ◌+◌, ◌-◌, ◌*◌, ◌/◌, ◌%◌, ◌<◌}
use native.Mathlib.Nat.{zero-add}
use native.Mathlib.Omega.{arith}
use lib.Bits.{bit_and, and_le_l}
use lib.Count.{ones}
use Rattle.counting.specs.Counting.{rank}
use Rattle.counting.proofs.Facts.{order}
use Rattle.counting.proofs.Rank.{rank_zero}
use Rattle.counting.proofs.Ones.{and_bits, span_all}
use Rattle.counting.proofs.Period.{rank_whole}
use Rattle.spans.specs.declared.Pattern.{Pattern}
use Rattle.spans.specs.Pattern.{span, mask_bit, with_sib1, mask_at, allows}
use Rattle.spans.proofs.Laws.{ones_none, ones_some, mask_bits}
use Rattle.bitmap.specs.Bitmap.{allowed}
use Rattle.bitmap.specs.Quick.{Loaded, BitmapFits}
use Rattle.bitmap.proofs.Forty.{allowed_forty, allowed_front}
use Rattle.sync.specs.Quick.{anchor_pattern}
use Rattle.sync.proofs.Taken.{taken, anchor_regular, anchor_allows}
use Rattle.messages.specs.Messages.{remaining}
use Rattle.subframes.specs.Scaffold.{left_in}
use Rattle.cell.specs.declared.CellConfig.{CellConfig}
use Rattle.cell.specs.declared.Cell.{Cell}
use Rattle.cell.specs.Bitmap.{bitmap_in}
use Rattle.cell.specs.Usable.{period, is_anchor, free, why, usable}
use Rattle.cell.specs.Quick.{Shows, lays_messages, why_not, seen}
use Rattle.cell.proofs.Taken.{free_is, usable_is, why_is}

and_true : (b : Bool) → (b && true) ≡ b
and_true true = refl
and_true false = refl

module _ (c : CellConfig) (own : List ℕ) (m : ℕ) (fits : BitmapFits c.bits own) (l : Loaded own c.bits m) where
  -- a digit of the bitmap allows its subframe
  digit_allows : (t : ℕ) → mask_bit m (t % span) ≡ allowed (bitmap_in c own) c.bits t
  digit_allows t =
      l.digits (t % span) (omega arith) ∙ allowed_forty own c.bits t fits.listed ∙ sym (allowed_front own c.bits t fits.listed)

  -- ---- refusal 8: the bitmap's ones

  allowed_again : (t : ℕ) → allowed (bitmap_in c own) c.bits (t + span) ≡ allowed (bitmap_in c own) c.bits t
  allowed_again t =
      let e : (t + span) % 40 ≡ t % 40 = omega arith in
      sym (allowed_forty (bitmap_in c own) c.bits (t + span) fits.listed) ∙ ap (allowed (bitmap_in c own) c.bits) e
      ∙ allowed_forty (bitmap_in c own) c.bits t fits.listed

  digit_of_span : (i : ℕ) → i < span → mask_bit m i ≡ allowed (bitmap_in c own) c.bits (0 + i)
  digit_of_span i h = l.digits i h ∙ sym (allowed_front own c.bits i fits.listed) ∙ ap (allowed (bitmap_in c own) c.bits) (sym (zero-add i))

  allowed_rank : rank (allowed (bitmap_in c own) c.bits) period ≡ 1024 * ones m
  allowed_rank =
      let u : ℕ → Bool = allowed (bitmap_in c own) c.bits in
      let e : rank u span ≡ ones m = omega (arith, span_all u m 0 span l.small digit_of_span, rank_zero u, ap (rank u) (zero-add span)) in
      rank_whole u span allowed_again 1024 ∙ ap (λ (x : ℕ). 1024 * x) e

  pub none_allowed_lem : m ≡ 0 → rank (allowed (bitmap_in c own) c.bits) period ≡ 0
  none_allowed_lem e = omega (arith, allowed_rank, ap ones e, ones_none)

  pub some_allowed : (m ≡ 0 → ⊥) → rank (allowed (bitmap_in c own) c.bits) period ≡ 0 → ⊥
  some_allowed n z = ⊎_elim (λ h. omega (arith, allowed_rank, ones_some 40 m l.small h)) (λ h. n (omega arith)) (order 0 m)

  -- ---- refusal 18 and the pattern

  -- from each subframe to the bits of the masks
  bits_of : (p : Pattern) → ((t : ℕ) → allows p t ≡ free c (bitmap_in c own) t) → (s i : ℕ) → i < span
      → mask_bit (mask_at p s) i ≡ free c (bitmap_in c own) (span * s + i)
  bits_of p same s i h = mask_bits p s i h ∙ same (span * s + i)

  free_by : (t : ℕ) (b : Bool) → is_anchor c ≡ b → free c (bitmap_in c own) t ≡ (allowed (bitmap_in c own) c.bits t && not (b && taken c.identity c.sib1 t))
  free_by t b e = free_is c (bitmap_in c own) t ∙ ap (λ (x : Bool). allowed (bitmap_in c own) c.bits t && not (x && taken c.identity c.sib1 t)) e

  -- ---- on the anchor: what both the bitmap and the anchor leave

  abbrev left : Pattern
  left = record {
    log = (anchor_pattern c.identity c.sib1).log;
    first = (anchor_pattern c.identity c.sib1).first;
    usual = bit_and m (anchor_pattern c.identity c.sib1).usual;
    sib1 = bit_and m (anchor_pattern c.identity c.sib1).sib1;
  }

  both_masks : (b : Bool) (x y : ℕ) → cond b (bit_and m x) (bit_and m y) ≡ bit_and m (cond b x y)
  both_masks true x y = refl
  both_masks false x y = refl

  left_allows : (t : ℕ) → allows left t ≡ (mask_bit m (t % span) && allows (anchor_pattern c.identity c.sib1) t)
  unfolding allows
  left_allows t =
      let p = anchor_pattern c.identity c.sib1 in
      ap (λ (x : ℕ). mask_bit x (t % span)) (both_masks (with_sib1 p (t / span)) p.sib1 p.usual) ∙ and_bits m (mask_at p (t / span)) (39 - t % span)

  pub shows_anchor : is_anchor c ≡ true → Shows c (bitmap_in c own) left
  shows_anchor e =
      let p = anchor_pattern c.identity c.sib1 in
      let ok = anchor_regular c.identity c.sib1 in
      record {
        regular = record {
          fits = ok.fits;
          few = ok.few;
          usual_small = omega (arith, and_le_l m p.usual, l.small);
          sib1_small = omega (arith, and_le_l m p.sib1, l.small);
        };
        bits = bits_of left λ t.
            left_allows t ∙ ap₂ (λ (x y : Bool). x && y) (digit_allows t) (anchor_allows c.identity c.sib1 t) ∙ sym (free_by t true e);
      }

  -- ---- on a non-anchor the bitmap alone decides

  abbrev alone : Pattern
  alone = record { log = 2; first = 0; usual = m; sib1 = m }

  one_mask : (b : Bool) → cond b m m ≡ m
  one_mask true = refl
  one_mask false = refl

  alone_allows : (t : ℕ) → allows alone t ≡ mask_bit m (t % span)
  unfolding allows
  alone_allows t = ap (λ (x : ℕ). mask_bit x (t % span)) (one_mask (with_sib1 alone (t / span)))

  pub shows_other : is_anchor c ≡ false → Shows c (bitmap_in c own) alone
  shows_other e = record {
    regular = record { fits = omega arith; few = omega arith; usual_small = l.small; sib1_small = l.small };
    bits = bits_of alone λ t. alone_allows t ∙ digit_allows t ∙ sym (and_true (allowed (bitmap_in c own) c.bits t)) ∙ sym (free_by t false e);
  }

-- ---- from the pattern to the usable subframes

module _ (c : Cell) (b : List ℕ) (p : Pattern) (laid : Bool) (s : Shows c.config b p) (l : laid ≡ lays_messages c) where
  free_at_lem : (t : ℕ) → allows p t ≡ free c.config b t
  unfolding allows
  free_at_lem t =
      let e : span * (t / span) + t % span ≡ t = omega arith in
      s.bits (t / span) (t % span) (omega arith) ∙ ap (free c.config b) e

  free_test : allows p ≡ free c.config b
  free_test = fun_ext free_at_lem

  -- what is left in the pattern is usable
  pub same : (t : ℕ) → left_in p laid c.messages t ≡ usable c b t
  unfolding left_in
  same t =
      rw (l, free_test) (at (lays_messages c) (remaining c.messages (free c.config b)) (free c.config b)) ∙ sym (usable_is c b t)
    where
      at : (b : Bool) (x y : ℕ → Bool) → cond b x y t ≡ cond b (x t) (y t)
      at true x y = refl
      at false x y = refl

  pub same_test : left_in p laid c.messages ≡ usable c b
  same_test = fun_ext same

  -- the cause by the pattern is the cause
  pub seen_is : (t : ℕ) → seen c p laid t ≡ why c b t
  unfolding seen why_not
  seen_is t = rw (same t, l, free_at_lem t) (why_is c b t)
