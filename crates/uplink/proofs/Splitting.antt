-- A position taken apart line by line, and a slot found by whole gap periods: what the quick code works out is what the definitions say.
use mathlib.Core.Bool.{Bool, true, false, cond, true≢false}
use mathlib.Core.Path.{◌≡◌, refl, sym, ap, ap₂, ◌∙◌}
use mathlib.Core.Logic.{⊎_elim}
use Prim.Native.Nat.{ℕ, ◌+◌, ◌-◌, ◌*◌, ◌/◌, ◌%◌, ◌≤◌, ◌<◌}
use native.Mathlib.Nat.{mul_comm, mod-lt, div-mul-le_self, div-div-eq-div-mul, mod-eq-sub-div-mul}
use native.Mathlib.Omega.{arith}
use lib.Arith.{digits_div, digits_mod, mod-mul}
use lib.Dec.{ltb}
use borrow.Author.Tests.{lt-ltb, le-ltb, ltb-true}
use Rattle.counting.specs.Counting.{rank}
use Rattle.counting.proofs.Facts.{order}
use Rattle.grid.specs.Grid.{symbols, uplink_symbol_of, uplink_subcarrier_of}
use Rattle.uplink.specs.declared.Shape.{Shape}
use Rattle.std.specs.Prelude.{Option, Some, None, is_some}
use Rattle.std.specs.Option.{unwrap_or}
use Rattle.uplink.specs.declared.Split.{Split}
use Rattle.uplink.specs.Fits.{Fits}
use Rattle.uplink.specs.Timing.{gap_period, in_block, active, sent_slots, is_sent, index_of}
use Rattle.uplink.specs.Scaffold.{all_open}
use Rattle.uplink.specs.Elements.{slot_data, element_at}
use Rattle.uplink.specs.Quick.{symbol_of_line, split_of, active_index, Located}
use Rattle.uplink.proofs.Lines.{slot_data_lem, some_data, symbol_first, symbol_second, subcarrier_is}
use Rattle.uplink.proofs.GapPeriods.{before_in_block, blocks_below, plain, plain_rank}
use Rattle.uplink.proofs.Joined.{unsent_before, sent_is}

module _ (s : Shape) (f : Fits s) (p : ℕ) where
  -- lines of a slot
  abbrev lines : ℕ
  lines = symbols - s.references

  some_lines : 0 < lines
  some_lines = omega (arith, f.references)

  pub slot_of_lem : p / s.tones / lines ≡ p / slot_data s
  slot_of_lem =
      div-div-eq-div-mul p s.tones lines
      ∙ ap (λ (w : ℕ). p / w) (mul_comm s.tones lines ∙ slot_data_lem s f)

  rest_of : p % slot_data s ≡ p / s.tones % lines * s.tones + p % s.tones
  rest_of = ap (λ (w : ℕ). p % w) (sym (slot_data_lem s f)) ∙ mod-mul p some_lines f.tones

  line_of : p % slot_data s / s.tones ≡ p / s.tones % lines
  line_of = ap (λ (x : ℕ). x / s.tones) rest_of ∙ digits_div (p / s.tones % lines) (mod-lt p f.tones)

  tone_of_lem : p % slot_data s % s.tones ≡ p % s.tones
  tone_of_lem = ap (λ (x : ℕ). x % s.tones) rest_of ∙ digits_mod (p / s.tones % lines) (mod-lt p f.tones)

  below : p % slot_data s < slot_data s
  below = mod-lt p (some_data s f)

  symbol_of_lem : symbol_of_line s (p / s.tones % lines) ≡ uplink_symbol_of s.subcarriers (element_at s (p % slot_data s))
  symbol_of_lem =
      ap (symbol_of_line s) (sym line_of)
      ∙ ⊎_elim
      (λ h. rw (lt-ltb (p % slot_data s / s.tones) s.reference h) (symbol_first s f (p % slot_data s) below h))
      (λ h. rw (le-ltb (p % slot_data s / s.tones) s.reference h) (symbol_second s f (p % slot_data s) below h))
      (order (p % slot_data s / s.tones) s.reference)

  subcarrier_of_lem : s.tone + p % s.tones ≡ uplink_subcarrier_of s.subcarriers (element_at s (p % slot_data s))
  subcarrier_of_lem = ap (λ (x : ℕ). s.tone + x) (sym tone_of_lem) ∙ subcarrier_is s f (p % slot_data s) below

  -- of the line that the position is on
  module _ (line : ℕ) (on : line ≡ p / s.tones) where
    pub line_rest : line - line / lines * lines ≡ p / s.tones % lines
    line_rest = sym (mod-eq-sub-div-mul line lines) ∙ ap (λ (x : ℕ). x % lines) on

    pub slots_fit : line / lines * (lines * s.tones) ≤ p
    slots_fit = omega (arith, ap (λ (x : ℕ). x / lines * (lines * s.tones)) on, ap (λ (x : ℕ). x * (lines * s.tones)) slot_of_lem, ap (λ (x : ℕ). p / slot_data s * x) (slot_data_lem s f), div-mul-le_self p (slot_data s))

    element_of_lem : p - line / lines * (lines * s.tones) ≡ p % slot_data s
    element_of_lem =
        ap (λ (x : ℕ). p - x / lines * (lines * s.tones)) on
        ∙ ap (λ (x : ℕ). p - x * (lines * s.tones)) slot_of_lem
        ∙ ap (λ (x : ℕ). p - p / slot_data s * x) (slot_data_lem s f)
        ∙ sym (mod-eq-sub-div-mul p (slot_data s))

    pub tone_rest : p - line * s.tones ≡ p % s.tones
    tone_rest = ap (λ (x : ℕ). p - x * s.tones) on ∙ sym (mod-eq-sub-div-mul p s.tones)

    pub split_is : (l : ℕ) → l ≡ symbol_of_line s (line - line / lines * lines)
        → ◌≡◌ {A = Split}
        (record { i = line / lines; e = p - line / lines * (lines * s.tones); l = l; k = s.tone + (p - line * s.tones) })
        (split_of s p)
    split_is l at =
        λ j. record {
          i = (ap (λ (x : ℕ). x / lines) on ∙ slot_of_lem) j;
          e = element_of_lem j;
          l = (at ∙ ap (symbol_of_line s) line_rest ∙ symbol_of_lem) j;
          k = (ap (λ (x : ℕ). s.tone + x) tone_rest ∙ subcarrier_of_lem) j;
        }

-- ---- a slot found by whole gap periods, where there is no window

module _ (s : Shape) (f : Fits s) (x whole : ℕ) (by : whole ≡ x / gap_period s) where
  period_rest : x - whole * gap_period s ≡ x % gap_period s
  period_rest = ap (λ (y : ℕ). x - y * gap_period s) by ∙ sym (mod-eq-sub-div-mul x (gap_period s))

  by_whole : whole * s.block + (x - whole * gap_period s) ≡ x / gap_period s * s.block + x % gap_period s
  by_whole = ap₂ (λ (a b : ℕ). a * s.block + b) by period_rest

  pub index_fits : whole * s.block + (x - whole * gap_period s) ≤ x
  index_fits = omega (arith, by_whole, blocks_below s f.block x)

  block_is : ltb (x - whole * gap_period s) s.block ≡ in_block s x
  unfolding in_block
  block_is = ap (λ (y : ℕ). ltb y s.block) period_rest

  block_index : in_block s x ≡ true → whole * s.block + (x - whole * gap_period s) ≡ rank (in_block s) x
  unfolding in_block
  block_index h = by_whole ∙ before_in_block s f.block x (ltb-true (x % gap_period s) s.block h)

  may_send : active s all_open x ≡ ltb (x - whole * gap_period s) s.block
  may_send = plain s f x ∙ sym block_is

  pub index_some : x - whole * gap_period s < s.block → Some (whole * s.block + (x - whole * gap_period s)) ≡ active_index s all_open x
  index_some h =
      let e = may_send ∙ lt-ltb _ _ h in
      rw e (ap Some (block_index (sym (plain s f x) ∙ e) ∙ sym (plain_rank s f x)))

  pub index_none : s.block ≤ x - whole * gap_period s → None ≡ active_index s all_open x
  index_none h = rw (may_send ∙ le-ltb _ _ h) refl

-- ---- which of those that are sent a slot is

module _ (s : Shape) (is_open : ℕ → Bool) (slot : ℕ) where
  pub unlocated : slot < s.first → Located s is_open slot None
  unlocated h = record { says = rw (← unsent_before s is_open slot h) refl; counted = tt }

  abbrev x : ℕ
  x = slot - s.first

  -- the number of a slot, where it is counted
  module _ (i : ℕ) where
    of_some : (b : Bool) (n : ℕ) → Some i ≡ cond b (Some n) None → (b ≡ true) × (i ≡ n)
    of_some true n e = (refl, ap (λ (o : Option ℕ). unwrap_or o i) e)
    of_some false n e = absurd (true≢false (ap is_some e))

    pub located : s.first ≤ slot → Some i ≡ active_index s is_open x → i < sent_slots s → Located s is_open slot (Some i)
    unfolding index_of
    located h e l =
        let a = of_some _ _ e in
        record { says = rw (sym (sent_is s is_open slot true i (sent_slots s) h (sym a.0) a.1 refl) ∙ lt-ltb _ _ l) (ap Some a.1); counted = l }

    pub passed : s.first ≤ slot → Some i ≡ active_index s is_open x → sent_slots s ≤ i → Located s is_open slot None
    passed h e l =
        let a = of_some _ _ e in
        record { says = rw (sym (sent_is s is_open slot true i (sent_slots s) h (sym a.0) a.1 refl) ∙ le-ltb _ _ l) refl; counted = tt }

    pub found_sent : Located s is_open slot (Some i) → is_sent s is_open slot ≡ true
    found_sent l = (of_some _ _ l.says).0

    pub found_index : Located s is_open slot (Some i) → i ≡ index_of s is_open slot
    found_index l = (of_some _ _ l.says).1

  of_none : (b : Bool) (n : ℕ) → None ≡ cond b (Some n) None → b ≡ false
  of_none true n e = absurd (true≢false (sym (ap is_some e)))
  of_none false n e = refl

  pub inactive : s.first ≤ slot → None ≡ active_index s is_open x → Located s is_open slot None
  inactive h e =
      let a = of_none _ _ e in
      record { says = rw (sym (sent_is s is_open slot false (rank (active s is_open) x) (sent_slots s) h (sym a) refl refl)) refl; counted = tt }

  pub none_sent : Located s is_open slot None → is_sent s is_open slot ≡ false
  none_sent l = of_none _ _ l.says
