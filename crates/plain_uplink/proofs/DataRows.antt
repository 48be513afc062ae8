-- The elements of a slot that carry data, in the order of their numbers, as their symbols and subcarriers.
use mathlib.Core.Bool.{Bool, true, false, cond, not, ◌&&◌}
use mathlib.Core.List.{List, [], map}
use mathlib.Core.Path.{◌≡◌, refl, sym, ap, ◌∙◌}
use Prim.Native.Nat.{ℕ, ◌+◌, ◌-◌, ◌*◌, ◌<◌}
use native.Mathlib.Omega.{arith}
use lib.ListN.{length}
use Rattle.std.proofs.lemmas.List.{length-map}
use borrow.Author.Tests.{lt-ltb}
use Rattle.std.specs.List.{filter, flat_map, range_with_len}
use Rattle.counting.proofs.Range.{in_range_lem, below_range, above_range}
use Rattle.grid.specs.Grid.{symbols, uplink_elements, uplink_symbol_of, uplink_subcarrier_of}
use Rattle.grid.proofs.Numbering.{uplink_symbol_of_lem, uplink_subcarrier_of_lem}
use Rattle.uplink.specs.declared.Shape.{Shape}
use Rattle.uplink.specs.Fits.{Fits}
use Rattle.uplink.specs.Elements.{is_reference, is_data_symbol, is_granted, carries_data, slot_data}
use Rattle.uplink.proofs.Lines.{data_at}
use Rattle.chains.proofs.Ranges.{range_counts}
use Rattle.chains.proofs.Rows.{filter_true, none_kept, alike_kept, middle_kept, left_out, range_moved, rows_kept}
use Rattle.plain_uplink.specs.declared.elements.Element.{Element}

-- element x of rows of T
abbrev pub place_at : ℕ → ℕ → Element
place_at T x = record { l = uplink_symbol_of T x; k = uplink_subcarrier_of T x }

-- what the code goes over: the granted tones of a symbol, and the symbols that are no reference
abbrev pub tones_of : Shape → ℕ → List Element
tones_of s l = map (λ k. record { l = l; k = k }) (range_with_len s.tone s.tones)

abbrev pub gone_over : Shape → List Element
gone_over s = flat_map (tones_of s) (filter (λ l. not (is_reference s l)) (range_with_len 0 symbols))

module _ (s : Shape) (f : Fits s) where
  -- an element of a data symbol carries data by its tone
  on_data : (l k : ℕ) → is_data_symbol s l ≡ true → k < s.subcarriers
      → carries_data s (l * s.subcarriers + k) ≡ is_granted s k
  on_data l k d h = data_at s f l k h ∙ ap (λ (b : Bool). b && is_granted s k) d

  placed : (l k : ℕ) → k < s.subcarriers
      → ◌≡◌ {A = Element} (record { l = l; k = k }) (place_at s.subcarriers (l * s.subcarriers + k))
  placed l k h j = record {
    l = sym (uplink_symbol_of_lem s.subcarriers l k h) j;
    k = sym (uplink_subcarrier_of_lem s.subcarriers l k h) j;
  }

  row : (l : ℕ) → is_data_symbol s l ≡ true
      → tones_of s l
      ≡ map (place_at s.subcarriers) (filter (carries_data s) (range_with_len (l * s.subcarriers) s.subcarriers))
  row l d =
      let m = l * s.subcarriers in
      let r = s.subcarriers - (s.tone + s.tones) in
      let whole : s.tone + (s.tones + r) ≡ s.subcarriers = omega (arith, f.within_tones) in
      range_moved (λ k. record { l = l; k = k }) (place_at s.subcarriers) s.tones (m + s.tone) s.tone
      (λ i h. placed l (s.tone + i) (omega (arith, h, f.within_tones)) ∙ ap (place_at s.subcarriers) (omega arith))
      ∙ ap (map (place_at s.subcarriers))
      (middle_kept (carries_data s) s.tone s.tones r m
      (λ i h. on_data l i d (omega (arith, h, f.within_tones)) ∙ below_range s.tone s.tones i h)
      (λ i h. ap (carries_data s) (omega arith) ∙ on_data l (s.tone + i) d (omega (arith, h, f.within_tones))
      ∙ in_range_lem s.tone s.tones (s.tone + i) (omega arith) (omega (arith, h)))
      (λ i h. ap (carries_data s) (omega arith) ∙ on_data l (s.tone + s.tones + i) d (omega (arith, h))
      ∙ above_range s.tone s.tones (s.tone + s.tones + i) (omega arith))
      ∙ ap (λ (n : ℕ). filter (carries_data s) (range_with_len m n)) whole)

  each_row : (l : ℕ) → filter (λ x. true) (cond (is_data_symbol s l) (tones_of s l) [])
      ≡ map (place_at s.subcarriers) (filter (carries_data s) (range_with_len (l * s.subcarriers) s.subcarriers))
  each_row l = filter_true _ ∙ by (is_data_symbol s l) refl
    where
      by : (b : Bool) → is_data_symbol s l ≡ b → cond b (tones_of s l) []
          ≡ map (place_at s.subcarriers) (filter (carries_data s) (range_with_len (l * s.subcarriers) s.subcarriers))
      by true d = row l d
      by false d =
          ap (map (place_at s.subcarriers))
          (sym (none_kept (carries_data s) s.subcarriers (l * s.subcarriers)
          (λ i h. data_at s f l i h ∙ ap (λ (b : Bool). b && is_granted s i) d)))

  pub data_gone_over : gone_over s
      ≡ map (place_at s.subcarriers) (filter (carries_data s) (range_with_len 0 (uplink_elements s.subcarriers)))
  data_gone_over =
      ap (flat_map (tones_of s))
      (alike_kept (is_data_symbol s) (λ l. not (is_reference s l)) symbols 0
      (λ l h. rw (lt-ltb (0 + l) symbols (omega (arith, h))) refl))
      ∙ left_out (is_data_symbol s) (tones_of s) (range_with_len 0 symbols)
      ∙ sym (filter_true (flat_map (λ l. cond (is_data_symbol s l) (tones_of s l) []) (range_with_len 0 symbols)))
      ∙ rows_kept (carries_data s) s.subcarriers (λ x. true) (place_at s.subcarriers)
      (λ l. cond (is_data_symbol s l) (tones_of s l) []) each_row symbols

  -- how many they are
  pub data_counted : length (gone_over s) ≡ slot_data s
  unfolding slot_data
  data_counted =
      ap length data_gone_over ∙ length-map _ (place_at s.subcarriers)
      ∙ range_counts (carries_data s) (uplink_elements s.subcarriers)
