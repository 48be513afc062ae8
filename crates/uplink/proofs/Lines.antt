-- The data elements of a slot, in closed form: the granted tones of each symbol but the reference symbols.
use mathlib.Core.Bool.{Bool, true, false, not, ◌&&◌}
use mathlib.Core.Path.{◌≡◌, refl, sym, ap, ap₂, ◌∙◌}
use mathlib.Core.Logic.{⊎_elim}
use Prim.Native.Nat.{ℕ, ◌+◌, ◌-◌, ◌*◌, ◌/◌, ◌%◌, ◌^◌, ◌≤◌, ◌<◌}
use native.Mathlib.Nat.{add-zero, mod-lt, div-add-mod', div-lt_iff_lt-mul, mul-le-mul, mul-pos}
use native.Mathlib.Omega.{arith}
use lib.Dec.{ltb}
use mir.Val.{bool_byte}
use borrow.Author.Tests.{lt-ltb, ltb-true, leb-true}
use Rattle.counting.specs.Counting.{rank}
use Rattle.counting.specs.Scaffold.{Lists}
use Rattle.counting.proofs.Facts.{order, both, both_parts, not_true_is}
use Rattle.counting.proofs.Rank.{rank_zero, rank_same, rank_not}
use Rattle.counting.proofs.Range.{in_range_lem, below_range, above_range, rank_before, rank_inside, rank_after}
use Rattle.counting.proofs.Rows.{rank_rows}
use Rattle.counting.proofs.Select.{is_select_below, lists_below}
use Rattle.grid.specs.Grid.{symbols, uplink_elements, uplink_element_of, uplink_symbol_of, uplink_subcarrier_of}
use Rattle.grid.proofs.Numbering.{uplink_symbol_of_lem, uplink_subcarrier_of_lem}
use Rattle.uplink.specs.declared.Shape.{Shape}
use Rattle.uplink.specs.Fits.{Fits}
use Rattle.uplink.specs.Elements.{is_reference, is_granted, is_data_symbol, carries_data, carries_reference, slot_data, element_at, number_of}

unless : (a b : Bool) → b ≡ false → (a && b) ≡ false
unless true b e = e
unless false b e = refl

shut : (a : Bool) → ((a && false) && true) ≡ false
shut true = refl
shut false = refl

module _ (s : Shape) (f : Fits s) where
  -- an element by its symbol and its subcarrier
  module _ (l k : ℕ) (h : k < s.subcarriers) where
    pub data_at : carries_data s (uplink_element_of s.subcarriers l k) ≡ (is_data_symbol s l && is_granted s k)
    unfolding carries_data
    data_at = ap₂ (λ (a b : ℕ). is_data_symbol s a && is_granted s b) (uplink_symbol_of_lem _ l k h) (uplink_subcarrier_of_lem _ l k h)

    pub reference_at : carries_reference s (uplink_element_of s.subcarriers l k) ≡ (is_reference s l && is_granted s k)
    unfolding carries_reference
    reference_at = ap₂ (λ (a b : ℕ). is_reference s a && is_granted s b) (uplink_symbol_of_lem _ l k h) (uplink_subcarrier_of_lem _ l k h)

    -- what it carries, by its tone and its symbol
    pub not_granted : is_granted s k ≡ false
        → (carries_data s (uplink_element_of s.subcarriers l k) ≡ false) × (0 ≡ bool_byte (carries_reference s (uplink_element_of s.subcarriers l k)))
    not_granted e =
        (data_at ∙ unless (is_data_symbol s l) (is_granted s k) e, sym (ap bool_byte (reference_at ∙ unless (is_reference s l) (is_granted s k) e)))

    pub on_reference : is_granted s k ≡ true → is_reference s l ≡ true
        → (carries_data s (uplink_element_of s.subcarriers l k) ≡ false) × (1 ≡ bool_byte (carries_reference s (uplink_element_of s.subcarriers l k)))
    on_reference e d =
        (data_at ∙ (rw (e, d) (shut (ltb l symbols))), sym (ap bool_byte reference_at ∙ ap₂ (λ (x y : Bool). bool_byte (x && y)) d e))

    pub on_data : l < symbols → is_granted s k ≡ true → is_reference s l ≡ false → carries_data s (uplink_element_of s.subcarriers l k) ≡ true
    on_data i e d = data_at ∙ (rw (e, d, lt-ltb l symbols i) refl)

  -- ---- tones

  tones_whole : rank (is_granted s) s.subcarriers ≡ s.tones
  tones_whole =
      let e : s.tone + s.tones + (s.subcarriers - (s.tone + s.tones)) ≡ s.subcarriers = omega arith in
      sym (ap (rank (is_granted s)) e) ∙ rank_after s.tone s.tones (s.subcarriers - (s.tone + s.tones))

  pub granted_parts : (k : ℕ) → is_granted s k ≡ true → (s.tone ≤ k) × (k < s.tone + s.tones)
  granted_parts k h =
      let p = both_parts _ _ h in
      (leb-true s.tone k p.0, ltb-true k (s.tone + s.tones) p.1)

  tones_before : (k : ℕ) → is_granted s k ≡ true → rank (is_granted s) k ≡ k - s.tone
  tones_before k h =
      let p = granted_parts k h in
      let e : s.tone + (k - s.tone) ≡ k = omega (arith, p.0) in
      sym (ap (rank (is_granted s)) e) ∙ rank_inside s.tone s.tones (k - s.tone) (omega (arith, p.0, p.1))

  -- ---- symbols

  without_references : (l : ℕ) → l ≤ symbols → rank (is_reference s) l + rank (is_data_symbol s) l ≡ l
  without_references l h =
      omega (
        arith,
        rank_not (is_reference s) l,
        rank_same (is_data_symbol s) (λ i. not (is_reference s i)) l (λ i k. rw (lt-ltb i symbols (omega arith)) refl),
      )

  pub data_before : (l : ℕ) → l ≤ s.reference → rank (is_data_symbol s) l ≡ l
  data_before l h = omega (arith, without_references l (omega (arith, f.within_symbols)), rank_before s.reference s.references l h)

  pub data_after : (l : ℕ) → s.reference + s.references ≤ l → l ≤ symbols → rank (is_data_symbol s) l ≡ l - s.references
  data_after l h k =
      let e : s.reference + s.references + (l - (s.reference + s.references)) ≡ l = omega arith in
      omega (
        arith,
        without_references l k,
        ap (rank (is_reference s)) e,
        rank_after s.reference s.references (l - (s.reference + s.references)),
      )

  pub data_symbol_parts : (l : ℕ) → is_data_symbol s l ≡ true → (l < symbols) × (is_reference s l ≡ false)
  data_symbol_parts l h =
      let p = both_parts (ltb l symbols) (not (is_reference s l)) h in
      (ltb-true l symbols p.0, not_true_is (is_reference s l) p.1)

  -- a data symbol that is not before the references is after them
  pub after_references : (l : ℕ) → is_data_symbol s l ≡ true → s.reference ≤ l → s.reference + s.references ≤ l
  after_references l d h =
      ⊎_elim
      (λ k.
      let a : is_reference s l ≡ true = in_range_lem s.reference s.references l h k in
      let b : is_reference s l ≡ false = (data_symbol_parts l d).1 in
      let z : ◌≡◌ {A = ℕ} 0 1 = cc in
      absurd (omega arith))
      (λ k. k) (order l (s.reference + s.references))

  -- ---- elements

  all_rows : (l k : ℕ) → k ≤ s.subcarriers → rank (carries_data s) (l * s.subcarriers + k)
      ≡ rank (is_data_symbol s) l * s.tones + bool_byte (is_data_symbol s l) * rank (is_granted s) k
  all_rows l k h =
      rank_rows s.subcarriers (carries_data s) (is_data_symbol s) (is_granted s) data_at l k h
      ∙ ap (λ (n : ℕ). rank (is_data_symbol s) l * n + bool_byte (is_data_symbol s l) * rank (is_granted s) k) tones_whole

  pub slot_data_lem : (symbols - s.references) * s.tones ≡ slot_data s
  unfolding slot_data
  slot_data_lem =
      omega (
        arith,
        all_rows symbols 0 (omega arith),
        ap (rank (carries_data s)) (add-zero (symbols * s.subcarriers)),
        rank_zero (is_granted s),
        ap (λ (n : ℕ). n * s.tones) (data_after symbols f.within_symbols (omega arith)),
      )

  pub number_at : (l k : ℕ) → k < s.subcarriers → is_data_symbol s l ≡ true → is_granted s k ≡ true
      → rank (is_data_symbol s) l * s.tones + (k - s.tone) ≡ number_of s (uplink_element_of s.subcarriers l k)
  unfolding number_of
  number_at l k h d g =
      omega (
        arith,
        all_rows l k (omega arith),
        ap (λ (b : Bool). bool_byte b * rank (is_granted s) k) d,
        tones_before k g,
      )

  -- the e-th, on the data symbol that e / tones come before
  element_on : (e l : ℕ) → e < slot_data s → is_data_symbol s l ≡ true → rank (is_data_symbol s) l ≡ e / s.tones
      → uplink_element_of s.subcarriers l (s.tone + e % s.tones) ≡ element_at s e
  unfolding slot_data element_at number_of
  element_on e l h d n =
      let r = mod-lt e f.tones in
      let g : is_granted s (s.tone + e % s.tones) ≡ true = in_range_lem s.tone s.tones (s.tone + e % s.tones) (omega arith) (omega (arith, r)) in
      let w : s.tone + e % s.tones < s.subcarriers = omega (arith, r, f.within_tones) in
      is_select_below (carries_data s) (uplink_elements s.subcarriers) e (uplink_element_of s.subcarriers l (s.tone + e % s.tones)) h
      (data_at l (s.tone + e % s.tones) w ∙ both _ _ d g)
      (sym (number_at l (s.tone + e % s.tones) w d g)
      ∙ omega (arith, ap (λ (m : ℕ). m * s.tones) n, div-add-mod' e s.tones))

  -- where e is: its symbol by the two sides of the references, and its subcarrier
  module _ (e : ℕ) (h : e < slot_data s) where
    pub line_below : e / s.tones + s.references < symbols
    line_below =
        let l : e / s.tones < symbols - s.references = (div-lt_iff_lt-mul f.tones).1 (rw slot_data_lem h) in
        omega (arith, f.references)

    pub subcarrier_below : s.tone + e % s.tones < s.subcarriers
    subcarrier_below = omega (arith, mod-lt e f.tones, f.within_tones)

    first_side : e / s.tones < s.reference → uplink_element_of s.subcarriers (e / s.tones) (s.tone + e % s.tones) ≡ element_at s e
    first_side l =
        element_on e (e / s.tones) h
        (both _ _ (lt-ltb (e / s.tones) symbols (omega (arith, line_below))) (ap not (below_range s.reference s.references (e / s.tones) l)))
        (data_before (e / s.tones) (omega arith))

    second_side : s.reference ≤ e / s.tones → uplink_element_of s.subcarriers (e / s.tones + s.references) (s.tone + e % s.tones) ≡ element_at s e
    second_side l =
        element_on e (e / s.tones + s.references) h
        (both _ _ (lt-ltb (e / s.tones + s.references) symbols line_below)
        (ap not (above_range s.reference s.references (e / s.tones + s.references) (omega arith))))
        (omega (arith, data_after (e / s.tones + s.references) (omega arith) (omega (arith, line_below))))

    pub symbol_first : e / s.tones < s.reference → e / s.tones ≡ uplink_symbol_of s.subcarriers (element_at s e)
    symbol_first l = sym (uplink_symbol_of_lem _ (e / s.tones) _ subcarrier_below) ∙ ap (uplink_symbol_of s.subcarriers) (first_side l)

    pub symbol_second : s.reference ≤ e / s.tones → e / s.tones + s.references ≡ uplink_symbol_of s.subcarriers (element_at s e)
    symbol_second l = sym (uplink_symbol_of_lem _ (e / s.tones + s.references) _ subcarrier_below) ∙ ap (uplink_symbol_of s.subcarriers) (second_side l)

    pub subcarrier_is : s.tone + e % s.tones ≡ uplink_subcarrier_of s.subcarriers (element_at s e)
    subcarrier_is =
        ⊎_elim (λ l. sym (uplink_subcarrier_of_lem _ (e / s.tones) _ subcarrier_below) ∙ ap (uplink_subcarrier_of s.subcarriers) (first_side l))
        (λ l. sym (uplink_subcarrier_of_lem _ (e / s.tones + s.references) _ subcarrier_below) ∙ ap (uplink_subcarrier_of s.subcarriers) (second_side l))
        (order (e / s.tones) s.reference)

  -- ---- bounds, and the list

  pub some_data : 0 < slot_data s
  some_data = rw (← slot_data_lem) (mul-pos {m = symbols - s.references} {n = s.tones} (omega (arith, f.references)) f.tones)

  pub slot_data_small : slot_data s < 2 ^ 19
  slot_data_small =
      let t : s.tones ≤ 2 ^ 16 = omega (arith, f.within_tones, f.subcarriers_small) in
      let r : symbols - s.references ≤ symbols = omega arith in
      omega (arith, slot_data_lem, mul-le-mul r t)

  pub data_parts : (x : ℕ) → carries_data s x ≡ true
      → (is_data_symbol s (uplink_symbol_of s.subcarriers x) ≡ true) × (is_granted s (uplink_subcarrier_of s.subcarriers x) ≡ true)
  unfolding carries_data
  data_parts x h = both_parts (is_data_symbol s (uplink_symbol_of s.subcarriers x)) (is_granted s (uplink_subcarrier_of s.subcarriers x)) h

  pub data_parts_at : (l k : ℕ) → k < s.subcarriers → carries_data s (uplink_element_of s.subcarriers l k) ≡ true
      → (is_data_symbol s l ≡ true) × (is_granted s k ≡ true)
  data_parts_at l k h d = both_parts (is_data_symbol s l) (is_granted s k) (sym (data_at l k h) ∙ d)

  data_inside : (x : ℕ) → carries_data s x ≡ true → x < uplink_elements s.subcarriers
  data_inside x h =
      let w : 0 < s.subcarriers = omega (arith, f.tones, f.within_tones) in
      (div-lt_iff_lt-mul w).0 (data_symbol_parts _ (data_parts x h).0).0

  pub elements_listed : Lists (slot_data s) (element_at s) (carries_data s) (number_of s)
  unfolding slot_data element_at number_of
  elements_listed = lists_below (carries_data s) (uplink_elements s.subcarriers) data_inside
