-- P10 and P11 of 01, as 02 L2 has them, and cells with no bitmap: for every cell whose numbers and messages are listed. Of
-- the two buffers only the carrier's own is read, and it is the one given here. Then the cases of 02 L7.
use mathlib.Core.Bool.{Bool, true, false, cond, not, ◌&&◌, ◌||◌}
use mathlib.Core.List.{List, [], ◌∷◌}
use mathlib.Core.Path.{◌≡◌, refl, sym, ◌∙◌}
use Prim.Native.Nat.{ℕ, ◌%◌, ◌≤◌, ◌<◌}
use native.Mathlib.Omega.{arith}
use lib.Dec.{T, eqb}
use lib.ListN.{length}
use borrow.Author.Tests.{eq-eqb, ne_eqb, le-ltb}
use Rattle.counting.specs.Counting.{rank}
use Rattle.counting.proofs.Facts.{both_parts, each_at, alike, alike_eq}
use Rattle.counting.proofs.Range.{and_none}
use Rattle.counting.proofs.Rank.{rank_zero, rank_strict, rank_none, rank_same}
use Rattle.counting.specs.Bits.{bit_of}
use Rattle.bitmap.specs.Bitmap.{bytes_of, listed_length, bad_bitmap, allowed}
use Rattle.sync.proofs.Taken.{taken}
use Rattle.messages.specs.Messages.{are_listed, no_messages}
use Rattle.messages.proofs.Repeating.{remaining_within}
use Rattle.cell.specs.declared.Cell.{Cell}
use Rattle.cell.specs.Bitmap.{bitmap_in}
use Rattle.cell.specs.Usable.{period, is_anchor, anchor_cause, free, usable}
use Rattle.cell.specs.Judge.{numbers_refusal, config_refusal, form_refusal, none_allowed, none_usable, use_refusal, cell_refusal, judge_of}
use Rattle.cell.specs.Quick.{lays_messages}
use Rattle.cell.specs.Cases.{in_band_cell, SamePortsCases}
use Rattle.cell.proofs.Taken.{free_is, usable_is, unlaid}
use Rattle.cell.proofs.Repeating.{short, none_free}

-- ten bits with only 0 and 5 set
abbrev zero_and_five : List ℕ
zero_and_five = 0x84 ∷ 0 ∷ []

-- forty bits with only bit 4
abbrev only_four : List ℕ
only_four = 0x08 ∷ 0 ∷ 0 ∷ 0 ∷ 0 ∷ []

-- ten bits with none set
abbrev nothing : List ℕ
nothing = 0 ∷ 0 ∷ []

-- ---- a test that passes somewhere, or nowhere

pub some_pass : (u : ℕ → Bool) (t : ℕ) → t < period → u t ≡ true → eqb (rank u period) 0 ≡ false
some_pass u t h e = ne_eqb (rank u period) 0 (λ z. omega (arith, rank_strict u t period e h))

none_pass : (u : ℕ → Bool) → ((t : ℕ) → u t ≡ false) → eqb (rank u period) 0 ≡ true
none_pass u h = eq-eqb (rank u period) 0 (rank_none u 0 period (λ t a b. h t) ∙ rank_zero u)

-- ---- a cell whose numbers, bitmap and messages are listed

module _ (c : Cell) (own : List ℕ) (numbers : numbers_refusal c.config ≡ 0) (bitmap : bad_bitmap c.config.bits own ≡ false)
    (messages : are_listed c.messages ≡ true) where
  no_subframe : none_allowed c own ≡ true → cell_refusal c own ≡ 8
  unfolding cell_refusal form_refusal config_refusal use_refusal
  no_subframe a = rw (numbers, bitmap, messages, a) refl

  all_taken : none_allowed c own ≡ false → none_usable c own ≡ true → cell_refusal c own ≡ 18
  unfolding cell_refusal form_refusal config_refusal use_refusal
  all_taken a u = rw (numbers, bitmap, messages, a, u) refl

  -- with no schedule what is free is usable
  some_free : c.messages.count ≡ 0 → (t : ℕ) → t < period → free c.config (bitmap_in c.config own) t ≡ true → cell_refusal c own ≡ 0
  unfolding cell_refusal form_refusal config_refusal use_refusal
  some_free z t h e =
      let a : none_allowed c own ≡ false = some_pass _ t h (both_parts _ _ (sym (free_is c.config (bitmap_in c.config own) t) ∙ e)).0 in
      let u : none_usable c own ≡ false = some_pass (usable c (bitmap_in c.config own)) t h (unlaid c (bitmap_in c.config own) t z ∙ e) in
      rw (numbers, bitmap, messages, a, u) refl

-- what is not free is not usable
not_free : (c : Cell) (b : List ℕ) (t : ℕ) → free c.config b t ≡ false → usable c b t ≡ false
not_free c b t h =
    usable_is c b t ∙ rw (h, remaining_within c.messages (free c.config b) t h) (by (lays_messages c))
  where
    by : (x : Bool) → cond x false false ≡ false
    by true = refl
    by false = refl

-- ---- no bitmap: subframe 1 is always free

pub unmapped : (c : Cell) (own : List ℕ) → numbers_refusal c.config ≡ 0 → are_listed c.messages ≡ true → c.messages.count ≡ 0
    → c.config.bits ≡ 0 → cell_refusal c own ≡ 0
unfolding bad_bitmap listed_length bytes_of allowed
unmapped c own numbers messages z b =
    some_free c own numbers (rw (b, le-ltb (length own) 0 (omega arith)) refl) messages z 1 (omega arith)
    (free_is c.config (bitmap_in c.config own) 1 ∙ rw (b, and_none (is_anchor c.config)) refl)

-- ---- P10: the anchor takes subframes 0 and 5

-- a subframe that is allowed is one of two that are taken
shut : (allows first second rest : Bool) → T (not allows || (first || second)) → (allows && not (first || (second || rest))) ≡ false
shut false first second rest t = refl
shut true true second rest t = refl
shut true false true rest t = refl
shut true false false rest t = absurd t

module _ (c : Cell) (numbers : numbers_refusal c.config ≡ 0) (messages : are_listed c.messages ≡ true) (b : c.config.bits ≡ 10) where
  fits : bad_bitmap c.config.bits zero_and_five ≡ false
  unfolding bad_bitmap listed_length bytes_of
  fits = rw b refl

  pub ten_anchor : c.config.carrier ≡ 0 → cell_refusal c zero_and_five ≡ 18
  unfolding bytes_of allowed
  ten_anchor a = all_taken c zero_and_five numbers fits messages (some_pass _ 0 (omega arith) (rw b refl)) (none_pass _ never)
    where
      never : (t : ℕ) → usable c (bitmap_in c.config zero_and_five) t ≡ false
      never t =
          not_free c (bitmap_in c.config zero_and_five) t (free_is c.config (bitmap_in c.config zero_and_five) t
          ∙ rw (b, a)
          (shut (bit_of zero_and_five (t % 10)) (eqb (t % 10) 0) (eqb (t % 10) 5) _
          (each_at 10 (λ r. not (bit_of zero_and_five r) || (eqb r 0 || eqb r 5)) tt (t % 10) (omega arith))))

  pub ten_other : c.messages.count ≡ 0 → c.config.carrier ≡ 1 → cell_refusal c zero_and_five ≡ 0
  unfolding bytes_of allowed
  ten_other z a =
      some_free c zero_and_five numbers fits messages z 0 (omega arith)
      (free_is c.config (bitmap_in c.config zero_and_five) 0 ∙ rw (b, ne_eqb c.config.carrier 0 (λ y. omega arith)) refl)

  -- a bitmap that allows nothing, on either carrier
  pub ten_nothing : cell_refusal c nothing ≡ 8
  unfolding bad_bitmap listed_length bytes_of allowed
  ten_nothing =
      no_subframe c nothing numbers (rw b refl) messages
      (none_pass _ (λ t. rw b (alike_eq (bit_of nothing (t % 10)) false (each_at 10 (λ r. alike (bit_of nothing r) false) tt (t % 10) (omega arith)))))

-- ---- P11: SIB1 with 16 copies takes subframe 4 of every even frame, with 8 copies not of frame 16

-- every fourth frame is even
all_sixteen : rank (λ t. allowed only_four 40 t && not (taken 0 2 t)) short ≡ 0
unfolding rank allowed
all_sixteen = refl

module _ (c : Cell) (numbers : numbers_refusal c.config ≡ 0) (messages : are_listed c.messages ≡ true) (a : c.config.carrier ≡ 0)
    (i : c.config.identity ≡ 0) (b : c.config.bits ≡ 40) where
  four_fits : bad_bitmap c.config.bits only_four ≡ false
  unfolding bad_bitmap listed_length bytes_of
  four_fits = rw b refl

  four_listed : listed_length c.config.bits ≡ true
  unfolding listed_length
  four_listed = rw b refl

  pub forty_16 : c.config.sib1 ≡ 2 → cell_refusal c only_four ≡ 18
  unfolding bytes_of allowed
  forty_16 s =
      all_taken c only_four numbers four_fits messages (some_pass _ 4 (omega arith) (rw b refl))
      (none_pass _ (λ t. not_free c (bitmap_in c.config only_four) t
      (none_free c.config (bitmap_in c.config only_four) four_listed
      (rank_same _ _ short (λ x h. free_is c.config (bitmap_in c.config only_four) x ∙ rw (a, i, b, s) refl) ∙ all_sixteen) t)))

  pub forty_8 : c.messages.count ≡ 0 → c.config.sib1 ≡ 1 → cell_refusal c only_four ≡ 0
  unfolding bytes_of allowed free anchor_cause
  forty_8 z s = some_free c only_four numbers four_fits messages z 164 (omega arith) (rw (a, i, b, s) refl)

-- ---- L7

-- numbers that are refused refuse the cell, by any buffer
by_numbers : (c : Cell) (anchor other : List ℕ) (n : ℕ) → 0 < n → numbers_refusal c.config ≡ n → judge_of c anchor other ≡ n
unfolding judge_of cell_refusal form_refusal config_refusal
by_numbers c anchor other n h e = simp (e, ne_eqb n 0 (λ z. omega arith))

module _ (carrier : ℕ) (h : carrier ≤ 1) where
  numbers_in_band : (numbers_refusal (in_band_cell 0 carrier 2 4 3 0).config ≡ 24) × (numbers_refusal (in_band_cell 0 carrier 2 4 4 0).config ≡ 5)
      × (numbers_refusal (in_band_cell 0 carrier 2 1 3 12).config ≡ 24) × (numbers_refusal (in_band_cell 0 carrier 2 2 3 12).config ≡ 6)
      × (numbers_refusal (in_band_cell 1 carrier 2 4 3 0).config ≡ 0)
  unfolding numbers_refusal
  numbers_in_band = rw (le-ltb 1 carrier h) (refl, refl, refl, refl, refl)

listed_none : are_listed no_messages ≡ true
unfolding are_listed
listed_none = refl

pub same_ports : SamePortsCases
unfolding judge_of
same_ports = record {
  four = λ carrier anchor other h. by_numbers _ anchor other 24 (omega arith) (numbers_in_band carrier h).0;
  region = λ carrier anchor other h. by_numbers _ anchor other 5 (omega arith) (numbers_in_band carrier h).1;
  one = λ carrier anchor other h. by_numbers _ anchor other 24 (omega arith) (numbers_in_band carrier h).2;
  same = λ carrier anchor other h. by_numbers _ anchor other 6 (omega arith) (numbers_in_band carrier h).3;
  another_mode = λ carrier anchor other h. unmapped (in_band_cell 1 carrier 2 4 3 0) _ (numbers_in_band carrier h).4 listed_none refl refl;
}
