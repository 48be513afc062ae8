-- The bitmap's answer names the part in force.
use mathlib.Core.Bool.{Bool, true, false, cond}
use mathlib.Core.List.{List, [], ◌∷◌}
use mathlib.Core.Path.{◌≡◌, refl, sym, ap, ◌∙◌}
use Prim.Native.Nat.{ℕ}
use lib.Dec.{eqb}
use lib.ListN.{length, take, drop, take-append-drop}
use lib.Seq.{take-append_seam, length-take-le}
use borrow.Author.Tests.{ne_eqb}
use Rattle.bitmap.specs.Bitmap.{bytes_of}
use Rattle.cell.specs.declared.Cell.{Cell}
use Rattle.cell.proofs.Accepted.{accepted_bitmap}
use Rattle.cell.specs.Bitmap.{own_buffer, bitmap_in}
use Rattle.cell.specs.Judge.{judge_of, in_force_of}
use Rattle.nbiot_c.specs.Calls.{bitmap_numbers}
use Rattle.nbiot_c.specs.Scaffold.{part_named}

module _ (c : Cell) (anchor other : List ℕ) where
  pub refused_numbers : {no : ℕ} → no ≡ judge_of c anchor other → (no ≡ 0 → ⊥) → (no ∷ 0 ∷ 0 ∷ []) ≡ bitmap_numbers c anchor other
  unfolding in_force_of
  refused_numbers {no} e h =
      rw (ne_eqb (judge_of c anchor other) 0 (λ z. h (e ∙ z))) (ap (λ (n : ℕ). n ∷ 0 ∷ 0 ∷ []) e)

  pub accepted_numbers : {no n : ℕ} → no ≡ judge_of c anchor other → no ≡ 0 → n ≡ bytes_of c.config.bits → (0 ∷ c.config.carrier ∷ n ∷ []) ≡ bitmap_numbers c anchor other
  unfolding in_force_of
  accepted_numbers {no} {n} e h f =
      let z : judge_of c anchor other ≡ 0 = sym e ∙ h in
      let long = length-take-le (bytes_of c.config.bits) (own_buffer c.config anchor other) (accepted_bitmap c anchor other z).long in
      rw z (ap (λ (x : ℕ). 0 ∷ c.config.carrier ∷ x ∷ []) (f ∙ sym long))

part_taken : (n : ℕ) (l : List ℕ) → take (length (take n l)) l ≡ take n l
part_taken n l = ap (take (length (take n l))) (sym (take-append-drop n l)) ∙ take-append_seam (take n l) (drop n l)

-- the bytes that the answer names are the bitmap in force
pub names_part : (c : Cell) (anchor other : List ℕ) → part_named (bitmap_numbers c anchor other) anchor other ≡ in_force_of c anchor other
unfolding in_force_of
names_part c anchor other = by_verdict (eqb (judge_of c anchor other) 0)
  where
    by_verdict : (b : Bool) → take (length (cond b (bitmap_in c.config (own_buffer c.config anchor other)) [])) (cond (eqb (cond b c.config.carrier 0) 0) anchor other) ≡ cond b (bitmap_in c.config (own_buffer c.config anchor other)) []
    by_verdict true = part_taken (bytes_of c.config.bits) (own_buffer c.config anchor other)
    by_verdict false = refl
