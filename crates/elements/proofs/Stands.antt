-- An element of the grid by its row's marks.
use mathlib.Core.Bool.{Bool, true, false, not, ◌&&◌, ◌||◌}
use mathlib.Core.Path.{◌≡◌, refl, sym, ap, ◌∙◌}
use Prim.Native.Nat.{ℕ, ◌+◌, ◌%◌, ◌<◌}
use native.Mathlib.Omega.{arith}
use borrow.Author.Tests.{le-leb, lt-ltb}
use Rattle.counting.specs.Counting.{in_range}
use Rattle.grid.specs.Grid.{subcarriers, symbols, slots, element_of}
use Rattle.elements.specs.declared.Layout.{Layout}
use Rattle.elements.specs.declared.ElementKind.TheVariants.{Plain}
use Rattle.elements.specs.declared.ElementUse.TheVariants.{Used, Unused}
use Rattle.elements.specs.Elements.{reference, control_region, used, kind_of, number_of}
use Rattle.elements.specs.Scaffold.{kind_with, element_use_of, Valid, Part}
use Rattle.elements.specs.Quick.{free_of, is_free, place_in, reference_kind, RowOf}
use Rattle.elements.proofs.Marked.{and_false, marks_in, free_some, row_place, reference_marked}
use Rattle.elements.proofs.Rows.{row_used, row_open, open_part, row_kind}

-- a mark is one of both
pub marked_or : (a b r : Bool) → (a || b) ≡ r → (not a && not b) ≡ not r
marked_or true b r e = ap not e
marked_or false b r e = ap not e

shut_or : (a b c : Bool) → (a || not b) ≡ true → ((not a && c) && b) ≡ false
shut_or true b c e = refl
shut_or false true c e = let z : ◌≡◌ {A = ℕ} 0 1 = cc in absurd (omega arith)
shut_or false false c e = and_false c

and_true : (a : Bool) → (a && true) ≡ a
and_true true = refl
and_true false = refl

module _ (g : Layout) (v : Valid g) (from width : ℕ) (p : Part from width) (slot l k : ℕ) (hs : slot < slots) (hl : l < symbols) (hk : k < subcarriers) where
  abbrev x : ℕ
  x = element_of slot l k

  abbrev plain : Bool
  plain = is_free (marks_in g v l hl) (k % 6)

  other : (n : ℕ) → used g from width x ≡ false → kind_of g x ≡ n → Unused (kind_with n) ≡ element_use_of g from width x
  unfolding element_use_of
  other n e f = rw (e, f) refl

  pub stands_reference : plain ≡ false → Unused (kind_with (reference_kind l)) ≡ element_use_of g from width x
  stands_reference e =
      other (reference_kind l)
      (row_used g from width slot l hs hl k hk ∙ (rw (reference_marked g v l hl k, e, and_false (not (control_region g slot l))) refl))
      (row_kind g from width slot l hs hl v k hk ∙ (rw e refl))

  pub stands_plain : plain ≡ true → (control_region g slot l || not (in_range from width k)) ≡ true → Unused Plain ≡ element_use_of g from width x
  stands_plain e f =
      other 0
      (row_used g from width slot l hs hl k hk ∙ shut_or (control_region g slot l) (in_range from width k) (not (reference g l k)) f)
      (row_kind g from width slot l hs hl v k hk ∙ (rw e refl))

  pub stands_used : plain ≡ true → control_region g slot l ≡ false → in_range from width k ≡ true → (start n : ℕ) → start ≡ number_of g from width (element_of slot l 0)
      → n ≡ place_in (marks_in g v l hl) (free_of g.nports g.cports l) from k (k % 6) → Used (start + n) ≡ element_use_of g from width x
  unfolding element_use_of
  stands_used e c i start n hb hn =
      let f = free_some g v l hl in
      let u : used g from width x ≡ true = row_open g from width slot l hs hl v c k hk ∙ (rw (e, i) refl) in
      let m : number_of g from width x ≡ start + n = omega (
        arith,
        open_part g from width slot l hs hl v c k (omega arith),
        row_place from width p g.v l (free_of g.nports g.cports l) v.shift f.0 f.1 k hk i,
      ) in
      rw (u, m) refl

module _ (g : Layout) (v : Valid g) (slot l : ℕ) (hs : slot < slots) (hl : l < symbols) where
  pub row_is : RowOf g slot l (record { shut = control_region g slot l; low = (marks_in g v l hl).low; high = (marks_in g v l hl).high })
  row_is = record {
    has = λ k h. sym (row_used g 0 subcarriers slot l hs hl k h
        ∙ (rw (reference_marked g v l hl k, le-leb 0 k (omega arith), lt-ltb k subcarriers h) (and_true (not (control_region g slot l) && is_free (marks_in g v l hl) (k % 6)))));
  }
