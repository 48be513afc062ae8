use mathlib.Core.Bool.{Bool, not, ◌||◌}
use mathlib.Core.Path.{◌≡◌, sym, ap, ap₂, ◌∙◌}
use Prim.Native.Nat.{ℕ, ◌-◌, ◌*◌, ◌%◌, ◌<◌}
use lib.Dec.{leb, eqb}
use mir.Val.{bool_byte}
use borrow.Author.Tests.{not-false}
use Rattle.counting.proofs.Facts.{either_parts}
use Rattle.grid.specs.Grid.{subcarriers, symbols}
use Rattle.references.specs.declared.Marks.{Marks}
use Rattle.references.specs.Quick.{marks_of}
use Rattle.elements.specs.declared.Layout.{Layout}
use Rattle.elements.specs.declared.ElementUse.TheVariants.{Unused}
use Rattle.elements.specs.Scaffold.{Valid}
use Rattle.elements.specs.Quick.{free_of, is_free, place_in}
use Rattle.elements.proofs.Marked.{six_of, marks_in}
use Rattle.elements.proofs.Stands.{marked_or, stands_reference, stands_plain, stands_used}
use Rattle.elements.proofs.use_at.Goals as goal

module _ (g : Layout) (v : Valid g) (l : ℕ) (hl : l < symbols) (free : ℕ) (m : Marks) (f : free ≡ free_of g.nports g.cports l)
    (e : m ≡ marks_of g.v l (6 - free)) where
  marks : m ≡ marks_in g v l hl
  marks = e ∙ ap (λ (x : ℕ). marks_of g.v l (6 - x)) f

  module _ (k b : ℕ) (hk : k < subcarriers) (eb : b ≡ bool_byte (leb 6 k)) where
    six : k - 6 * b ≡ k % 6
    six = ap (λ (x : ℕ). k - 6 * x) eb ∙ six_of k hk

    -- what the test of the marks says
    plain : (r : Bool) → (eqb (k - 6 * b) m.low || eqb (k - 6 * b) m.high) ≡ r → is_free (marks_in g v l hl) (k % 6) ≡ not r
    plain r t = sym (ap₂ is_free marks six) ∙ marked_or (eqb (k - 6 * b) m.low) _ r t

    place : (from n : ℕ) → n ≡ place_in m free from k (k - 6 * b)
        → n ≡ place_in (marks_in g v l hl) (free_of g.nports g.cports l) from k (k % 6)
    place from n t =
        t ∙ ap (λ (x : Marks). place_in x free from k (k - 6 * b)) marks
        ∙ ap₂ (λ (x y : ℕ). place_in (marks_in g v l hl) x from k y) f six

pub returns-then-six-m : goal.returns-then-six-m
returns-then-six-m c =
    let a = c.args in
    let r = c.requires in
    ap Unused c.reference_kind.ensures
    ∙ stands_reference a.g r.0 a.from a.width r.1 a.slot a.l a.k r.2 r.3 r.4
    (plain a.g r.0 a.l r.3 _ _ c.free_in-free.ensures.0 c.marks_on-m.ensures a.k _ r.4 c.from.ensures _ c.if-six-m.true)

pub returns-then-in_control-has : goal.returns-then-in_control-has
returns-then-in_control-has c =
    let a = c.args in
    let r = c.requires in
    stands_plain a.g r.0 a.from a.width r.1 a.slot a.l a.k r.2 r.3 r.4
    (plain a.g r.0 a.l r.3 _ _ c.free_in-free.ensures.0 c.marks_on-m.ensures a.k _ r.4 c.from.ensures _ c.if-six-m.false)
    (sym (ap₂ (λ (x y : Bool). x || not y) c.in_control.ensures c.has.ensures) ∙ c.if-in_control-has.true)

pub returns : goal.returns
returns c =
    let a = c.args in
    let r = c.requires in
    let apart = either_parts c.in_control.result (not c.has.result) c.if-in_control-has.false in
    stands_used a.g r.0 a.from a.width r.1 a.slot a.l a.k r.2 r.3 r.4
    (plain a.g r.0 a.l r.3 _ _ c.free_in-free.ensures.0 c.marks_on-m.ensures a.k _ r.4 c.from.ensures _ c.if-six-m.false)
    (sym c.in_control.ensures ∙ apart.0) (sym c.has.ensures ∙ not-false c.has.result apart.1) _ _ c.row_start-start.ensures.0
    (place a.g r.0 a.l r.3 _ _ c.free_in-free.ensures.0 c.marks_on-m.ensures a.k _ r.4 c.from.ensures a.from _ c.before_in.ensures.0)
