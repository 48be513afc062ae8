-- The row by its number of NCCEs over, then the subcarrier in the row.
use mathlib.Core.Path.{◌≡◌, refl, sym, ap, subst, ◌∙◌}
use Prim.Native.Nat.{ℕ, ◌+◌, ◌-◌, ◌*◌, ◌/◌, ◌≤◌, ◌<◌}
use native.Mathlib.Nat.{mul-le-mul}
use native.Mathlib.Omega.{arith}
use Rattle.grid.specs.Grid.{subcarriers, symbols, element_of}
use Rattle.references.specs.declared.Marks.{Marks}
use Rattle.references.specs.Quick.{marks_of}
use Rattle.elements.specs.declared.Layout.{Layout}
use Rattle.elements.specs.declared.Spot.{Spot}
use Rattle.elements.specs.Elements.{ncce_width, number_of, element_at, count_of}
use Rattle.elements.specs.Scaffold.{Valid, Part}
use Rattle.elements.specs.Quick.{rows, free_of, six_in_rows, nth_in, SpotOf}
use Rattle.elements.proofs.Marked.{free_some, marks_in, Nth, row_nth}
use Rattle.elements.proofs.Rows.{open_found}
use Rattle.elements.proofs.Closed.{rows_counted, spot_open, Over, over, under, some_ncces}
use Rattle.elements.proofs.element_at.Goals as goal

module _ (g : Layout) (v : Valid g) (from width : ℕ) (p : Part from width) (e n q : ℕ) (he : e < count_of g from width)
    (hn : n ≡ width / ncce_width) (pos : 0 < n) (most : n ≤ 2) (hq : q ≡ e / (width / ncce_width)) where
  -- it lies in the rows
  reaches : q < six_in_rows g rows
  reaches =
      under (width / ncce_width) (six_in_rows g rows) e q (some_ncces from width p) hq
      (omega (arith, he, rows_counted g v from width p rows (omega arith)))

  module _ (s : Spot) (h : SpotOf g q s) where
    -- which of the row it is
    abbrev on : ℕ
    on = n * s.rest + (e - n * q)

    -- e lies in the row
    inside : Over n q e (six_in_rows g (s.slot * symbols + s.l)) s.rest (free_of g.nports g.cports s.l) on
    inside =
        over n q e _ s.rest _ _ pos most (hq ∙ ap (λ (x : ℕ). e / x) (sym hn)) h.reached (spot_open g v q s h).1 refl

    small : on < 2 * 7
    small = omega (arith, inside.below, mul-le-mul most (free_some g v s.l h.symbol).1)

    nth : (f k : ℕ) (m : Marks) → f ≡ free_of g.nports g.cports s.l → m ≡ marks_of g.v s.l (6 - f) → k ≡ nth_in m f from on
        → Nth (marks_in g v s.l h.symbol) from width on k
    nth f k m hf hm hk =
        let b = free_some g v s.l h.symbol in
        let z = free_of g.nports g.cports s.l in
        let is : k ≡ nth_in (marks_of g.v s.l (6 - z)) z from on =
        hk ∙ ap (λ (x : Marks). nth_in x f from on) hm ∙ ap (λ (x : ℕ). nth_in (marks_of g.v s.l (6 - x)) x from on) hf in
        subst (Nth (marks_of g.v s.l (6 - z)) from width on) (sym is)
        (row_nth from width p g.v s.l z v.shift b.0 b.1 on (subst (λ (x : ℕ). on < x * z) hn inside.below))

    found : (k : ℕ) → Nth (marks_in g v s.l h.symbol) from width on k → element_of s.slot s.l k ≡ element_at g from width e
    found k w =
        let row : subcarriers * (s.slot * symbols + s.l) ≡ element_of s.slot s.l 0 = omega arith in
        open_found g from width s.slot s.l h.slot h.symbol v (spot_open g v q s h).0 e on k he
        (omega (
          arith,
          inside.reached,
          ap (λ (x : ℕ). x * six_in_rows g (s.slot * symbols + s.l)) hn,
          rows_counted g v from width p (s.slot * symbols + s.l) (omega (arith, h.slot, h.symbol)),
          ap (number_of g from width) row,
        ))
        w

pub row_with-spot-requires : goal.row_with-spot-requires
row_with-spot-requires c =
    let a = c.args in
    let n = c.count-n.ensures in
    reaches a.g c.requires.0 a.from a.width c.requires.1 a.e _ _ c.requires.2 n.0 n.1 n.2 c.share-q.ensures

pub nth_in-k-requires : goal.nth_in-k-requires
nth_in-k-requires c =
    let a = c.args in
    let n = c.count-n.ensures in
    let p = c.requires.1 in (
      c.free_in-free.ensures.2,
      omega (arith, p.inside, p.some, p.whole),
      omega (arith, small a.g c.requires.0 a.from a.width p a.e _ _ c.requires.2 n.0 n.1 n.2 c.share-q.ensures _ c.row_with-spot.ensures),
    )

pub element-requires : goal.element-requires
element-requires c =
    let a = c.args in
    let n = c.count-n.ensures in
    let h = c.row_with-spot.ensures in
    let w = nth a.g c.requires.0 a.from a.width c.requires.1 a.e _ _ c.requires.2 n.0 n.1 n.2 c.share-q.ensures _ h _ _ _ c.free_in-free.ensures.0 c.marks_on.ensures c.nth_in-k.ensures in
    (h.slot, h.symbol, w.inside)

pub returns : goal.returns
returns c =
    let a = c.args in
    let n = c.count-n.ensures in
    let h = c.row_with-spot.ensures in
    let w = nth a.g c.requires.0 a.from a.width c.requires.1 a.e _ _ c.requires.2 n.0 n.1 n.2 c.share-q.ensures _ h _ _ _ c.free_in-free.ensures.0 c.marks_on.ensures c.nth_in-k.ensures in
    c.element.ensures.0 ∙ found a.g c.requires.0 a.from a.width c.requires.1 a.e _ _ c.requires.2 n.0 n.1 n.2 c.share-q.ensures _ h _ w
