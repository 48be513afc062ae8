-- The rows of the grid: which elements are used, how many, and where the e-th is.
use mathlib.Core.Bool.{true, false, not, cond, ◌&&◌}
use mathlib.Core.Path.{◌≡◌, refl, sym, ap, ◌∙◌}
use Prim.Native.Nat.{ℕ, ◌+◌, ◌*◌, ◌%◌, ◌≤◌, ◌<◌}
use native.Mathlib.Nat.{zero-add}
use native.Mathlib.Omega.{arith}
use borrow.Author.Tests.{lt-ltb}
use Rattle.counting.specs.Counting.{rank, in_range}
use Rattle.counting.proofs.Rank.{rank_count, count_from_zero, count_same, rank_none}
use Rattle.counting.proofs.Select.{is_select_below}
use Rattle.grid.specs.Grid.{subcarriers, symbols, slots, elements, element_of, slot_of, symbol_of, subcarrier_of}
use Rattle.elements.specs.declared.Layout.{Layout}
use Rattle.elements.specs.Elements.{reference, control_region, eligible, used, kind_of, count_of, element_at, number_of}
use Rattle.elements.specs.Scaffold.{Valid}
use Rattle.elements.specs.Quick.{is_free, reference_kind}
use Rattle.elements.proofs.Marked.{marks_in, reference_marked, kind_marked, carries, Nth}

module _ (g : Layout) (from width slot l : ℕ) (hs : slot < slots) (hl : l < symbols) where
  pub row_used : (k : ℕ) → k < subcarriers
      → used g from width (element_of slot l k) ≡ ((not (control_region g slot l) && not (reference g l k)) && in_range from width k)
  unfolding used eligible
  row_used k h =
      let s : slot_of (element_of slot l k) ≡ slot = omega arith in
      let m : symbol_of (element_of slot l k) ≡ l = omega arith in
      let c : subcarrier_of (element_of slot l k) ≡ k = omega arith in
      rw (s, m, c, lt-ltb (element_of slot l k) elements (omega arith)) refl

  -- a row of the control region has none
  module _ (e : control_region g slot l ≡ true) where
    pub row_shut : (k : ℕ) → k < subcarriers → used g from width (element_of slot l k) ≡ false
    row_shut k h = row_used k h ∙ (rw e refl)

    pub shut_whole : number_of g from width (element_of slot l subcarriers) ≡ number_of g from width (element_of slot l 0)
    shut_whole = whole ∙ ap (number_of g from width) at
      where
        at : (slot * symbols + l) * subcarriers ≡ element_of slot l 0
        at = omega arith

        shut : (i : ℕ) → (slot * symbols + l) * subcarriers ≤ i → i < element_of slot l subcarriers → used g from width i ≡ false
        shut i a b =
            let s : element_of slot l (i % subcarriers) ≡ i = omega arith in
            sym (ap (used g from width) s) ∙ row_shut (i % subcarriers) (omega arith)

        whole : number_of g from width (element_of slot l subcarriers) ≡ number_of g from width ((slot * symbols + l) * subcarriers)
        whole = rank_none (used g from width) ((slot * symbols + l) * subcarriers) subcarriers shut

  -- any other has those with no mark
  module _ (v : Valid g) (e : control_region g slot l ≡ false) where
    pub row_open : (k : ℕ) → k < subcarriers → used g from width (element_of slot l k) ≡ carries (marks_in g v l hl) from width k
    row_open k h = row_used k h ∙ (rw (e, reference_marked g v l hl k) refl)

    pub open_part : (k : ℕ) → k ≤ subcarriers
        → number_of g from width (element_of slot l k) ≡ number_of g from width (element_of slot l 0) + rank (carries (marks_in g v l hl) from width) k
    open_part k h =
        let u = used g from width in
        let c = carries (marks_in g v l hl) from width in
        let at : element_of slot l 0 ≡ (slot * symbols + l) * subcarriers = omega arith in
        omega (
          arith,
          rank_count u k ((slot * symbols + l) * subcarriers),
          count_same u c k ((slot * symbols + l) * subcarriers) 0 (λ i j. row_open i (omega arith) ∙ ap c (sym (zero-add i))),
          count_from_zero c k,
          ap (rank u) at,
        )

    pub open_found : (x j k : ℕ) → x < count_of g from width → number_of g from width (element_of slot l 0) + j ≡ x
        → Nth (marks_in g v l hl) from width j k → element_of slot l k ≡ element_at g from width x
    open_found x j k h r n =
        let i = n.inside in
        is_select_below (used g from width) elements x (element_of slot l k) h (row_open k i ∙ n.carried)
        (omega (arith, open_part k (omega arith), n.before))

  pub row_kind : (v : Valid g) (k : ℕ) → k < subcarriers → kind_of g (element_of slot l k) ≡ cond (is_free (marks_in g v l hl) (k % 6)) 0 (reference_kind l)
  unfolding kind_of
  row_kind v k h =
      let m : symbol_of (element_of slot l k) ≡ l = omega arith in
      let c : subcarrier_of (element_of slot l k) ≡ k = omega arith in
      rw (m, c) (kind_marked g v l hl k)
