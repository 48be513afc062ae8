-- A slot row by row: what a row adds to the rows before it.
use mathlib.Core.Bool.{Bool, cond}
use mathlib.Core.List.{List, ◌++◌}
use mathlib.Core.Path.{◌≡◌, sym, ap, ap₂, ◌∙◌}
use Prim.Native.Nat.{ℕ, ◌+◌, ◌-◌, ◌*◌, ◌≤◌, ◌<◌}
use native.Mathlib.Nat.{zero-add}
use native.Mathlib.Omega.{arith}
use lib.Ieee.{Float}
use Rattle.counting.specs.Counting.{rank, count}
use Rattle.counting.proofs.Rank.{rank_le, rank_count, count_from_zero, count_same, count_split}
use Rattle.grid.specs.Grid.{subcarriers, symbols, slot_elements, element_of}
use Rattle.elements.specs.declared.Layout.{Layout}
use Rattle.elements.specs.declared.Row.{Row}
use Rattle.elements.specs.Elements.{used, count_of}
use Rattle.elements.specs.Quick.{has_in, RowOf}
use Rattle.symbol.specs.declared.Symbol.{Symbol}
use Rattle.symbol.specs.Quick.{silence, picked_of}
use Rattle.fill.specs.Fill.{laid}
use Rattle.fill.specs.Quick.{written_in, written_in_row}
use Rattle.fill.proofs.Laid.{laid_plus, laid_below}

pub none_yet : (g : Layout) (start c : ℕ) → c ≡ c + count (used g 0 subcarriers) start (subcarriers * 0)
unfolding count
none_yet g start c = omega arith

-- no more than there are elements
pub few : (g : Layout) (start n : ℕ) → count (used g 0 subcarriers) start n ≤ n
few g start n =
    let u = used g 0 subcarriers in
    let v : ℕ → Bool = λ i. u (start + i) in
    omega (arith, count_same u v n start 0 (λ i h. ap v (sym (zero-add i))), count_from_zero v n, rank_le v n)

-- the symbols of both slots
pub slots_room : (g : Layout) (first room : ℕ) → first + count_of g 0 subcarriers ≤ room
    → first + count (used g 0 subcarriers) (0 * slot_elements) slot_elements + count (used g 0 subcarriers) (1 * slot_elements) slot_elements ≤ room
slots_room g first room h =
    let u = used g 0 subcarriers in
    omega (arith, h, count_from_zero u slot_elements, rank_count u slot_elements slot_elements)

-- symbol c goes out first in the slot, symbol n first in the row
module _ (g : Layout) (slot l : ℕ) (hl : l < symbols) (r : Row) (is : RowOf g slot l r) (c n : ℕ)
    (hn : n ≡ c + count (used g 0 subcarriers) (slot * slot_elements) (subcarriers * l)) where
  abbrev u : ℕ → Bool
  u = used g 0 subcarriers

  abbrev start : ℕ
  start = slot * slot_elements

  has_is : (k : ℕ) → k < subcarriers → has_in r k ≡ u (start + subcarriers * l + k)
  has_is k h =
      let e : element_of slot l k ≡ start + subcarriers * l + k = omega arith in
      is.has k h ∙ ap u e

  row_rank : (k : ℕ) → k ≤ subcarriers → rank (has_in r) k ≡ count u (start + subcarriers * l) k
  row_rank k h =
      sym (count_from_zero (has_in r) k) ∙ count_same (has_in r) u k 0 (start + subcarriers * l) (λ i j. ap (has_in r) (zero-add i) ∙ has_is i (omega arith))

  row_on : (k : ℕ) → k ≤ subcarriers → n + rank (has_in r) k ≡ c + count u start (subcarriers * l + k)
  row_on k h = omega (arith, hn, row_rank k h, count_split u start (subcarriers * l) k)

  pub row_next : n + rank (has_in r) subcarriers ≡ c + count u start (subcarriers * (l + 1))
  row_next =
      let e : subcarriers * l + subcarriers ≡ subcarriers * (l + 1) = omega arith in
      row_on subcarriers (omega arith) ∙ ap (λ (x : ℕ). c + count u start x) e

  pub row_room : n + rank (has_in r) subcarriers ≤ c + count u start slot_elements
  row_room =
      let e : subcarriers * (l + 1) + (slot_elements - subcarriers * (l + 1)) ≡ slot_elements = omega arith in
      omega (arith, row_next, count_split u start (subcarriers * (l + 1)) (slot_elements - subcarriers * (l + 1)), ap (count u start) e)

  pub row_laid : (bits : List ℕ) (four : List Symbol)
      → laid (written_in g c bits four start) (subcarriers * l) ++ laid (written_in_row r n bits four) subcarriers
      ≡ laid (written_in g c bits four start) (subcarriers * (l + 1))
  row_laid bits four =
      let f = written_in g c bits four start in
      let e : subcarriers * l + subcarriers ≡ subcarriers * (l + 1) = omega arith in
      ap (λ (a : List Float). laid f (subcarriers * l) ++ a) (laid_below (written_in_row r n bits four) (λ k. f (subcarriers * l + k)) subcarriers same)
      ∙ sym (laid_plus f (subcarriers * l) subcarriers) ∙ ap (laid f) e
    where
      same : (k : ℕ) → k < subcarriers → written_in_row r n bits four k ≡ written_in g c bits four start (subcarriers * l + k)
      same k h =
          let e : start + subcarriers * l + k ≡ start + (subcarriers * l + k) = omega arith in
          ap₂ (λ (b : Bool) (x : ℕ). cond b (picked_of four bits x) silence) (has_is k h ∙ ap u e) (row_on k (omega arith))
