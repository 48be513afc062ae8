-- What callers know of the used elements.
use mathlib.Core.Bool.{Bool, true, false, not, cond, ◌&&◌, ◌||◌, and-true}
use mathlib.Core.Path.{◌≡◌, refl, sym, ap, ◌∙◌}
use mathlib.Core.Logic.{⊎_elim}
use Prim.Native.Nat.{ℕ, zero, suc, ◌+◌, ◌≤◌, ◌<◌}
use native.Mathlib.Omega.{arith}
use lib.Dec.{ltb, leb}
use borrow.Author.Tests.{ltb-true, leb-true, le-leb, lt-ltb, ne_eqb}
use Rattle.counting.specs.Counting.{rank, in_range}
use Rattle.counting.specs.Scaffold.{Lists}
use Rattle.counting.proofs.Facts.{order, both_parts, either_parts, not_true_is}
use Rattle.counting.proofs.Range.{in_range_lem}
use Rattle.counting.proofs.Rank.{rank_le, rank_same, rank_strict}
use Rattle.counting.proofs.Select.{lists_below}
use Rattle.grid.specs.Grid.{subcarriers, elements, element_of, slot_of, symbol_of, subcarrier_of}
use Rattle.elements.specs.declared.Layout.{Layout}
use Rattle.elements.specs.declared.ElementKind.{ElementKind}
use Rattle.elements.specs.declared.ElementUse.TheVariants.{Used, Unused}
use Rattle.elements.specs.Elements.{nrs, crs, reference, control_region, eligible, used, kind_of, count_of, element_at, number_of}
use Rattle.elements.specs.Scaffold.{kind_number, kind_with, element_use_of, Part}
use Rattle.elements.proofs.Marked.{and_false}
use Rattle.elements.proofs.Rows.{row_used}

-- x lies in the grid and in the part, and carries no reference and no control
pub record Clear (g : Layout) (from width x : ℕ) : Type 0 where
  pub inside : x < elements
  pub no_nrs : nrs g (symbol_of x) (subcarrier_of x) ≡ false
  pub no_crs : crs g (symbol_of x) (subcarrier_of x) ≡ false
  pub no_control : control_region g (slot_of x) (symbol_of x) ≡ false
  pub first : from ≤ subcarrier_of x
  pub last : subcarrier_of x < from + width

-- the fourth symbol has no reference
quiet : (g : Layout) (k : ℕ) → reference g 3 k ≡ false
unfolding nrs crs
quiet g k = simp and_false

-- ---- references: narrowband ones stand from symbol 5 on, cell ones before it

module _ (g : Layout) (l k : ℕ) where
  early : l < 5 → nrs g l k ≡ false
  unfolding nrs
  early h = simp (ne_eqb l 5 (λ e. omega arith), ne_eqb l 6 (λ e. omega arith), and_false)

  late : 5 ≤ l → crs g l k ≡ false
  unfolding crs
  late h = simp (ne_eqb l 0 (λ e. omega arith), ne_eqb l 1 (λ e. omega arith), ne_eqb l 4 (λ e. omega arith), and_false)

  pub never_both_lem : (nrs g l k && crs g l k) ≡ false
  never_both_lem = ⊎_elim (λ h. rw (early h) refl) (λ h. simp (late h, and_false)) (order l 5)

-- a kind is at most 2
pub kind_small : (g : Layout) (x : ℕ) → kind_of g x ≤ 2
unfolding kind_of
kind_small g x = by (nrs g (symbol_of x) (subcarrier_of x)) (crs g (symbol_of x) (subcarrier_of x))
  where
    by : (n c : Bool) → cond n 1 (cond c 2 0) ≤ 2
    by true c = omega arith
    by false true = omega arith
    by false false = omega arith

module _ (g : Layout) (from width : ℕ) where
  pub used_clear : (x : ℕ) → used g from width x ≡ true → Clear g from width x
  unfolding used eligible
  used_clear x h =
      let n = nrs g (symbol_of x) (subcarrier_of x) in
      let w = crs g (symbol_of x) (subcarrier_of x) in
      let c = control_region g (slot_of x) (symbol_of x) in
      let k = subcarrier_of x in
      let u = both_parts (eligible g x) (in_range from width k) h in
      let i = both_parts (ltb x elements) (not c && not (n || w)) u.0 in
      let o = both_parts (not c) (not (n || w)) i.1 in
      let r = either_parts n w (not_true_is (n || w) o.1) in
      let p = both_parts (leb from k) (ltb k (from + width)) u.1 in
      record {
        inside = ltb-true x elements i.0;
        no_nrs = r.0;
        no_crs = r.1;
        no_control = not_true_is c o.0;
        first = leb-true from k p.0;
        last = ltb-true k (from + width) p.1;
      }

  pub used_below : (x : ℕ) → used g from width x ≡ true → x < elements
  used_below x h = (used_clear x h).inside

  -- a used element is plain
  pub used_plain : (x : ℕ) → used g from width x ≡ true → kind_of g x ≡ 0
  unfolding kind_of
  used_plain x h = rw ((used_clear x h).no_nrs, (used_clear x h).no_crs) refl

  pub used_listed : Lists (count_of g from width) (element_at g from width) (used g from width) (number_of g from width)
  used_listed = lists_below (used g from width) elements used_below

  pub element_below : (e : ℕ) → e < count_of g from width → element_at g from width e < elements
  element_below e h = used_below (element_at g from width e) (used_listed.passes e h)

  pub count_le : count_of g from width ≤ elements
  count_le = rank_le (used g from width) elements

  -- the fourth symbol of the second slot is used at the part's first subcarrier
  fourth_used : Part from width → used g from width (element_of 1 3 from) ≡ true
  fourth_used p =
      row_used g from width 1 3 (omega arith) (omega arith) from (omega (arith, p))
      ∙ (rw (quiet g from, le-leb from from (omega arith), lt-ltb from (from + width) (omega (arith, p))) refl)

  pub count_some : Part from width → 0 < count_of g from width
  count_some p = omega (arith, rank_strict (used g from width) (element_of 1 3 from) elements (fourth_used p) (omega (arith, p)))

-- ---- what an answer says of its element

used_by : (b : Bool) (n e : ℕ) (k : ElementKind) → cond b (Used n) (Unused k) ≡ Used e → (b ≡ true) × (n ≡ e)
used_by true n e k h = (refl, cc)
used_by false n e k h = let z : ◌≡◌ {A = ℕ} 0 1 = cc in absurd (omega arith)

other_by : (b : Bool) (n : ℕ) (k e : ElementKind) → cond b (Used n) (Unused k) ≡ Unused e → (b ≡ false) × (k ≡ e)
other_by true n k e h = let z : ◌≡◌ {A = ℕ} 0 1 = cc in absurd (omega arith)
other_by false n k e h = (refl, cc)

-- the kind with a number has it
kind_back : (n : ℕ) → n ≤ 2 → kind_number (kind_with n) ≡ n
kind_back zero h = refl
kind_back (suc zero) h = refl
kind_back (suc (suc zero)) h = refl
kind_back (suc (suc (suc n))) h = absurd (omega arith)

module _ (g : Layout) (from width x : ℕ) where
  pub use_used : (e : ℕ) → element_use_of g from width x ≡ Used e → (used g from width x ≡ true) × (number_of g from width x ≡ e)
  unfolding element_use_of
  use_used e h = used_by (used g from width x) (number_of g from width x) e (kind_with (kind_of g x)) h

  pub use_unused : (kind : ElementKind) → element_use_of g from width x ≡ Unused kind → (used g from width x ≡ false) × (kind_of g x ≡ kind_number kind)
  unfolding element_use_of
  use_unused kind h =
      let o = other_by (used g from width x) (number_of g from width x) (kind_with (kind_of g x)) kind h in
      (o.0, sym (kind_back (kind_of g x) (kind_small g x)) ∙ ap kind_number o.1)

-- ---- the parts that grants use

pub whole_part : Part 0 subcarriers
whole_part = record { starts = refl; whole = refl; some = omega arith; inside = omega arith }

-- on all subcarriers each eligible element is used
pub all_used : (g : Layout) → rank (eligible g) elements ≡ count_of g 0 subcarriers
unfolding used
all_used g =
    rank_same (eligible g) (used g 0 subcarriers) elements
    (λ x h. rw (in_range_lem 0 subcarriers (subcarrier_of x) (omega arith) (omega arith)) (sym (and-true (eligible g x))))
