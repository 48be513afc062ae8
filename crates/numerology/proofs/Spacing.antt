-- Numbers by spacing: their bounds, the start in closed form, 256 and 40 ms in slots, and whole groups of them.
use mathlib.Core.Bool.{Bool, true, false, cond}
use mathlib.Core.Path.{◌≡◌, refl, ap}
use Prim.Native.Nat.{ℕ, ◌+◌, ◌*◌, ◌/◌, ◌%◌, ◌^◌, min, max, ◌≤◌, ◌<◌}
use native.Mathlib.Nat.{mod-one}
use native.Mathlib.Decide.{ℕ_discrete}
use native.Mathlib.Omega.{arith}
use lib.Dec.{eqb}
use borrow.Author.Tests.{le-leb, lt-leb, eq-eqb, ne_eqb}
use Rattle.counting.proofs.Select.{next_least}
use Rattle.grid.specs.Grid.{uplink_subcarriers}
use Rattle.numerology.specs.Numerology.{by_spacing, slot_halves, slots_in, begins_after, first_after, group_of}

-- ---- a number by spacing is between the two

pub by_spacing_bounds : (spacing a b : ℕ) → (min a b ≤ by_spacing spacing a b) × (by_spacing spacing a b ≤ max a b)
by_spacing_bounds spacing a b = by (eqb spacing 0)
  where
    by : (t : Bool) → (min a b ≤ cond t a b) × (cond t a b ≤ max a b)
    by true = (omega arith, omega arith)
    by false = (omega arith, omega arith)

-- ---- the start: least among the slots that begin after the subframe

module _ (spacing t halves : ℕ) (e : slot_halves spacing ≡ halves) where
  first_is : (slot : ℕ) → slot ≤ 2 * (t + 1) → 2 * (t + 1) ≤ slot * halves → ((i : ℕ) → i < slot → i * halves < 2 * (t + 1))
      → slot ≡ first_after spacing t
  unfolding first_after
  first_is slot a b h =
      let begins : (i : ℕ) → i * slot_halves spacing ≡ i * halves = λ i. ap (λ (x : ℕ). i * x) e in
      next_least (begins_after spacing t) (2 * (t + 1) + 1) 0 slot (omega arith) (omega arith)
      (le-leb (2 * (t + 1)) (slot * slot_halves spacing) (omega (arith, begins slot)))
      (λ i p q. lt-leb (2 * (t + 1)) (i * slot_halves spacing) (omega (arith, begins i, h i q)))

pub first_narrow : (spacing t : ℕ) → spacing ≡ 0 → (t + 2) / 2 ≡ first_after spacing t
first_narrow spacing t h =
    first_is spacing t 4 (ap (λ (b : Bool). cond b 4 1) (eq-eqb spacing 0 h)) ((t + 2) / 2) (omega arith) (omega arith) (λ i q. omega arith)

pub first_wide : (spacing t : ℕ) → (spacing ≡ 0 → ⊥) → 2 * (t + 1) ≡ first_after spacing t
first_wide spacing t h =
    first_is spacing t 1 (ap (λ (b : Bool). cond b 4 1) (ne_eqb spacing 0 h)) (2 * (t + 1)) (omega arith) (omega arith) (λ i q. omega arith)

pub first_bound : (spacing t : ℕ) → first_after spacing t ≤ 2 * (t + 1)
first_bound spacing t = by (ℕ_discrete spacing 0)
  where
    by : Dec (spacing ≡ 0) → first_after spacing t ≤ 2 * (t + 1)
    by (yes e) = omega (arith, first_narrow spacing t e)
    by (no e) = omega (arith, first_wide spacing t e)

-- ---- lengths in slots

pub block_is : (b : Bool) → cond b 128 512 ≡ 2 * 256 / cond b 4 1
block_is true = refl
block_is false = refl

pub gap_is : (b : Bool) → cond b 20 80 ≡ 2 * 40 / cond b 4 1
gap_is true = refl
gap_is false = refl

-- ---- what holds of a shape's numbers by spacing

pub record Spaced (spacing t : ℕ) : Type 0 where
  pub block : 0 < slots_in spacing 256
  pub group : 0 < group_of spacing
  pub whole_first : first_after spacing t % group_of spacing ≡ 0
  pub whole_block : slots_in spacing 256 % group_of spacing ≡ 0
  pub whole_gap : slots_in spacing 40 % group_of spacing ≡ 0
  pub block_small : slots_in spacing 256 < 2 ^ 16
  pub gap_small : slots_in spacing 40 < 2 ^ 16
  pub group_small : group_of spacing < 2 ^ 16
  pub subcarriers_small : uplink_subcarriers spacing < 2 ^ 16

pub spaced : (spacing t : ℕ) → Spaced spacing t
spaced spacing t =
    let block = by_spacing_bounds spacing 128 512 in
    let gap = by_spacing_bounds spacing 20 80 in
    let group = by_spacing_bounds spacing 1 2 in
    let b = block_is (eqb spacing 0) in
    let g = gap_is (eqb spacing 0) in
    let w = whole (ℕ_discrete spacing 0) in
    record {
      block = omega (arith, block.0);
      group = omega (arith, group.0);
      whole_first = w.0;
      whole_block = w.1;
      whole_gap = w.2;
      block_small = omega (arith, block.1);
      gap_small = omega (arith, gap.1);
      group_small = omega (arith, group.1);
      subcarriers_small = omega (arith, (by_spacing_bounds spacing (uplink_subcarriers 0) (uplink_subcarriers 1)).1);
    }
  where
    whole : Dec (spacing ≡ 0)
        → (first_after spacing t % group_of spacing ≡ 0) × (slots_in spacing 256 % group_of spacing ≡ 0) × (slots_in spacing 40 % group_of spacing ≡ 0)
    whole (yes e) = rw (eq-eqb spacing 0 e) (mod-one (first_after spacing t), refl, refl)
    whole (no n) = rw (ne_eqb spacing 0 n) (omega (arith, first_wide spacing t n), refl, refl)
