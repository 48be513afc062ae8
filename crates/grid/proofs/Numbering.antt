-- An element's number and its slot, symbol and subcarrier go into each other.
use mathlib.Core.Path.{◌≡◌}
use Prim.Native.Nat.{ℕ, ◌<◌}
use native.Mathlib.Nat.{mod-lt, div-add-mod', div-lt_iff_lt-mul}
use native.Mathlib.Omega.{arith}
use lib.Arith.{digits_div, digits_mod, digits_lt}
use Rattle.grid.specs.Grid.{subcarriers, symbols, slots, elements, element_of, slot_of, symbol_of, subcarrier_of, uplink_elements, uplink_element_of, uplink_symbol_of, uplink_subcarrier_of}

-- a number is that of its parts, and they lie inside the grid
pub of_parts : (x : ℕ) → element_of (slot_of x) (symbol_of x) (subcarrier_of x) ≡ x
of_parts x = omega arith

pub inside : (x : ℕ) → x < elements → (slot_of x < slots) × (symbol_of x < symbols) × (subcarrier_of x < subcarriers)
inside x h = (omega arith, omega arith, omega arith)

-- the parts of a number are those that it was made of
module _ (slot l k : ℕ) (hl : l < symbols) (hk : k < subcarriers) where
  pub slot_of_lem : slot_of (element_of slot l k) ≡ slot
  slot_of_lem = omega arith

  pub symbol_of_lem : symbol_of (element_of slot l k) ≡ l
  symbol_of_lem = omega arith

  pub subcarrier_of_lem : subcarrier_of (element_of slot l k) ≡ k
  subcarrier_of_lem = omega arith

  pub element_below : slot < slots → element_of slot l k < elements
  element_below h = omega arith

-- ---- the same in an uplink slot of T subcarriers

module _ (T : ℕ) where
  pub uplink_of_parts : (x : ℕ) → uplink_element_of T (uplink_symbol_of T x) (uplink_subcarrier_of T x) ≡ x
  uplink_of_parts x = div-add-mod' x T

  pub uplink_inside : (x : ℕ) → 0 < T → x < uplink_elements T → (uplink_symbol_of T x < symbols) × (uplink_subcarrier_of T x < T)
  uplink_inside x h l = ((div-lt_iff_lt-mul h).1 l, mod-lt x h)

  module _ (l k : ℕ) (hk : k < T) where
    pub uplink_symbol_of_lem : uplink_symbol_of T (uplink_element_of T l k) ≡ l
    uplink_symbol_of_lem = digits_div l hk

    pub uplink_subcarrier_of_lem : uplink_subcarrier_of T (uplink_element_of T l k) ≡ k
    uplink_subcarrier_of_lem = digits_mod l hk

    pub uplink_element_below : l < symbols → uplink_element_of T l k < uplink_elements T
    uplink_element_below h = digits_lt h hk
