-- For the code alone: what contracts of the code and proofs say to each other. No question and no promise cites it.
use Rattle.std.specs.Prelude.{cond, ◌≡◌, ℕ, zero, suc, ◌+◌, ◌%◌, ◌≤◌, ◌<◌}
use Rattle.grid.specs.Grid.{subcarriers}
use Rattle.elements.specs.declared.Layout.{Layout}
use Rattle.elements.specs.declared.ElementKind.{ElementKind}
use Rattle.elements.specs.declared.ElementKind.TheVariants.{Plain, Narrowband, Cell}
use Rattle.elements.specs.declared.ElementUse.{ElementUse}
use Rattle.elements.specs.declared.ElementUse.TheVariants.{Used, Unused}
use Rattle.elements.specs.Elements.{kind_of, used, number_of, ncce_width}

-- every accepted cell has such a layout: v is the identity mod 6; 1 or 2 narrowband ports; 0, 1, 2 or 4 cell ports;
-- control region 0 to 3
pub record Valid (g : Layout) : Type 0 where
  pub shift : g.v < 6
  pub narrowband : (1 ≤ g.nports) × (g.nports ≤ 2)
  pub cell : (g.cports ≤ 4) × (g.cports ≡ 3 → ⊥)
  pub region : g.control ≤ 3

-- the number of a kind, as in kind_of, and the kind with a number
abbrev pub kind_number : ElementKind → ℕ
kind_number Plain = 0
kind_number Narrowband = 1
kind_number Cell = 2

abbrev pub kind_with : ℕ → ElementKind
kind_with zero = Plain
kind_with (suc zero) = Narrowband
kind_with (suc (suc n)) = Cell

-- an element by its number where it is used, by its kind elsewhere
unfoldable pub element_use_of : Layout → ℕ → ℕ → ℕ → ElementUse
element_use_of g from width x =
    cond (used g from width x) (Used (number_of g from width x)) (Unused (kind_with (kind_of g x)))

-- one NCCE or both
pub record Part (from width : ℕ) : Type 0 where
  pub starts : from % ncce_width ≡ 0
  pub whole : width % ncce_width ≡ 0
  pub some : 0 < width
  pub inside : from + width ≤ subcarriers
