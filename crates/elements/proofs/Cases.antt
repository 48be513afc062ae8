-- Case P1 of 01 for every shift v, the elements of case P9, and an NCCE. What is left free is computed at each of six shifts.
use mathlib.Core.Bool.{Bool}
use mathlib.Core.Path.{◌≡◌, refl}
use Prim.Native.Nat.{ℕ, ◌<◌}
use lib.Dec.{T, eqb, eqb→eq}
use Rattle.counting.specs.Counting.{rank, next, select}
use Rattle.counting.proofs.Facts.{each, each_at}
use Rattle.grid.specs.Grid.{subcarriers, elements, element_of}
use Rattle.elements.specs.declared.Layout.{Layout}
use Rattle.elements.specs.Elements.{nrs, crs, eligible, used, count_of, element_at, ncce_width}

-- E of the layout with shift v
abbrev pub eligible_at : ℕ → ℕ → ℕ → ℕ → ℕ
eligible_at nports cports control v = rank (eligible (record { v = v; nports = nports; cports = cports; control = control })) elements

abbrev at_each : ℕ → ℕ → ℕ → ℕ → Bool
at_each nports cports control n = each 6 (λ v. eqb (eligible_at nports cports control v) n)

by_shift : (nports cports control n : ℕ) → T (at_each nports cports control n) → (v : ℕ) → v < 6 → eligible_at nports cports control v ≡ n
by_shift nports cports control n t v h =
    eqb→eq (eligible_at nports cports control v) n (each_at 6 (λ x. eqb (eligible_at nports cports control x) n) t v h)

-- standalone with one port and shift 0
abbrev standalone : Layout
standalone = record { v = 0; nports = 1; cports = 0; control = 0 }

pub record Cases : Type 0 where
  -- P1: standalone; in-band with control region 3
  pub standalone_one : (v : ℕ) → v < 6 → eligible_at 1 0 0 v ≡ 160
  pub standalone_two : (v : ℕ) → v < 6 → eligible_at 2 0 0 v ≡ 152
  pub four_ports : (v : ℕ) → v < 6 → eligible_at 2 4 3 v ≡ 100
  pub two_ports : (v : ℕ) → v < 6 → eligible_at 2 2 3 v ≡ 104
  pub one_and_one : (v : ℕ) → v < 6 → eligible_at 1 1 3 v ≡ 118
  -- P9: positions 60 and 73 of a subframe
  pub sixtieth : element_at standalone 0 subcarriers 60 ≡ element_of 0 5 1
  pub seventy_third : element_at standalone 0 subcarriers 73 ≡ element_of 0 6 4
  -- an NCCE has half of the elements; NCCE 1 begins at subcarrier 6
  pub ncce : count_of (record { v = 0; nports = 2; cports = 4; control = 3 }) ncce_width ncce_width ≡ 50
  pub ncce_first : element_at standalone ncce_width ncce_width 0 ≡ element_of 0 0 6

pub cases : Cases
unfolding rank next select nrs crs eligible used
cases = record {
  standalone_one = by_shift 1 0 0 160 tt;
  standalone_two = by_shift 2 0 0 152 tt;
  four_ports = by_shift 2 4 3 100 tt;
  two_ports = by_shift 2 2 3 104 tt;
  one_and_one = by_shift 1 1 3 118 tt;
  sixtieth = refl;
  seventy_third = refl;
  ncce = refl;
  ncce_first = refl;
}
