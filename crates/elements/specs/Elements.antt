-- The elements of a downlink subframe and those that carry data: 01 "Downlink elements", TS 36.211 clause 10.2.
-- l is the symbol of the slot, k the subcarrier, x the number of an element in the subframe.
use Rattle.std.specs.Prelude.{Bool, not, cond, ◌&&◌, ◌||◌, ℕ, ◌+◌, ◌%◌, eqb, ltb, leb}
use Rattle.counting.specs.Counting.{rank, select, in_range}
use Rattle.grid.specs.Grid.{elements, slot_of, symbol_of, subcarrier_of}
use Rattle.elements.specs.declared.Layout.{Layout}

-- ---- reference signals, in each slot, at every sixth subcarrier: near, k mod 6 = v, or far, k mod 6 = (v + 3) mod 6

abbrev pub near : Layout → ℕ → Bool
near g k = eqb (k % 6) g.v

abbrev pub far : Layout → ℕ → Bool
far g k = eqb (k % 6) ((g.v + 3) % 6)

-- narrowband reference signal (clause 10.2.6.2): port 2000 at l = 5 near and at l = 6 far; port 2001 the other way
-- round (n: the subcarrier is near, f: it is far)
abbrev pub port2000 : ℕ → Bool → Bool → Bool
port2000 l n f = (eqb l 5 && n) || (eqb l 6 && f)

abbrev pub port2001 : ℕ → Bool → Bool → Bool
port2001 l n f = port2000 l f n

abbrev pub nrs_on : Layout → ℕ → Bool → Bool → Bool
nrs_on g l n f = port2000 l n f || (leb 2 g.nports && port2001 l n f)

unfoldable pub nrs : Layout → ℕ → ℕ → Bool
nrs g l k = nrs_on g l (near g k) (far g k)

-- cell reference signal (clause 6.10.1.2): port 0 at l = 0 near and at l = 4 far; port 1 the other way round;
-- ports 2 and 3 together at l = 1 near and far
abbrev pub port0 : ℕ → Bool → Bool → Bool
port0 l n f = (eqb l 0 && n) || (eqb l 4 && f)

abbrev pub port1 : ℕ → Bool → Bool → Bool
port1 l n f = port0 l f n

abbrev pub ports2and3 : ℕ → Bool → Bool → Bool
ports2and3 l n f = eqb l 1 && (n || f)

abbrev pub crs_on : Layout → ℕ → Bool → Bool → Bool
crs_on g l n f =
    (leb 1 g.cports && port0 l n f)
    || ((leb 2 g.cports && port1 l n f) || (leb 4 g.cports && ports2and3 l n f))

unfoldable pub crs : Layout → ℕ → ℕ → Bool
crs g l k = crs_on g l (near g k) (far g k)

abbrev pub reference : Layout → ℕ → ℕ → Bool
reference g l k = nrs g l k || crs g l k

-- kind of an element: 1 narrowband reference, 2 cell reference, 0 plain; no element is both (02 L8, a promise)
unfoldable pub kind_of : Layout → ℕ → ℕ
kind_of g x = cond (nrs g (symbol_of x) (subcarrier_of x)) 1 (cond (crs g (symbol_of x) (subcarrier_of x)) 2 0)

-- ---- elements that carry data (clause 10.2.3.4 for NPDSCH, 10.2.5.5 for NPDCCH)

-- the control region: the first symbols of the first slot
abbrev pub control_region : Layout → ℕ → ℕ → Bool
control_region g slot l = eqb slot 0 && ltb l g.control

-- an element of the grid outside the control region, with no reference
unfoldable pub eligible : Layout → ℕ → Bool
eligible g x =
    ltb x elements
    && (not (control_region g (slot_of x) (symbol_of x)) && not (reference g (symbol_of x) (subcarrier_of x)))

-- eligible, and in a part of the subcarriers: width of them, from a first one on
unfoldable pub used : Layout → ℕ → ℕ → ℕ → Bool
used g from width x = eligible g x && in_range from width (subcarrier_of x)

-- E, the e-th used element, and the number of an element: how many used ones come before it, by slot, then l, then k
abbrev pub count_of : Layout → ℕ → ℕ → ℕ
count_of g from width = rank (used g from width) elements

abbrev pub element_at : Layout → ℕ → ℕ → ℕ → ℕ
element_at g from width e = select (used g from width) elements 0 e

abbrev pub number_of : Layout → ℕ → ℕ → ℕ → ℕ
number_of g from width x = rank (used g from width) x

-- ---- the parts that are used: NPDSCH uses all subcarriers, NPDCCH one NCCE or both (clause 10.2.5.1)

-- NCCE 0 is k 0 to 5, NCCE 1 is k 6 to 11
abbrev pub ncce_width : ℕ
ncce_width = 6
