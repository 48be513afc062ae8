-- For the code alone. What the quick code's own functions say.
use Rattle.std.specs.Prelude.{Bool, not, cond, ◌&&◌, ◌≡◌, ℕ, ◌+◌, ◌-◌, ◌*◌, ◌/◌, ◌%◌, ◌^◌, ◌<◌, eqb, ltb, leb}
use mir.Val.{bool_byte}
use Rattle.grid.specs.Grid.{subcarriers, symbols, slots, element_of}
use Rattle.references.specs.declared.Marks.{Marks}
use Rattle.references.specs.Quick.{taken_at_0, taken_at_1}
use Rattle.elements.specs.declared.Layout.{Layout}
use Rattle.elements.specs.declared.Spot.{Spot}
use Rattle.elements.specs.declared.Row.{Row}
use Rattle.elements.specs.Elements.{used}

-- a row is a symbol of a slot: row slot * symbols + l
abbrev pub rows : ℕ
rows = slots * symbols

-- ---- how many are used

-- by bytes, for l = 0 to 7: how many of six subcarriers carry no reference, in all symbols of a slot before l
unfoldable pub sums_of : ℕ → ℕ → ℕ
sums_of nports cports =
    0x2a241e18120c0600 - taken_at_0 cports * 0x0202020101010100 - taken_at_1 cports * 0x0101010101010000
    - nports * 0x0201000000000000

abbrev pub byte_of : ℕ → ℕ → ℕ
byte_of s l = s / 2 ^ (8 * l) % 256

unfoldable pub six_before : ℕ → ℕ → ℕ → ℕ
six_before nports cports l = byte_of (sums_of nports cports) l

-- the same in symbol l alone
abbrev pub free_of : ℕ → ℕ → ℕ → ℕ
free_of nports cports l = six_before nports cports (l + 1) - six_before nports cports l

-- the same in the first n rows, without the control region
unfoldable pub six_in_rows : Layout → ℕ → ℕ
six_in_rows g n =
    cond (ltb n g.control) 0
    (cond (ltb n symbols) (six_before g.nports g.cports n - six_before g.nports g.cports g.control)
    (six_before g.nports g.cports symbols + six_before g.nports g.cports (n - symbols)
    - six_before g.nports g.cports g.control))

-- the row with the q-th of those, and which one of the row it is
pub record SpotOf (g : Layout) (q : ℕ) (s : Spot) : Type 0 where
  pub slot : s.slot < slots
  pub symbol : s.l < symbols
  pub reached : six_in_rows g (s.slot * symbols + s.l) + s.rest ≡ q
  pub below : q < six_in_rows g (s.slot * symbols + s.l + 1)

-- ---- the references of a symbol, as marks of six

-- i, below 6, is no mark
abbrev pub is_free : Marks → ℕ → Bool
is_free m i = not (eqb i m.low) && not (eqb i m.high)

-- the j-th that is none
abbrev pub nth_free : Marks → ℕ → ℕ
nth_free m j =
    let k = j + bool_byte (leb m.low j) in
    k + bool_byte (leb m.high k)

-- the j-th used subcarrier of a row, and how many are used before subcarrier k, number i of its six
abbrev pub nth_in : Marks → ℕ → ℕ → ℕ → ℕ
nth_in m free from j =
    let upper = bool_byte (leb free j) in
    from + 6 * upper + nth_free m (j - free * upper)

abbrev pub place_in : Marks → ℕ → ℕ → ℕ → ℕ → ℕ
place_in m free from k i =
    bool_byte (leb (from + 6) k) * free + i - bool_byte (ltb m.low i) - bool_byte (ltb m.high i)

-- narrowband references lie on symbols 5 and 6, cell references before
abbrev pub reference_kind : ℕ → ℕ
reference_kind l = cond (ltb l 5) 2 1

-- ---- a row of all twelve subcarriers

abbrev pub has_in : Row → ℕ → Bool
has_in r k = not r.shut && (not (eqb (k % 6) r.low) && not (eqb (k % 6) r.high))

pub record RowOf (g : Layout) (slot l : ℕ) (r : Row) : Type 0 where
  pub has : (k : ℕ) → k < subcarriers → has_in r k ≡ used g 0 subcarriers (element_of slot l k)
