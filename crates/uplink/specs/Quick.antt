-- For the code alone. What the quick code takes apart.
use Rattle.std.specs.Prelude.{Bool, cond, not, ◌≡◌, ℕ, ◌+◌, ◌-◌, ◌*◌, ◌/◌, ◌%◌, ◌<◌, ltb, Option, Some, None, IfSome}
use Rattle.counting.specs.Counting.{rank}
use Rattle.closures.specs.declared.Closure.{Closure}
use Rattle.closures.specs.declared.Nested.{Nested}
use Rattle.closures.specs.Closures.{clear, is_free}
use Rattle.closures.specs.Quick.{WellNested, Repeats}
use Rattle.grid.specs.Grid.{uplink_symbol_of, uplink_subcarrier_of}
use Rattle.uplink.specs.declared.Shape.{Shape}
use Rattle.uplink.specs.declared.timing.GroupSearch.{GroupSearch}
use Rattle.uplink.specs.declared.Split.{Split}
use Rattle.uplink.specs.Timing.{gap_period, active, sent_slots, is_sent, index_of}
use Rattle.uplink.specs.Elements.{slot_data, element_at}

-- the symbol of a line of data elements
abbrev pub symbol_of_line : Shape → ℕ → ℕ
symbol_of_line s line = cond (ltb line s.reference) line (line + s.references)

-- position p: the transmitted slot, the data element in it, and that element's symbol and subcarrier
abbrev pub split_of : Shape → ℕ → Split
split_of s p = record {
  i = p / slot_data s;
  e = p % slot_data s;
  l = uplink_symbol_of s.subcarriers (element_at s (p % slot_data s));
  k = uplink_subcarrier_of s.subcarriers (element_at s (p % slot_data s));
}

-- the groups of the 40 ms after each 256 ms, as one more closure: groups are counted from time 0, gap periods from
-- the first one's group
abbrev pub gap_closure : Shape → Closure
gap_closure s = record {
  period = gap_period s / s.group;
  phase = s.gap / s.group + (gap_period s / s.group - s.first / s.group % (gap_period s / s.group));
  closed = s.gap / s.group;
}

-- gap periods of 37 parts of 8 ms, of which the last 5 are the gap
pub record Parted (s : Shape) (part : ℕ) : Type 0 where
  pub some : 0 < part
  pub gap_periods : gap_period s / s.group ≡ 37 * part
  pub gaps : s.gap / s.group ≡ 5 * part

-- the longest period of the closures is so many parts that in 37 of them each part comes at each place of a gap
-- period once
pub record Spread (part : ℕ) (nested : Nested) : Type 0 where
  pub times : ℕ
  pub evenly : (c : ℕ) → rank (λ k. not (ltb ((c + k * times) % 37) 5)) 37 ≡ 32
  pub longest : nested.closures.b4.period ≡ times * part

-- nested closures that can be searched beside the gaps of a shape
pub record Searchable (s : Shape) (nested : Nested) : Type 0 where
  pub nesting : WellNested nested
  pub counted : nested.clear ≡ rank (clear nested.closures) nested.closures.b4.period
  pub part : ℕ
  pub parted : Parted s part
  pub spread : Spread part nested

-- a shape's first group, its gaps, and a cycle of what it may send
pub record SearchOf (s : Shape) (nested : Nested) (c : GroupSearch) : Type 0 where
  pub from : c.from ≡ s.first / s.group
  pub gap : c.gap ≡ gap_closure s
  pub cycle : Repeats (is_free (gap_closure s) nested.closures) c.cycle

-- the number of a slot that is sent is one of those counted
abbrev pub Counted : Shape → Option ℕ → Type 0
Counted s found = IfSome found (λ i. i < sent_slots s)

-- which transmitted slot a slot is, if it is sent
pub record Located (s : Shape) (is_open : ℕ → Bool) (slot : ℕ) (r : Option ℕ) : Type 0 where
  pub says : r ≡ cond (is_sent s is_open slot) (Some (index_of s is_open slot)) None
  pub counted : Counted s r

-- if slot number x, counted from the first, may be sent: how many before it may
abbrev pub active_index : Shape → (ℕ → Bool) → ℕ → Option ℕ
active_index s is_open x = cond (active s is_open x) (Some (rank (active s is_open) x)) None
