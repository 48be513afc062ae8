-- The shape of an acknowledgement on NPUSCH format 2, and the groups that are open to it: 02 L1, L4.
use Rattle.std.specs.Prelude.{Bool, ℕ, ◌+◌, ◌-◌}
use Rattle.grid.specs.Grid.{uplink_subcarriers}
use Rattle.grid.specs.Tables.{entry, uplink_copies}
use Rattle.uplink.specs.declared.Shape.{Shape}
use Rattle.numerology.specs.Numerology.{by_spacing, slots_in, first_after, group_of}
use Rattle.nprach.specs.declared.Windows.{Windows}
use Rattle.nprach.specs.Windows.{open_to}
use Rattle.harq_ack.specs.declared.HarqAckGrant.{HarqAckGrant}
use Rattle.harq_ack.specs.Fields.{tone_of, delay_of}

-- the first of the three reference symbols of a slot (TS 36.211 table 10.1.4.2-1)
abbrev pub reference_of : ℕ → ℕ
reference_of spacing = by_spacing spacing 0 2

-- it starts in the first slot that begins after the end of subframe n + delay - 1 (TS 36.213 clause 16.4.2); it is one
-- unit of one tone and 4 slots (TS 36.211 table 10.1.2.3-1), whose slots go out once in a row (clause 10.1.3.6)
unfoldable pub shape_of : HarqAckGrant → Shape
shape_of g = record {
  first = first_after g.spacing (g.n + delay_of g.spacing g.field - 1);
  subcarriers = uplink_subcarriers g.spacing;
  block = slots_in g.spacing 256;
  gap = slots_in g.spacing 40;
  tone = tone_of g.spacing g.field;
  tones = 1;
  codeword = 4;
  copies = entry uplink_copies g.copies;
  consecutive = 1;
  group = group_of g.spacing;
  reference = reference_of g.spacing;
  references = 3;
}

-- group u overlaps none of the random access windows in time and tone
abbrev pub open_of : HarqAckGrant → Windows → ℕ → Bool
open_of g ws = open_to g.spacing (tone_of g.spacing g.field) 1 ws
