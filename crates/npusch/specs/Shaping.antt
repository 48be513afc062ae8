-- The shape of an uplink grant, and the groups that are open to it: 01 "Uplink grants", 02 L4.
use Rattle.std.specs.Prelude.{Bool, ℕ, ◌+◌, ◌*◌}
use Rattle.grid.specs.Grid.{uplink_subcarriers}
use Rattle.grid.specs.Tables.{entry, lengths, uplink_copies, uplink_delays}
use Rattle.uplink.specs.declared.Shape.{Shape}
use Rattle.numerology.specs.Numerology.{slots_in, first_after, group_of}
use Rattle.nprach.specs.declared.Windows.{Windows}
use Rattle.nprach.specs.Windows.{open_to}
use Rattle.npusch.specs.declared.NpuschGrant.{NpuschGrant}
use Rattle.npusch.specs.Fields.{tones_of, first_tone, unit_slots, consecutive_of, reference_of, block_size, order_of}

-- how many tones a grant has
abbrev pub grant_tones : NpuschGrant → ℕ
grant_tones g = tones_of g.spacing g.subcarrier

unfoldable pub shape_of : NpuschGrant → Shape
shape_of g = record {
  first = first_after g.spacing (g.n + entry uplink_delays g.delay);
  subcarriers = uplink_subcarriers g.spacing;
  block = slots_in g.spacing 256;
  gap = slots_in g.spacing 40;
  tone = first_tone g.spacing g.subcarrier;
  tones = grant_tones g;
  codeword = entry lengths g.units * unit_slots (grant_tones g);
  copies = entry uplink_copies g.copies;
  consecutive = consecutive_of (grant_tones g) (entry uplink_copies g.copies);
  group = group_of g.spacing;
  reference = reference_of g.spacing;
  references = 1;
}

-- the transport block's size and the modulation order
abbrev pub grant_size : NpuschGrant → ℕ
grant_size g = block_size (grant_tones g) g.mcs g.units

abbrev pub grant_order : NpuschGrant → ℕ
grant_order g = order_of (grant_tones g) g.mcs

-- group u overlaps none of the random access windows in time and tone
abbrev pub open_of : NpuschGrant → Windows → ℕ → Bool
open_of g ws = open_to g.spacing (first_tone g.spacing g.subcarrier) (grant_tones g) ws
