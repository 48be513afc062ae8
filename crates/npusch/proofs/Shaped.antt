-- The numbers of a grant's shape, joined.
use mathlib.Core.Path.{◌≡◌, ap, ap₂, ◌∙◌}
use Prim.Native.Nat.{ℕ, ◌+◌, ◌*◌}
use Rattle.grid.specs.Grid.{uplink_subcarriers}
use Rattle.grid.specs.Tables.{entry, lengths, uplink_delays}
use Rattle.uplink.specs.declared.Shape.{Shape}
use Rattle.npusch.specs.declared.NpuschGrant.{NpuschGrant}
use Rattle.numerology.specs.Numerology.{slots_in, first_after, group_of}
use Rattle.npusch.specs.Fields.{first_tone, unit_slots, consecutive_of, reference_of}
use Rattle.npusch.specs.Shaping.{grant_tones, shape_of}
use Rattle.npusch.specs.Scaffold.{grant_copies}

pub shape_is : (g : NpuschGrant) (first subcarriers block gap tone tones codeword copies consecutive group reference : ℕ)
    → tones ≡ grant_tones g → copies ≡ grant_copies g → first ≡ first_after g.spacing (g.n + entry uplink_delays g.delay)
    → subcarriers ≡ uplink_subcarriers g.spacing → block ≡ slots_in g.spacing 256 → gap ≡ slots_in g.spacing 40
    → tone ≡ first_tone g.spacing g.subcarrier → codeword ≡ entry lengths g.units * unit_slots tones → consecutive ≡ consecutive_of tones copies
    → group ≡ group_of g.spacing → reference ≡ reference_of g.spacing
    → ◌≡◌ {A = Shape}
    (record {
      first = first;
      subcarriers = subcarriers;
      block = block;
      gap = gap;
      tone = tone;
      tones = tones;
      codeword = codeword;
      copies = copies;
      consecutive = consecutive;
      group = group;
      reference = reference;
      references = 1;
    })
    (shape_of g)
unfolding shape_of
shape_is g _ _ _ _ _ _ _ _ _ _ _ ht hc hf hs hb hg hk hw hr hq hl =
    λ i. record {
      first = hf i;
      subcarriers = hs i;
      block = hb i;
      gap = hg i;
      tone = hk i;
      tones = ht i;
      codeword = (hw ∙ ap (λ (n : ℕ). entry lengths g.units * unit_slots n) ht) i;
      copies = hc i;
      consecutive = (hr ∙ ap₂ consecutive_of ht hc) i;
      group = hq i;
      reference = hl i;
      references = 1;
    }
