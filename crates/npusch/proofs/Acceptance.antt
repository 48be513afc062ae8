-- What acceptance says of a grant's numbers, and that its shape then fits.
use mathlib.Core.Path.{◌≡◌, refl, sym, subst}
use Prim.Native.Nat.{ℕ, ◌+◌, ◌≤◌, ◌<◌}
use native.Mathlib.Nat.{mul-pos, mul-le-mul}
use native.Mathlib.Omega.{arith}
use lib.Dec.{ltb}
use borrow.Author.Tests.{ltb-false, leb-false, le-ltb, lt-leb}
use Rattle.counting.proofs.Facts.{passed, after_first, either_parts}
use Rattle.grid.specs.Tables.{entry, lengths, uplink_delays}
use Rattle.grid.proofs.Rules.{length_bounds, uplink_copies_bounds, uplink_delay_bound}
use Rattle.numerology.specs.Numerology.{group_of}
use Rattle.numerology.proofs.Spacing.{first_bound, by_spacing_bounds, spaced}
use Rattle.uplink.specs.declared.Shape.{Shape}
use Rattle.uplink.specs.Scaffold.{all_open}
use Rattle.uplink.specs.Fits.{Fits, OpenRepeats}
use Rattle.nprach.specs.declared.Windows.{Windows}
use Rattle.nprach.specs.Windows.{none}
use Rattle.nprach.proofs.Spaced.{none_closes}
use Rattle.postponed.specs.Beside.{AtSpacing}
use Rattle.postponed.proofs.Beside.{open_repeats}
use Rattle.npusch.specs.declared.NpuschGrant.{NpuschGrant}
use Rattle.npusch.specs.Fields.{tones_of, unit_slots}
use Rattle.npusch.specs.Scaffold.{tone_fields, above_mcs}
use Rattle.npusch.specs.Refusals.{above_largest, names_no_tone, windows_number, fields_refusal, refusal}
use Rattle.grid.specs.Grid.{last_subframe}
use Rattle.npusch.specs.Shaping.{shape_of, open_of}
use Rattle.npusch.proofs.Fielded.{tone_field, whole_groups, consecutive_splits, consecutive_bounds}

-- every number in its range
pub record InRange (g : NpuschGrant) : Type 0 where
  pub early : g.n ≤ last_subframe
  pub spacing : g.spacing ≤ 1
  pub subcarrier : g.subcarrier ≤ 63
  pub tones : g.subcarrier < tone_fields g.spacing
  pub units : g.units ≤ 7
  pub copies : g.copies ≤ 7
  pub delay : g.delay ≤ 3
  pub mcs : g.mcs ≤ 4

-- and the windows not refused
pub record Accepted (g : NpuschGrant) (ws : Windows) : Type 0 where
  pub range : InRange g
  pub windows : windows_number g ws ≡ 0

module _ (g : NpuschGrant) where
  pub ranged : fields_refusal g ≡ 0 → InRange g
  unfolding fields_refusal
  ranged e =
      let p9 = passed (ltb last_subframe g.n) 9 _ (omega arith) e in
      let p10 = passed (above_largest g) 10 _ (omega arith) p9.1 in
      let p11 = passed (names_no_tone g) 11 _ (omega arith) p10.1 in
      let p13 = passed (above_mcs g) 13 _ (omega arith) p11.1 in
      let a = either_parts (ltb 1 g.spacing) _ p10.0 in
      let b = either_parts (ltb 63 g.subcarrier) _ a.1 in
      let c = either_parts (ltb 7 g.units) _ b.1 in
      let d = either_parts (ltb 7 g.copies) _ c.1 in
      let f = either_parts (ltb 3 g.delay) _ d.1 in
      record {
        early = ltb-false _ _ p9.0;
        spacing = ltb-false _ _ a.0;
        subcarrier = ltb-false _ _ b.0;
        tones = leb-false _ _ p11.0;
        units = ltb-false _ _ c.0;
        copies = ltb-false _ _ d.0;
        delay = ltb-false _ _ f.0;
        mcs = ltb-false _ _ p13.0;
      }

  -- and nothing else is refused
  pub in_range_passes : InRange g → fields_refusal g ≡ 0
  unfolding fields_refusal
  in_range_passes a =
      rw (
        le-ltb last_subframe g.n a.early,
        le-ltb 1 g.spacing a.spacing,
        le-ltb 63 g.subcarrier a.subcarrier,
        le-ltb 7 g.units a.units,
        le-ltb 7 g.copies a.copies,
        le-ltb 3 g.delay a.delay,
        le-ltb 15 g.mcs (omega (arith, a.mcs)),
        lt-leb (tone_fields g.spacing) g.subcarrier a.tones,
        le-ltb 4 g.mcs a.mcs,
      ) refl

  pub accepted : (ws : Windows) → refusal g ws ≡ 0 → Accepted g ws
  unfolding refusal
  accepted ws e = let p = after_first (fields_refusal g) (windows_number g ws) e in record { range = ranged p.0; windows = p.1 }

  pub accepts : (ws : Windows) → Accepted g ws → refusal g ws ≡ 0
  unfolding refusal
  accepts ws a = rw (in_range_passes a.range) a.windows

  pub fits_in : InRange g → Fits (shape_of g)
  unfolding shape_of
  fits_in a =
      let t = tone_field g.spacing g.subcarrier a.spacing a.tones in
      let units = length_bounds g.units (omega (arith, a.units)) in
      let copies = uplink_copies_bounds g.copies (omega (arith, a.copies)) in
      let consecutive = consecutive_bounds (tones_of g.spacing g.subcarrier) g.copies (omega (arith, a.copies)) in
      let slots : ℕ = unit_slots (tones_of g.spacing g.subcarrier) in
      let reference = by_spacing_bounds g.spacing 4 3 in
      let by = spaced g.spacing (g.n + entry uplink_delays g.delay) in
      record {
        block = by.block;
        tones = t.some;
        codeword = mul-pos units.0 t.slots;
        copies = copies.0;
        consecutive = consecutive.0;
        group = by.group;
        references = omega arith;
        within_symbols = omega (arith, reference.1);
        within_tones = t.inside;
        passes = consecutive_splits (tones_of g.spacing g.subcarrier) g.copies (omega (arith, a.copies));
        groups = whole_groups (entry lengths g.units) slots (group_of g.spacing) t.groups;
        whole_first = by.whole_first;
        whole_block = by.whole_block;
        whole_gap = by.whole_gap;
        first_small =
            omega (
              arith,
              a.early,
              first_bound g.spacing (g.n + entry uplink_delays g.delay),
              uplink_delay_bound g.delay (omega (arith, a.delay)),
            );
        block_small = by.block_small;
        gap_small = by.gap_small;
        subcarriers_small = by.subcarriers_small;
        codeword_small = omega (arith, mul-le-mul units.1 t.slots_small);
        copies_small = omega (arith, copies.1);
        consecutive_small = omega (arith, consecutive.1);
        group_small = by.group_small;
      }

-- its numbers by its spacing
pub spaced_of : (g : NpuschGrant) → InRange g → AtSpacing g.spacing (shape_of g)
unfolding shape_of
spaced_of g a = record { listed = a.spacing; subcarriers = refl; block = refl; gap = refl; group = refl }

module _ (g : NpuschGrant) (ws : Windows) (e : refusal g ws ≡ 0) where
  pub fits : Fits (shape_of g)
  fits = fits_in g (accepted g ws e).range

  -- what the windows leave
  pub opens : OpenRepeats (shape_of g) (open_of g ws)
  unfolding shape_of
  opens = let a = accepted g ws e in open_repeats g.spacing (shape_of g) (spaced_of g a.range) ws a.windows

pub plain_open : (g : NpuschGrant) (u : ℕ) → all_open u ≡ open_of g none u
plain_open g u = none_closes g.spacing _ _ none refl u

-- what every uplink grant shows of its shape
pub shown : (g : NpuschGrant) → fields_refusal g ≡ 0 → (s : Shape) → s ≡ shape_of g → (s ≡ shape_of g) × Fits s × AtSpacing g.spacing s
shown g e s own = let a = ranged g e in (own, subst Fits (sym own) (fits_in g a), subst (AtSpacing g.spacing) (sym own) (spaced_of g a))
