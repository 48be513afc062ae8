-- What acceptance says of an acknowledgement's numbers, and that its shape then fits.
use mathlib.Core.Bool.{Bool, true, false, cond, ◌&&◌}
use mathlib.Core.List.{List, [], ◌∷◌}
use mathlib.Core.Path.{◌≡◌, refl, sym, subst}
use Prim.Native.Nat.{ℕ, zero, suc, ◌+◌, ◌-◌, ◌/◌, ◌%◌, ◌≤◌}
use native.Mathlib.Nat.{mod-one}
use native.Mathlib.Omega.{arith}
use lib.Dec.{T, eqb, leb, ltb, leb→le, eqb→eq}
use borrow.Author.Tests.{ltb-false, le-ltb}
use Rattle.counting.proofs.Facts.{passed, after_first, either_parts, each, each_at}
use Rattle.grid.specs.Grid.{uplink_subcarriers}
use Rattle.grid.specs.Tables.{entry, uplink_copies}
use Rattle.grid.proofs.Rules.{parts, uplink_copies_bounds}
use Rattle.uplink.specs.Scaffold.{all_open}
use Rattle.uplink.specs.Fits.{Fits, OpenRepeats}
use Rattle.numerology.proofs.Spacing.{first_bound, by_spacing_bounds, spaced}
use Rattle.nprach.specs.Windows.{none}
use Rattle.nprach.proofs.Spaced.{none_closes}
use Rattle.postponed.specs.Beside.{AtSpacing}
use Rattle.postponed.proofs.Beside.{open_repeats}
use Rattle.harq_ack.specs.declared.HarqAckGrant.{HarqAckGrant}
use Rattle.harq_ack.specs.Fields.{tone_of, narrow_delays, delay_of}
use Rattle.harq_ack.specs.Refusals.{last_npdsch_subframe, above_largest, windows_number, fields_refusal, refusal}
use Rattle.harq_ack.specs.Shaping.{shape_of, open_of}
use Rattle.harq_ack.specs.Scaffold.{unit_slots}
use Rattle.uplink.specs.declared.Shape.{Shape}
use Rattle.nprach.specs.declared.Windows.{Windows}

-- every number in its range
pub record InRange (g : HarqAckGrant) : Type 0 where
  pub early : g.n ≤ last_npdsch_subframe
  pub spacing : g.spacing ≤ 1
  pub field : g.field ≤ 15
  pub copies : g.copies ≤ 7

-- and the windows not refused
pub record Accepted (g : HarqAckGrant) (ws : Windows) : Type 0 where
  pub range : InRange g
  pub windows : windows_number g ws ≡ 0

module _ (g : HarqAckGrant) where
  pub ranged : fields_refusal g ≡ 0 → InRange g
  unfolding fields_refusal
  ranged e =
      let p9 = passed (ltb last_npdsch_subframe g.n) 9 _ (omega arith) e in
      let p10 = passed (above_largest g) 10 _ (omega arith) p9.1 in
      let a = either_parts (ltb 1 g.spacing) _ p10.0 in
      let b = either_parts (ltb 15 g.field) _ a.1 in
      record {
        early = ltb-false _ _ p9.0;
        spacing = ltb-false _ _ a.0;
        field = ltb-false _ _ b.0;
        copies = ltb-false _ _ b.1;
      }

  -- and nothing else is refused
  pub in_range_passes : InRange g → fields_refusal g ≡ 0
  unfolding fields_refusal
  in_range_passes a =
      rw (
        le-ltb last_npdsch_subframe g.n a.early,
        le-ltb 1 g.spacing a.spacing,
        le-ltb 15 g.field a.field,
        le-ltb 7 g.copies a.copies,
      ) refl

  pub accepted : (ws : Windows) → refusal g ws ≡ 0 → Accepted g ws
  unfolding refusal
  accepted ws e = let p = after_first (fields_refusal g) (windows_number g ws) e in record { range = ranged p.0; windows = p.1 }

  pub accepts : (ws : Windows) → Accepted g ws → refusal g ws ≡ 0
  unfolding refusal
  accepts ws a = rw (in_range_passes a.range) a.windows

-- ---- what the field names, by one computed test for each spacing: a tone inside the grid, and a delay of 1 to 21

abbrev field_fits : ℕ → ℕ → Bool
field_fits spacing field =
    leb (tone_of spacing field + 1) (uplink_subcarriers spacing) && (leb 1 (delay_of spacing field) && leb (delay_of spacing field) 21)

narrow_fields : T (each 16 (field_fits 0))
unfolding tone_of delay_of
narrow_fields = tt

wide_fields : T (each 16 (field_fits 1))
unfolding tone_of delay_of
wide_fields = tt

field_fits_lem : (spacing field : ℕ) → spacing ≤ 1 → field ≤ 15 → T (field_fits spacing field)
field_fits_lem zero field h l = each_at 16 (field_fits 0) narrow_fields field (omega arith)
field_fits_lem (suc zero) field h l = each_at 16 (field_fits 1) wide_fields field (omega arith)
field_fits_lem (suc (suc spacing)) field h l = absurd (omega arith)

pub record Named (spacing field : ℕ) : Type 0 where
  pub inside : tone_of spacing field + 1 ≤ uplink_subcarriers spacing
  pub some : 1 ≤ delay_of spacing field
  pub small : delay_of spacing field ≤ 21

pub named : (spacing field : ℕ) → spacing ≤ 1 → field ≤ 15 → Named spacing field
named spacing field h l =
    let a = parts (leb (tone_of spacing field + 1) (uplink_subcarriers spacing)) _ (field_fits_lem spacing field h l) in
    let b = parts (leb 1 (delay_of spacing field)) _ a.1 in
    record { inside = leb→le _ _ a.0; some = leb→le 1 (delay_of spacing field) b.0; small = leb→le (delay_of spacing field) 21 b.1 }

-- ---- the delays at 3.75 kHz, with an entry for every four numbers of the field

abbrev by_fours : List ℕ
by_fours = 13 ∷ 13 ∷ 21 ∷ 21 ∷ []

abbrev stands_by_fours : ℕ → Bool
stands_by_fours field = eqb (entry by_fours (field / 4)) (entry narrow_delays (field / 8))

all_by_fours : T (each 16 stands_by_fours)
all_by_fours = tt

pub by_fours_lem : (field : ℕ) → field ≤ 15 → entry by_fours (field / 4) ≡ entry narrow_delays (field / 8)
by_fours_lem field h = eqb→eq _ _ (each_at 16 stands_by_fours all_by_fours field (omega arith))

-- four slots are whole groups
whole_groups : (b : Bool) → unit_slots % cond b 1 2 ≡ 0
whole_groups true = refl
whole_groups false = refl

pub fits_in : (g : HarqAckGrant) → InRange g → Fits (shape_of g)
unfolding shape_of
fits_in g a =
    let f = named g.spacing g.field a.spacing a.field in
    let copies = uplink_copies_bounds g.copies (omega (arith, a.copies)) in
    let reference = by_spacing_bounds g.spacing 0 2 in
    let by = spaced g.spacing (g.n + delay_of g.spacing g.field - 1) in
    record {
      block = by.block;
      tones = omega arith;
      codeword = omega arith;
      copies = copies.0;
      consecutive = omega arith;
      group = by.group;
      references = omega arith;
      within_symbols = omega (arith, reference.1);
      within_tones = f.inside;
      passes = mod-one (entry uplink_copies g.copies);
      groups = whole_groups (eqb g.spacing 0);
      whole_first = by.whole_first;
      whole_block = by.whole_block;
      whole_gap = by.whole_gap;
      first_small = omega (arith, a.early, first_bound g.spacing (g.n + delay_of g.spacing g.field - 1), f.small);
      block_small = by.block_small;
      gap_small = by.gap_small;
      subcarriers_small = by.subcarriers_small;
      codeword_small = omega arith;
      copies_small = omega (arith, copies.1);
      consecutive_small = omega arith;
      group_small = by.group_small;
    }

-- its numbers by its spacing
pub spaced_of : (g : HarqAckGrant) → InRange g → AtSpacing g.spacing (shape_of g)
unfolding shape_of
spaced_of g a = record { listed = a.spacing; subcarriers = refl; block = refl; gap = refl; group = refl }

module _ (g : HarqAckGrant) (ws : Windows) (e : refusal g ws ≡ 0) where
  pub fits : Fits (shape_of g)
  fits = fits_in g (accepted g ws e).range

  -- what the windows leave
  pub opens : OpenRepeats (shape_of g) (open_of g ws)
  unfolding shape_of
  opens = let a = accepted g ws e in open_repeats g.spacing (shape_of g) (spaced_of g a.range) ws a.windows

pub plain_open : (g : HarqAckGrant) (u : ℕ) → all_open u ≡ open_of g none u
plain_open g u = none_closes g.spacing _ _ none refl u

-- what every uplink grant shows of its shape
pub shown : (g : HarqAckGrant) → fields_refusal g ≡ 0 → (s : Shape) → s ≡ shape_of g → (s ≡ shape_of g) × Fits s × AtSpacing g.spacing s
shown g e s own = let a = ranged g e in (own, subst Fits (sym own) (fits_in g a), subst (AtSpacing g.spacing) (sym own) (spaced_of g a))
