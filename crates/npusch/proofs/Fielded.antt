-- What the fields name, in closed form and in bounds.
use mathlib.Core.Bool.{Bool, true, false, cond, ◌&&◌}
use mathlib.Core.Path.{◌≡◌, sym, ap, ◌∙◌}
use Prim.Native.Nat.{ℕ, zero, suc, ◌+◌, ◌-◌, ◌*◌, ◌/◌, ◌%◌, ◌≤◌, ◌<◌}
use native.Mathlib.Nat.{mod-one, mul_assoc, mul-mod_left, div-add-mod'}
use native.Mathlib.Omega.{arith}
use lib.Dec.{T, eqb, leb, leb→le, eqb→eq}
use Rattle.counting.proofs.Facts.{each, each_at}
use Rattle.grid.specs.Grid.{uplink_subcarriers}
use Rattle.grid.specs.Tables.{entry, uplink_copies}
use Rattle.grid.proofs.Rules.{parts, half_consecutive, uplink_consecutive_splits, uplink_copies_bounds, consecutive_pos, consecutive_small_lem}
use Rattle.numerology.specs.Numerology.{group_of}
use Rattle.npusch.specs.Fields.{tones_of, first_tone, unit_slots, consecutive_of}
use Rattle.npusch.specs.Scaffold.{tone_fields}
use Rattle.npusch.specs.Quick.{first_field}

-- ---- what holds of every field that names tones, by one computed test for each spacing

-- the first tone by the first field of as many tones; some tones, inside the grid, and a resource unit of whole groups
abbrev field_fits : ℕ → ℕ → Bool
field_fits spacing field =
    leb (first_field spacing field) field
    && (eqb (tones_of spacing field * (field - first_field spacing field)) (first_tone spacing field)
    && (leb 1 (tones_of spacing field)
    && (leb (first_tone spacing field + tones_of spacing field) (uplink_subcarriers spacing)
    && (leb 1 (unit_slots (tones_of spacing field))
    && (leb (unit_slots (tones_of spacing field)) 16
    && eqb (unit_slots (tones_of spacing field) % group_of spacing) 0)))))

narrow_fields : T (each (tone_fields 0) (field_fits 0))
unfolding tones_of first_tone first_field unit_slots
narrow_fields = tt

wide_fields : T (each (tone_fields 1) (field_fits 1))
unfolding tones_of first_tone first_field unit_slots
wide_fields = tt

field_fits_lem : (spacing field : ℕ) → spacing ≤ 1 → field < tone_fields spacing → T (field_fits spacing field)
field_fits_lem zero field h l = each_at (tone_fields 0) (field_fits 0) narrow_fields field l
field_fits_lem (suc zero) field h l = each_at (tone_fields 1) (field_fits 1) wide_fields field l
field_fits_lem (suc (suc spacing)) field h l = absurd (omega arith)

pub record ToneField (spacing field : ℕ) : Type 0 where
  pub from : first_field spacing field ≤ field
  pub first : tones_of spacing field * (field - first_field spacing field) ≡ first_tone spacing field
  pub some : 0 < tones_of spacing field
  pub inside : first_tone spacing field + tones_of spacing field ≤ uplink_subcarriers spacing
  pub slots : 0 < unit_slots (tones_of spacing field)
  pub slots_small : unit_slots (tones_of spacing field) ≤ 16
  pub groups : unit_slots (tones_of spacing field) % group_of spacing ≡ 0

pub tone_field : (spacing field : ℕ) → spacing ≤ 1 → field < tone_fields spacing → ToneField spacing field
tone_field spacing field h l =
    let n : ℕ = tones_of spacing field in
    let e = parts (leb (first_field spacing field) field) _ (field_fits_lem spacing field h l) in
    let f = parts (eqb (n * (field - first_field spacing field)) (first_tone spacing field)) _ e.1 in
    let a = parts (leb 1 n) _ f.1 in
    let b = parts (leb (first_tone spacing field + n) (uplink_subcarriers spacing)) _ a.1 in
    let c = parts (leb 1 (unit_slots n)) _ b.1 in
    let d = parts (leb (unit_slots n) 16) _ c.1 in
    record {
      from = leb→le _ _ e.0;
      first = eqb→eq _ _ f.0;
      some = leb→le 1 n a.0;
      inside = leb→le _ _ b.0;
      slots = leb→le 1 (unit_slots n) c.0;
      slots_small = leb→le (unit_slots n) 16 d.0;
      groups = eqb→eq (unit_slots n % group_of spacing) 0 d.1;
    }

-- a codeword of whole resource units has whole groups
pub whole_groups : (a n g : ℕ) → n % g ≡ 0 → (a * n) % g ≡ 0
whole_groups a n g h =
    let e : n / g * g ≡ n = omega (arith, div-add-mod' n g) in
    ap (λ (x : ℕ). (a * x) % g) (sym e) ∙ ap (λ (x : ℕ). x % g) (sym (mul_assoc a (n / g) g)) ∙ mul-mod_left (a * (n / g)) g

-- ---- copies in a row

module _ (tones field : ℕ) (h : field < 8) where
  pub consecutive_splits : entry uplink_copies field % consecutive_of tones (entry uplink_copies field) ≡ 0
  unfolding consecutive_of
  consecutive_splits = by (eqb tones 1)
    where
      by : (b : Bool) → entry uplink_copies field % cond b 1 (half_consecutive (entry uplink_copies field)) ≡ 0
      by true = mod-one (entry uplink_copies field)
      by false = uplink_consecutive_splits field h

  pub consecutive_bounds : (0 < consecutive_of tones (entry uplink_copies field)) × (consecutive_of tones (entry uplink_copies field) ≤ 4)
  unfolding consecutive_of
  consecutive_bounds = by (eqb tones 1)
    where
      by : (b : Bool) → (0 < cond b 1 (half_consecutive (entry uplink_copies field))) × (cond b 1 (half_consecutive (entry uplink_copies field)) ≤ 4)
      by true = (omega arith, omega arith)
      by false =
          let half : 0 < (entry uplink_copies field + 1) / 2 = omega (arith, (uplink_copies_bounds field h).0) in
          (consecutive_pos ((entry uplink_copies field + 1) / 2) half, consecutive_small_lem ((entry uplink_copies field + 1) / 2))
