use mathlib.Core.Path.{◌≡◌, ap, ◌∙◌}
use Prim.Native.Nat.{ℕ, ◌+◌, ◌-◌, ◌*◌, ◌<◌}
use native.Mathlib.Omega.{arith}
use Rattle.grid.specs.Grid.{uplink_element_of}
use mathlib.Core.Bool.{true}
use Rattle.counting.specs.Counting.{rank}
use Rattle.uplink.specs.declared.Shape.{Shape}
use Rattle.uplink.specs.Fits.{Fits}
use Rattle.uplink.specs.Elements.{number_of, slot_data, is_data_symbol, carries_data}
use Rattle.uplink.proofs.Lines.{data_parts_at, number_at, granted_parts, slot_data_small, elements_listed}
use Rattle.uplink.proofs.data.number_of.Goals as goal

module _ (s : Shape) (f : Fits s) (l k : ℕ) (h : k < s.subcarriers) (d : carries_data s (uplink_element_of s.subcarriers l k) ≡ true) where
  number : (before : ℕ) → before ≡ rank (is_data_symbol s) l → before * s.tones + (k - s.tone) ≡ number_of s (uplink_element_of s.subcarriers l k)
  number before e =
      let p = data_parts_at s f l k h d in
      ap (λ (n : ℕ). n * s.tones + (k - s.tone)) e ∙ number_at s f l k h p.0 p.1

  below : number_of s (uplink_element_of s.subcarriers l k) < slot_data s
  below = (elements_listed s f).below _ d

pub data_symbols_before-requires : goal.data_symbols_before-requires
data_symbols_before-requires c = (c.requires.0, (data_parts_at c.args.s c.requires.0 c.args.l c.args.k c.requires.1 c.requires.2).0)

pub overflow_mul-result : goal.overflow_mul-result
overflow_mul-result c = omega (arith, number c.args.s c.requires.0 c.args.l c.args.k c.requires.1 c.requires.2 _ c.data_symbols_before.ensures, below c.args.s c.requires.0 c.args.l c.args.k c.requires.1 c.requires.2, slot_data_small c.args.s c.requires.0)

pub overflow_sub-result : goal.overflow_sub-result
overflow_sub-result c =
    let a = c.args in
    let h = c.requires in
    (granted_parts a.s h.0 a.k (data_parts_at a.s h.0 a.l a.k h.1 h.2).1).0

pub overflow_add-result : goal.overflow_add-result
overflow_add-result c = omega (arith, number c.args.s c.requires.0 c.args.l c.args.k c.requires.1 c.requires.2 _ c.data_symbols_before.ensures, below c.args.s c.requires.0 c.args.l c.args.k c.requires.1 c.requires.2, slot_data_small c.args.s c.requires.0)

pub returns : goal.returns
returns c = (number c.args.s c.requires.0 c.args.l c.args.k c.requires.1 c.requires.2 _ c.data_symbols_before.ensures, omega (arith, number c.args.s c.requires.0 c.args.l c.args.k c.requires.1 c.requires.2 _ c.data_symbols_before.ensures, below c.args.s c.requires.0 c.args.l c.args.k c.requires.1 c.requires.2))
