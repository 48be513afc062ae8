use mathlib.Core.Bool.{true, ◌&&◌}
use mathlib.Core.Path.{◌≡◌, sym, subst, ◌∙◌}
use Prim.Native.Nat.{ℕ, ◌<◌}
use lib.Dec.{ltb}
use borrow.Author.Tests.{ltb-true}
use Rattle.counting.proofs.Facts.{both_parts}
use Rattle.grid.specs.Grid.{symbols}
use Rattle.sending.proofs.Answer.{outside_at}
use Rattle.uplink.specs.declared.Shape.{Shape}
use Rattle.uplink.specs.Mapping.{sending_of}
use Rattle.uplink.specs.Quick.{Located}
use Rattle.uplink.proofs.Lines.{not_granted, on_reference, on_data}
use Rattle.uplink.proofs.Joined.{backward_unsent, backward_not_ours, backward_ours}
use Rattle.uplink.proofs.Splitting.{none_sent, found_sent, found_index}
use Rattle.uplink.proofs.backward.Goals as goal

-- inside the grid
module _ (s : Shape) (l k : ℕ) (inside : (ltb l symbols && ltb k s.subcarriers) ≡ true) where
  symbol_inside : l < symbols
  symbol_inside = ltb-true _ _ (both_parts (ltb l symbols) _ inside).0

  subcarrier_inside : k < s.subcarriers
  subcarrier_inside = ltb-true _ _ (both_parts (ltb l symbols) _ inside).1

pub returns-then-not-inside : goal.returns-then-not-inside
returns-then-not-inside c =
    λ is_open at.
    let a = c.args in
    c.refused.ensures ∙ sym (outside_at (sending_of a.s is_open) _ a.slot _ c.if-not-inside.true)

pub returns-in_default : goal.returns-in_default
returns-in_default c =
    λ is_open at.
    let a = c.args in
    c.not_ours.ensures
    ∙ backward_unsent a.s is_open a.slot a.l a.k c.if-not-inside.false (none_sent a.s is_open a.slot (subst (Located a.s is_open a.slot) c.in_default.is at))

pub returns-then-not-is_granted : goal.returns-then-not-is_granted
returns-then-not-is_granted c =
    λ is_open at.
    let a = c.args in
    let n = not_granted a.s c.requires.0 a.l a.k (subcarrier_inside a.s a.l a.k c.if-not-inside.false) (sym c.is_granted.ensures ∙ c.if-not-is_granted.true) in
    c.not_ours-then-not-is_granted.ensures
    ∙ backward_not_ours a.s is_open a.slot a.l a.k c.if-not-inside.false 0 (found_sent a.s is_open a.slot _ (subst (Located a.s is_open a.slot) c.in-Some.is at)) n.0 n.1

pub returns-then-is_reference : goal.returns-then-is_reference
returns-then-is_reference c =
    λ is_open at.
    let a = c.args in
    let n = on_reference a.s c.requires.0 a.l a.k (subcarrier_inside a.s a.l a.k c.if-not-inside.false) (sym c.is_granted.ensures ∙ c.if-not-is_granted.false) (sym c.is_reference.ensures ∙ c.if-is_reference.true) in
    c.not_ours-then-is_reference.ensures
    ∙ backward_not_ours a.s is_open a.slot a.l a.k c.if-not-inside.false 1 (found_sent a.s is_open a.slot _ (subst (Located a.s is_open a.slot) c.in-Some.is at)) n.0 n.1

pub number_of-e-requires : goal.number_of-e-requires
number_of-e-requires c =
    let a = c.args in
    (c.requires.0, subcarrier_inside a.s a.l a.k c.if-not-inside.false, on_data a.s c.requires.0 a.l a.k (subcarrier_inside a.s a.l a.k c.if-not-inside.false) (symbol_inside a.s a.l a.k c.if-not-inside.false) (sym c.is_granted.ensures ∙ c.if-not-is_granted.false) (sym c.is_reference.ensures ∙ c.if-is_reference.false))

pub returns : goal.returns
returns c =
    λ is_open at.
    let a = c.args in
    let l = subst (Located a.s is_open a.slot) c.in-Some.is at in
    c.ours.ensures
    ∙ backward_ours a.s is_open a.slot a.l a.k c.if-not-inside.false _ _ _ _ _ _ (found_sent a.s is_open a.slot _ l)
    (on_data a.s c.requires.0 a.l a.k (subcarrier_inside a.s a.l a.k c.if-not-inside.false) (symbol_inside a.s a.l a.k c.if-not-inside.false) (sym c.is_granted.ensures ∙ c.if-not-is_granted.false) (sym c.is_reference.ensures ∙ c.if-is_reference.false))
    c.slot_data-w.ensures.0 (found_index a.s is_open a.slot _ l) c.number_of-e.ensures.0 c.carried_by-unit.ensures.0 c.item.ensures
    c.item-2.ensures
