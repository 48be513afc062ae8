use mathlib.Core.List.{List, ◌++◌}
use mathlib.Core.Path.{◌≡◌, ap, ap₂, sym, subst, ◌∙◌}
use Prim.Native.Nat.{ℕ, ◌*◌}
use native.Mathlib.Omega.{arith}
use lib.Ieee.{Float}
use lib.ListN.{length, drop}
use Rattle.grid.specs.Grid.{slot_elements, numbers}
use Rattle.grid.specs.Scaffold.{slot_numbers}
use Rattle.elements.specs.declared.Layout.{Layout}
use Rattle.transmitted.specs.Quick.{Prepared}
use Rattle.fill.proofs.Laid.{halves, length_laid, front_size, joined_size, back_size}
use Rattle.fill.proofs.Rowwise.{few, slots_room}
use Rattle.fill.proofs.Answering.{output_size, output_refused, output_filled, both_slots}
use Rattle.fill.proofs.fill_lent.Goals as goal

-- what an accepted call has, by its layout
prepared : (g h : Layout) (first : ℕ) (bits : List ℕ) → g ≡ h → Prepared h first bits → Prepared g first bits
prepared g h first bits e p = subst (λ (g : Layout). Prepared g first bits) (sym e) p

pub layout-layout-requires : goal.layout-layout-requires
layout-layout-requires c = c.in-Ok.ensures.accepted.shift

pub slice_bounds-write_slot-end : goal.slice_bounds-write_slot-end
slice_bounds-write_slot-end c =
    let sized : length c.args.out.now ≡ numbers = output_size _ _ _ _ _ _ _ c.args.out.now _ c.in-Ok.ensures in
    omega (arith, sized)

pub write_slot-next-requires : goal.write_slot-next-requires
write_slot-next-requires c =
    let sized : length c.args.out.now ≡ numbers = output_size _ _ _ _ _ _ _ c.args.out.now _ c.in-Ok.ensures in
    let p = prepared _ _ _ _ c.layout-layout.ensures c.in-Ok.ensures.accepted.prepared in
    (front_size slot_numbers c.args.out.now sized, omega arith, p.valid, omega (arith, p.small), omega (arith, slots_room c.layout-layout.result c.in-Ok.call.first _ p.room))

-- the front half written over keeps the size
half_sized : (out front : List Float) → length out ≡ numbers → length front ≡ slot_numbers → length (front ++ drop slot_numbers out) ≡ numbers
half_sized out front e f = joined_size slot_numbers front out f e

pub write_slot-requires : goal.write_slot-requires
write_slot-requires c =
    let sized : length c.args.out.now ≡ numbers = output_size _ _ _ _ _ _ _ c.args.out.now _ c.in-Ok.ensures in
    let front : length c.write_slot-next.new.out ≡ slot_numbers = ap length c.write_slot-next.ensures.1 ∙ length_laid _ slot_elements in
    let p = prepared _ _ _ _ c.layout-layout.ensures c.in-Ok.ensures.accepted.prepared in
    let r = c.write_slot-next.ensures.0 in (
      back_size slot_numbers (c.write_slot-next.new.out ++ drop slot_numbers c.args.out.now) (half_sized c.args.out.now c.write_slot-next.new.out sized front),
      omega arith,
      p.valid,
      omega (arith, p.small, r, few c.layout-layout.result (0 * slot_elements) slot_elements),
      omega (arith, r, slots_room c.layout-layout.result c.in-Ok.call.first _ p.room),
    )

pub returns-in-Ok : goal.returns-in-Ok
returns-in-Ok c =
    let front : length c.write_slot-next.new.out ≡ slot_numbers = ap length c.write_slot-next.ensures.1 ∙ length_laid _ slot_elements in (
      c.in-Ok.ensures.number,
      halves c.write_slot-next.new.out (drop slot_numbers c.args.out.now) c.write_slot.new.out slot_numbers front
          ∙ ap₂ ◌++◌ c.write_slot-next.ensures.1 c.write_slot.ensures.1
          ∙ both_slots _ _ _ _ _ _ _ c.args.out.now c.in-Ok.call c.in-Ok.ensures
          c.layout-layout.result c.symbols-four.result c.write_slot-next.result c.layout-layout.ensures c.symbols-four.ensures c.write_slot-next.ensures.0
          ∙ output_filled _ _ _ _ _ _ _ c.args.out.now c.in-Ok.call c.in-Ok.ensures,
    )

pub returns-in-Err : goal.returns-in-Err
returns-in-Err c =
    (c.number.ensures ∙ c.in-Err.ensures.number, output_refused _ _ _ _ _ _ _ c.args.out.now c.in-Err.refusal c.in-Err.ensures.number)
