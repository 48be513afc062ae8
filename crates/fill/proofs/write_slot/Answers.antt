use Rattle.std.proofs.Common.{rules}
use mathlib.Core.List.{List, ◌++◌}
use mathlib.Core.Path.{◌≡◌, sym, ap, ◌∙◌}
use Prim.Native.Nat.{ℕ, ◌+◌, ◌*◌}
use native.Mathlib.Omega.{arith}
use lib.Ieee.{Float}
use lib.ListN.{take}
use Rattle.counting.specs.Counting.{count}
use Rattle.grid.specs.Grid.{subcarriers, symbols, slot_elements}
use Rattle.elements.specs.Elements.{used}
use Rattle.fill.specs.Fill.{laid}
use Rattle.fill.specs.Quick.{written_in_row}
use Rattle.fill.proofs.Laid.{laid_none, laid_all}
use Rattle.fill.proofs.Rowwise.{none_yet, few, row_next, row_room, row_laid}
use Rattle.fill.proofs.write_slot.Goals as goal

pub loop-l-init : goal.loop-l-init
loop-l-init c = (c.requires.0, none_yet c.args.layout (c.args.slot * slot_elements) c.args.c, laid_none _)

pub write_row-n-requires : goal.write_row-n-requires
write_row-n-requires c =
    let a = c.args in
    let l = c.loop-l in (
      omega (arith, c.loop-l-test.true, l.invariant.0),
      l.invariant.0,
      omega (arith, c.requires.3, l.invariant.1, few a.layout (a.slot * slot_elements) (subcarriers * l.l), c.loop-l-test.true),
      omega (arith, c.requires.4, row_room a.layout a.slot l.l c.loop-l-test.true c.used_row-row.result c.used_row-row.ensures a.c l.n l.invariant.1),
    )

pub loop-l-preserved : goal.loop-l-preserved
loop-l-preserved c =
    let a = c.args in
    let l = c.loop-l in
    let row = c.used_row-row.result in
    let of = c.used_row-row.ensures in
    let on : subcarriers * l.l + subcarriers ≡ subcarriers * (l.l + 1) = omega arith in (
      c.write_row-n.ensures.1,
      c.write_row-n.ensures.0 ∙ row_next a.layout a.slot l.l c.loop-l-test.true row of a.c l.n l.invariant.1,
      sym (ap (λ (i : ℕ). take (2 * i) c.write_row-n.new.out) on) ∙ c.write_row-n.ensures.2
          ∙ ap (λ (x : List Float). x ++ laid (written_in_row row l.n a.bits.now a.four) subcarriers) l.invariant.2
          ∙ row_laid a.layout a.slot l.l c.loop-l-test.true row of a.c l.n l.invariant.1 a.bits.now a.four,
    )

pub returns : goal.returns
returns c =
    let a = c.args in
    let l = c.loop-l in
    let last : l.l ≡ symbols = search rules in
    let e : subcarriers * l.l ≡ slot_elements = omega (arith, last) in
    (l.invariant.1 ∙ ap (λ (n : ℕ). a.c + count (used a.layout 0 subcarriers) (a.slot * slot_elements) n) e, laid_all _ _ (subcarriers * l.l) slot_elements l.invariant.0 e l.invariant.2)

pub shape_of-out : goal.shape_of-out
shape_of-out c = c.loop-l.invariant.0 ∙ sym c.requires.0
