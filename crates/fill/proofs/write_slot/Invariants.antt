use mathlib.Core.Path.{◌≡◌}
use Prim.Native.Nat.{◌+◌, ◌*◌}
use lib.ListN.{length, take}
use Rattle.counting.specs.Counting.{count}
use Rattle.grid.specs.Grid.{subcarriers, slot_elements}
use Rattle.grid.specs.Scaffold.{slot_numbers}
use Rattle.elements.specs.Elements.{used}
use Rattle.fill.specs.Fill.{laid}
use Rattle.fill.specs.Quick.{written_in}
use Rattle.fill.proofs.write_slot.Given as goal

abbrev pub invariant-loop-l : goal.invariant-loop-l
invariant-loop-l l =
    (length l.out ≡ slot_numbers) × (l.n ≡ l.c + count (used l.layout 0 subcarriers) (l.slot * slot_elements) (subcarriers * l.l))
    × (take (2 * (subcarriers * l.l)) l.out ≡ laid (written_in l.layout l.c l.bits l.four (l.slot * slot_elements)) (subcarriers * l.l))
