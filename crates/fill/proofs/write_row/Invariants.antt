use mathlib.Core.List.{◌++◌}
use mathlib.Core.Path.{◌≡◌}
use Prim.Native.Nat.{◌+◌, ◌*◌}
use lib.ListN.{length, take}
use Rattle.counting.specs.Counting.{rank}
use Rattle.grid.specs.Scaffold.{slot_numbers}
use Rattle.elements.specs.Quick.{has_in}
use Rattle.fill.specs.Fill.{laid}
use Rattle.fill.specs.Quick.{written_in_row}
use Rattle.fill.proofs.write_row.Given as goal

abbrev pub invariant-loop-k : goal.invariant-loop-k
invariant-loop-k l =
    (length l.out ≡ slot_numbers) × (l.n ≡ l.c + rank (has_in l.row) l.k)
    × (take (2 * (l.start + l.k)) l.out ≡ take (2 * l.start) l.initial.out ++ laid (written_in_row l.row l.c l.bits l.four) l.k)
