-- The search by four digits: `left` ones are still to be passed from digit 4 * i on.
use Prim.Native.Nat.{◌+◌, ◌*◌, ◌/◌, ◌^◌}
use mathlib.Core.Path.{◌≡◌}
use Rattle.counting.specs.Counting.{rank}
use Rattle.counting.specs.Bits.{bit_at}
use Rattle.counting.proofs.nth_one.Given as goal

abbrev pub invariant-loop-i : goal.invariant-loop-i
invariant-loop-i l = (l.rest ≡ l.m / 2 ^ (4 * l.i)) × (rank (bit_at l.m) (4 * l.i) + l.left ≡ l.k)
