use mathlib.Core.Path.{◌≡◌}
use Prim.Native.Nat.{ℕ, ◌<◌}
use lib.ListN.{length, get_or}
use Rattle.counting.specs.Counting.{select}
use Rattle.spans.specs.Pattern.{allows, period_of}
use Rattle.search_space.specs.Quick.{no_block, block_of}
use Rattle.search_space.proofs.blocks_alone.Given as goal

abbrev pub invariant-loop-i : goal.invariant-loop-i
invariant-loop-i l =
    (length l.list ≡ 8)
    × ((j : ℕ) → j < l.i → get_or l.list j no_block ≡ block_of (select (allows l.counted.pattern) (period_of l.counted.pattern) l.start) l.size j)
