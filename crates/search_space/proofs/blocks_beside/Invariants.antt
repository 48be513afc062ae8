use mathlib.Core.Bool.{Bool}
use mathlib.Core.Path.{◌≡◌}
use Prim.Native.Nat.{ℕ, ◌+◌, ◌*◌, ◌^◌, ◌≤◌, ◌<◌}
use lib.ListN.{length, get_or}
use Rattle.counting.specs.Counting.{select}
use Rattle.spans.specs.Pattern.{allows}
use Rattle.messages.specs.Messages.{all_periods, remaining}
use Rattle.search_space.specs.Quick.{no_block, block_of}
use Rattle.search_space.proofs.blocks_beside.Given as goal

-- the search is at block i: what follows `skip` after `from` is what follows i blocks after the start
abbrev pub Stands : (ℕ → Bool) → ℕ → ℕ → ℕ → ℕ → ℕ → Type 0
Stands u start size i from skip = (k : ℕ) → select u all_periods from (skip + k) ≡ select u all_periods start (i * size + k)

abbrev pub invariant-loop-i : goal.invariant-loop-i
invariant-loop-i l =
    (length l.list ≡ 8)
    × ((k : ℕ) → k < l.i → get_or l.list k no_block ≡ block_of (select (remaining l.ms (allows l.p)) all_periods l.start) l.size k)
    × ((l.from < 2 ^ 31) × (l.skip ≤ 1)) × Stands (remaining l.ms (allows l.p)) l.start l.size l.i l.from l.skip
