use mathlib.Core.List.{List}
use mathlib.Core.Path.{◌≡◌}
use Prim.Native.Nat.{ℕ, ◌+◌, ◌-◌, ◌*◌, ◌≤◌, ◌<◌}
use lib.ListN.{length, get_or}
use Rattle.spans.specs.declared.Ends.{Ends}
use Rattle.search_space.specs.declared.Candidate.{Candidate}
use Rattle.search_space.specs.Candidates.{blank}
use Rattle.search_space.specs.Quick.{first_block, last_block, no_block}
use Rattle.search_space.proofs.listed.Given as goal

-- a candidate read off the blocks
abbrev pub made : List Ends → ℕ → ℕ → ℕ → Candidate
made b row size k = record {
  first = (get_or b (first_block row k) no_block).first;
  r = (last_block row k + 1 - first_block row k) * size;
  last = (get_or b (last_block row k) no_block).last;
}

abbrev pub invariant-loop-k : goal.invariant-loop-k
invariant-loop-k l =
    (length l.list ≡ 15) × ((i : ℕ) → i < l.k → get_or l.list i blank ≡ made l.b l.fn.x.row l.size i)
    × ((i : ℕ) → l.k ≤ i → i < 15 → get_or l.list i blank ≡ blank)
