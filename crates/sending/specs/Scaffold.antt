-- For the code alone: what contracts of the code and proofs say to each other. No question and no promise cites it.
use Rattle.std.specs.Prelude.{◌≡◌, ℕ, ◌%◌, ◌^◌, ◌<◌}

-- what the order needs: units in whole groups, and numbers whose products fit a word
pub record Grouped (m g N : ℕ) : Type 0 where
  pub consecutive : 0 < m
  pub group : 0 < g
  pub units : 0 < N
  pub whole : N % g ≡ 0
  pub consecutive_small : m < 2 ^ 16
  pub group_small : g < 2 ^ 16
  pub units_small : N < 2 ^ 16
