-- For the code alone: what contracts of the code and proofs say to each other. No question and no promise cites it.
use Rattle.std.specs.Prelude.{Bool, true, ◌≡◌, ℕ, ◌+◌, ◌≤◌, ◌<◌}
use Rattle.counting.specs.Counting.{rank}
use Rattle.counting.specs.Bits.{bit_at}

-- t is the j-th that passes from f on: it passes, and j in [f, t) do
pub record Nth (u : ℕ → Bool) (f j t : ℕ) : Type 0 where
  pub late : f ≤ t
  pub passes : u t ≡ true
  pub before : rank u t ≡ rank u f + j

-- item lists, rising, the n numbers that pass the test, and place gives the place of each in the list
pub record Lists (n : ℕ) (item : ℕ → ℕ) (test : ℕ → Bool) (place : ℕ → ℕ) : Type 0 where
  pub passes : (i : ℕ) → i < n → test (item i) ≡ true
  pub placed : (i : ℕ) → i < n → place (item i) ≡ i
  pub below : (t : ℕ) → test t ≡ true → place t < n
  pub back : (t : ℕ) → test t ≡ true → item (place t) ≡ t
  pub rises : (i j : ℕ) → i < j → j < n → item i < item j

-- digit r of m is 1, and k of the digits below it are
pub record NthOne (m k r : ℕ) : Type 0 where
  pub set : bit_at m r ≡ true
  pub before : rank (bit_at m) r ≡ k
