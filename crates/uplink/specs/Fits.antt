-- For the code alone. The bounds of a shape that the questions on it require, and what the windows must leave of it;
-- whoever makes shapes shows them.
use Rattle.std.specs.Prelude.{Bool, ◌≡◌, ℕ, ◌+◌, ◌*◌, ◌/◌, ◌%◌, ◌^◌, ◌≤◌, ◌<◌}
use Rattle.counting.specs.Counting.{rank}
use Rattle.grid.specs.Grid.{symbols}
use Rattle.uplink.specs.declared.Shape.{Shape}
use Rattle.uplink.specs.Timing.{gap_period, active, period}
use Rattle.uplink.specs.Scaffold.{gap_periods}

pub record Fits (s : Shape) : Type 0 where
  -- something is sent, and not only references
  pub block : 0 < s.block
  pub tones : 0 < s.tones
  pub codeword : 0 < s.codeword
  pub copies : 0 < s.copies
  pub consecutive : 0 < s.consecutive
  pub group : 0 < s.group
  pub references : s.references < symbols
  -- inside the grid
  pub within_symbols : s.reference + s.references ≤ symbols
  pub within_tones : s.tone + s.tones ≤ s.subcarriers
  -- whole passes of whole groups
  pub passes : s.copies % s.consecutive ≡ 0
  pub groups : s.codeword % s.group ≡ 0
  pub whole_first : s.first % s.group ≡ 0
  pub whole_block : s.block % s.group ≡ 0
  pub whole_gap : s.gap % s.group ≡ 0
  -- numbers whose sums and products fit a word
  pub first_small : s.first < 2 ^ 40
  pub block_small : s.block < 2 ^ 16
  pub gap_small : s.gap < 2 ^ 16
  pub subcarriers_small : s.subcarriers < 2 ^ 16
  pub codeword_small : s.codeword < 2 ^ 16
  pub copies_small : s.copies < 2 ^ 16
  pub consecutive_small : s.consecutive < 2 ^ 16
  pub group_small : s.group < 2 ^ 16

-- which groups are open repeats, and leaves something to send
pub record OpenRepeats (s : Shape) (is_open : ℕ → Bool) : Type 0 where
  pub again : (u : ℕ) → is_open (u + gap_periods * (gap_period s / s.group)) ≡ is_open u
  pub some : 0 < rank (active s is_open) (period s)
