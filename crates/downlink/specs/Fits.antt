-- For the code alone. The bounds that the questions on a burst require; whoever makes bursts shows them.
use Rattle.std.specs.Prelude.{◌≡◌, ◌%◌, ◌^◌, ◌≤◌, ◌<◌}
use Rattle.elements.specs.Scaffold.{Valid, Part}
use Rattle.downlink.specs.declared.Burst.{Burst}

pub record Fits (b : Burst) : Type 0 where
  pub layout : Valid b.layout
  pub part : Part b.low b.width
  -- something is sent, in whole passes
  pub codeword : 0 < b.codeword
  pub copies : 0 < b.copies
  pub consecutive : 0 < b.consecutive
  pub passes : b.copies % b.consecutive ≡ 0
  -- numbers whose sums and products fit a word
  pub from_small : b.from < 2 ^ 31
  pub skip_small : b.skip ≤ 2 ^ 16
  pub codeword_small : b.codeword ≤ 2 ^ 8
  pub copies_small : b.copies ≤ 2 ^ 12
  pub consecutive_small : b.consecutive < 2 ^ 16
