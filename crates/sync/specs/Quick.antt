-- For the code alone. What the quick code chooses: the anchor's masks.
use Rattle.std.specs.Prelude.{cond, ◌&&◌, ℕ, ◌*◌, ◌%◌, eqb}
use Rattle.spans.specs.declared.Pattern.{Pattern}
use Rattle.sync.specs.Sync.{by_schedule}

-- the pattern of an anchor whose bitmap allows all: no NPBCH, NPSS and NSSS, and in four spans no SIB1, in the even
-- or in the odd frames
unfoldable pub anchor_pattern : ℕ → ℕ → Pattern
anchor_pattern identity schedule = record {
  log = by_schedule (schedule % 3) 4 3 2;
  first = by_schedule (schedule % 3) (4 * (identity % 4)) (4 * (identity % 2)) 0;
  usual = 0x7b_9ef7_b9ef;
  sib1 = cond (eqb (schedule % 3) 2 && eqb (identity % 2) 1) 0x7b_9cf7_b9cf 0x73_9ef7_39ef;
}
