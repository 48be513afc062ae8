-- What the anchor broadcasts by itself, NPBCH and SIB1: 02 L9. Each is a burst in the subframes that TS 36.213 clause
-- 16.4 keeps from grants for it, and repeats after its period.
use Rattle.std.specs.Prelude.{Bool, cond, ℕ, ◌+◌, ◌*◌, ◌/◌, ◌%◌}
use Rattle.grid.specs.Grid.{subcarriers}
use Rattle.sync.specs.Sync.{npbch, sib1_copies, sib1_first, sib1}
use Rattle.cell.specs.declared.CellConfig.{CellConfig}
use Rattle.cell.specs.Judge.{in_band}
use Rattle.elements.specs.declared.Layout.{Layout}
use Rattle.downlink.specs.declared.Burst.{Burst}

-- which subframes are the channel's, after how many they repeat, and what is sent in those of one period
pub record Channel : Type 0 where
  pub is_own : ℕ → Bool
  pub period : ℕ
  pub burst : Burst

-- eight codeword subframes on all subcarriers, from subframe 0 on
abbrev pub eight_on : Layout → ℕ → ℕ → Burst
eight_on layout copies consecutive = record {
  layout = layout;
  low = 0;
  width = subcarriers;
  from = 0;
  skip = 0;
  codeword = 8;
  copies = copies;
  consecutive = consecutive;
}

-- TS 36.211 clause 10.2.4.4: as if there were two narrowband ports, four cell ports and a control region of three
-- symbols, in all modes
abbrev pub npbch_layout : CellConfig → Layout
npbch_layout c = record { v = c.identity % 6; nports = 2; cports = 4; control = 3 }

-- 64 frames; each codeword subframe, a block of symbols, goes out in eight frames in a row (clause 10.2.4.4)
abbrev pub npbch_of : CellConfig → Channel
npbch_of c = record { is_own = npbch; period = 640; burst = eight_on (npbch_layout c) 8 8 }

-- TS 36.213 clause 16.4.1.4: the cell's ports, and a control region of three symbols in-band, of none else
abbrev pub sib1_layout : CellConfig → Layout
sib1_layout c = record { v = c.identity % 6; nports = c.nports; cports = c.cports; control = cond (in_band c) 3 0 }

-- 256 frames; the eight codeword subframes in sequence in the eight frames of each copy (TS 36.211 clause 10.2.3.4)
abbrev pub sib1_of : CellConfig → Channel
sib1_of c = record {
  is_own = sib1 c.identity c.sib1;
  period = 2560;
  burst = eight_on (sib1_layout c) (sib1_copies c.sib1) 1;
}

-- the frame of its i-th subframe: a copy begins every 256 div C frames from the first on, and takes every other frame
-- (TS 36.213 clause 16.4.1.3). No answer reads this; a promise says that forward goes there.
abbrev pub sib1_frame : ℕ → ℕ → ℕ → ℕ
sib1_frame identity schedule i = sib1_first identity schedule + 256 / sib1_copies schedule * (i / 8) + 2 * (i % 8)
