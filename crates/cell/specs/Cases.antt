-- Cells that cases speak of, and the cases of 02 L7.
use Rattle.std.specs.Prelude.{List, ◌≡◌, ℕ, ◌≤◌}
use Rattle.messages.specs.Messages.{no_messages}
use Rattle.cell.specs.declared.Cell.{Cell}
use Rattle.cell.specs.Judge.{judge_of}

-- P7 to P9 of 01 and many of 02: standalone anchor, identity 0, schedule 0, no bitmap, no messages
abbrev pub anchor_cell : ℕ → Cell
anchor_cell nports = record {
  config = record { mode = 3; carrier = 0; identity = 0; nports = nports; cports = 0; control = 0; sib1 = 0; bits = 0 };
  messages = no_messages;
}

-- no bitmap, no messages
abbrev pub in_band_cell : ℕ → ℕ → ℕ → ℕ → ℕ → ℕ → Cell
in_band_cell mode carrier nports cports control sib1 = record {
  config = record {
    mode = mode;
    carrier = carrier;
    identity = 0;
    nports = nports;
    cports = cports;
    control = control;
    sib1 = sib1;
    bits = 0;
  };
  messages = no_messages;
}

-- 24 stands after 5 and before 6, on both carriers; mode 1 may have other ports
pub record SamePortsCases : Type 0 where
  pub four : (carrier : ℕ) (anchor other : List ℕ) → carrier ≤ 1
      → judge_of (in_band_cell 0 carrier 2 4 3 0) anchor other ≡ 24
  pub region : (carrier : ℕ) (anchor other : List ℕ) → carrier ≤ 1
      → judge_of (in_band_cell 0 carrier 2 4 4 0) anchor other ≡ 5
  pub one : (carrier : ℕ) (anchor other : List ℕ) → carrier ≤ 1
      → judge_of (in_band_cell 0 carrier 2 1 3 12) anchor other ≡ 24
  pub same : (carrier : ℕ) (anchor other : List ℕ) → carrier ≤ 1
      → judge_of (in_band_cell 0 carrier 2 2 3 12) anchor other ≡ 6
  pub another_mode : (carrier : ℕ) (anchor other : List ℕ) → carrier ≤ 1
      → judge_of (in_band_cell 1 carrier 2 4 3 0) anchor other ≡ 0
