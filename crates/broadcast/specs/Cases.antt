-- Cases of 02 L9, on P7's cell of 01 with one port unless they name another.
use Rattle.std.specs.Prelude.{true, List, [], ◌∷◌, ◌≡◌, ℕ}
use Rattle.messages.specs.Messages.{are_listed}
use Rattle.cell.specs.declared.Cell.{Cell}
use Rattle.cell.specs.Judge.{numbers_refusal, judge_of}
use Rattle.cell.specs.Layout.{element_count_of}
use Rattle.cell.specs.Cases.{anchor_cell, in_band_cell}
use Rattle.sending.specs.declared.Back.{Back}
use Rattle.sending.specs.Sending.{ours, not_ours}
use Rattle.sending.specs.Answer.{back_of, refused_back}
use Rattle.downlink.specs.declared.DownlinkPlace.{DownlinkPlace}
use Rattle.downlink.specs.Mapping.{codeword_symbols}
use Rattle.downlink.specs.Answers.{refused_place}
use Rattle.broadcast.specs.Channels.{Channel, npbch_of, sib1_of}
use Rattle.broadcast.specs.Questions.{forward_of, backward_of}

abbrev pub one_anchor : Cell
one_anchor = anchor_cell 1

abbrev pub npbch_forward : List ℕ → List ℕ → ℕ → DownlinkPlace
npbch_forward anchor other p = forward_of one_anchor anchor other (npbch_of one_anchor.config) p

abbrev pub npbch_backward : List ℕ → List ℕ → ℕ → ℕ → ℕ → ℕ → Back
npbch_backward anchor other t slot l k = backward_of one_anchor anchor other (npbch_of one_anchor.config) t slot l k

abbrev pub sib1_forward : List ℕ → List ℕ → ℕ → DownlinkPlace
sib1_forward anchor other p = forward_of one_anchor anchor other (sib1_of one_anchor.config) p

-- mode 1, ports 2 and 2, control region 1
abbrev pub in_band_one : Cell
in_band_one = in_band_cell 1 0 2 2 1 0

-- neither buffer is read where a case leaves both free
pub record BroadcastCases : Type 0 where
  pub first : (anchor other : List ℕ)
      → npbch_forward anchor other 0 ≡ record { no = 0; t = 0; slot = 0; l = 3; k = 0; symbol = 0 }
  -- the second block begins in frame 8
  pub block : (anchor other : List ℕ)
      → npbch_forward anchor other 800 ≡ record { no = 0; t = 80; slot = 0; l = 3; k = 0; symbol = 100 }
  pub last : (anchor other : List ℕ)
      → npbch_forward anchor other 6399 ≡ record { no = 0; t = 630; slot = 1; l = 6; k = 11; symbol = 799 }
  pub past : (anchor other : List ℕ) → npbch_forward anchor other 6400 ≡ refused_place 14
  -- a cell reference, though the cell is standalone
  pub reference : (anchor other : List ℕ) → npbch_backward anchor other 0 0 0 0 ≡ back_of (not_ours 2)
  -- subframe 240 of its period
  pub far : (anchor other : List ℕ) → npbch_backward anchor other 18446744073709551600 0 3 1 ≡ back_of (ours 301 2401)
  pub again : (anchor other : List ℕ) (slot l k : ℕ)
      → npbch_backward anchor other 640 slot l k ≡ npbch_backward anchor other 0 slot l k
  -- SIB1: its second subframe; its second copy, 64 frames on
  pub second : (anchor other : List ℕ)
      → sib1_forward anchor other 160 ≡ record { no = 0; t = 24; slot = 0; l = 0; k = 0; symbol = 160 }
  pub copy : (anchor other : List ℕ)
      → sib1_forward anchor other 1280 ≡ record { no = 0; t = 644; slot = 0; l = 0; k = 0; symbol = 0 }
  pub past_sib1 : (anchor other : List ℕ) → sib1_forward anchor other 5120 ≡ refused_place 14
  -- 104 elements of a subframe of SIB1, 128 of a grant's
  pub symbols : codeword_symbols (sib1_of in_band_one.config).burst ≡ 832
  pub elements : (anchor other : List ℕ) → element_count_of in_band_one anchor other ≡ record { no = 0; e = 128 }
  -- of either channel: a non-anchor is refused last of the cell, and before any position or place
  pub eight : (c : Cell) (anchor : List ℕ) (channel : Channel) (p : ℕ) → numbers_refusal c.config ≡ 0
      → are_listed c.messages ≡ true
      → c.config.carrier ≡ 1 → c.config.bits ≡ 10 → forward_of c anchor (0 ∷ 0 ∷ []) channel p ≡ refused_place 8
  pub non_anchor : (c : Cell) (anchor other : List ℕ) (channel : Channel) (p : ℕ) → judge_of c anchor other ≡ 0
      → c.config.carrier ≡ 1
      → forward_of c anchor other channel p ≡ refused_place 25
  pub non_anchor_back : (c : Cell) (anchor other : List ℕ) (channel : Channel) (t slot l k : ℕ)
      → judge_of c anchor other ≡ 0
      → c.config.carrier ≡ 1 → backward_of c anchor other channel t slot l k ≡ refused_back 25
