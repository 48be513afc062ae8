-- What is promised of NPBCH and of SIB1 on every accepted anchor: DEMAND 3 in one period, 02 L9.
use Rattle.std.specs.Prelude.{List, ◌≡◌, ℕ, ◌+◌, ◌*◌, ◌/◌, ◌%◌, ◌<◌}
use Rattle.counting.specs.Counting.{rank}
use Rattle.grid.specs.Grid.{elements}
use Rattle.sync.specs.Sync.{npbch, sib1_copies, sib1}
use Rattle.cell.specs.declared.Cell.{Cell}
use Rattle.cell.specs.declared.Cause.{Cause}
use Rattle.cell.specs.declared.Cause.TheVariants.{Npbch, Sib1}
use Rattle.cell.specs.Bitmap.{bitmap_of}
use Rattle.cell.specs.Usable.{why}
use Rattle.cell.specs.Judge.{judge_of}
use Rattle.elements.specs.Elements.{eligible}
use Rattle.sending.specs.Sending.{ours}
use Rattle.sending.specs.Answer.{back_of}
use Rattle.downlink.specs.Mapping.{sending_of, places}
use Rattle.broadcast.specs.Channels.{Channel, npbch_of, sib1_layout, sib1_of, sib1_frame}
use Rattle.broadcast.specs.Questions.{forward_of, backward_of}
use Rattle.promises.specs.Demand.{Answers, Grid, Granted, Demand}
use Rattle.promises.specs.Grids.{SubframePlace, downlink_grid, downlink_columns}

-- the places of the P subframes from 0 on
abbrev pub period_grid : ℕ → Grid SubframePlace
period_grid P = record {
  at = downlink_grid.at;
  Inside = λ x. (x.t < P) × downlink_grid.Inside x;
  Before = downlink_grid.Before;
  zeros = downlink_grid.zeros;
}

-- no plan is asked: the places are all elements of all subframes that are sent
abbrev pub channel_answers : Cell → List ℕ → List ℕ → Channel → Answers SubframePlace
channel_answers c anchor other channel = record {
  places = places channel.burst;
  forward = λ p. downlink_columns (forward_of c anchor other channel p);
  backward = λ x. backward_of c anchor other channel x.t x.slot x.l x.k;
}

-- a channel that repeats after P subframes, in those of one cause
pub record ChannelDemand (c : Cell) (bitmap : List ℕ) (P : ℕ) (cause : Cause) (g : Granted)
    (a : Answers SubframePlace) : Type 0 where
  -- 1. to 4., in one period
  pub demand : Demand (period_grid P) g a
  -- At any subframe backward answers as at the one of that period.
  pub again : (x : SubframePlace)
      → a.backward x ≡ a.backward (record { t = x.t % P; slot = x.slot; l = x.l; k = x.k })
  -- The channel is the cause that its subframes are not usable, in every period; so no grant has a place there.
  pub apart : (x : SubframePlace) (s p : ℕ) → a.backward x ≡ back_of (ours s p) → why c bitmap x.t ≡ cause
  pub caused : (p : ℕ) → p < a.places → why c bitmap (a.forward p).place.t ≡ cause

-- a place of a channel, by its position: the subframe, and the symbol there
pub record Placed (c : Cell) (anchor other : List ℕ) (channel : Channel) (p t symbol : ℕ) : Type 0 where
  pub there : (forward_of c anchor other channel p).t ≡ t
  pub carries : (forward_of c anchor other channel p).symbol ≡ symbol

-- 800 symbols, each eight times
abbrev pub npbch_granted : Cell → Granted
npbch_granted c = record { copies = 8; symbols = 800; sending = sending_of npbch 640 (npbch_of c.config).burst }

-- E of a subframe of SIB1
abbrev pub sib1_count : Cell → ℕ
sib1_count c = rank (eligible (sib1_layout c.config)) elements

-- eight subframes of symbols, each once in a copy
abbrev pub sib1_granted : Cell → Granted
sib1_granted c = record {
  copies = sib1_copies c.config.sib1;
  symbols = 8 * sib1_count c;
  sending = sending_of (sib1 c.config.identity c.config.sib1) 2560 (sib1_of c.config).burst;
}

pub record BroadcastPromises : Type 0 where
  pub npbch : (c : Cell) (anchor other : List ℕ) → judge_of c anchor other ≡ 0 → c.config.carrier ≡ 0
      → ChannelDemand c (bitmap_of c anchor other) 640 Npbch (npbch_granted c)
      (channel_answers c anchor other (npbch_of c.config))
  pub sib1 : (c : Cell) (anchor other : List ℕ) → judge_of c anchor other ≡ 0 → c.config.carrier ≡ 0
      → ChannelDemand c (bitmap_of c anchor other) 2560 Sib1 (sib1_granted c)
      (channel_answers c anchor other (sib1_of c.config))
  -- 02's own words: block b of 100 symbols goes out in frames 8b to 8b + 7
  pub blocks : (c : Cell) (anchor other : List ℕ) → judge_of c anchor other ≡ 0 → c.config.carrier ≡ 0 → (p : ℕ)
      → p < 6400
      → Placed c anchor other (npbch_of c.config) p (10 * (p / 100)) (100 * (p / 800) + p % 100)
  -- and the eight codeword subframes of SIB1 in sequence in the eight frames of each copy
  pub in_sequence : (c : Cell) (anchor other : List ℕ) → judge_of c anchor other ≡ 0 → c.config.carrier ≡ 0 → (p : ℕ)
      → p < sib1_copies c.config.sib1 * 8 * sib1_count c
      → Placed c anchor other (sib1_of c.config) p
      (10 * sib1_frame c.config.identity c.config.sib1 (p / sib1_count c) + 4)
      (p / sib1_count c % 8 * sib1_count c + p % sib1_count c)
