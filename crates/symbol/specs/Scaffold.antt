-- For the code alone: what contracts of the code and proofs say to each other. No question and no promise cites it.
use Rattle.std.specs.Prelude.{◌≡◌, List, ℕ, ◌*◌, ◌<◌, length, Bool, Float}
use Rattle.symbol.specs.declared.Outgoing.{Outgoing}
use Rattle.symbol.specs.declared.Outgoing.TheVariants.{Ours}
use Rattle.symbol.specs.declared.Symbol.{Symbol}
use Rattle.symbol.specs.Symbol.{size_of, signed}

-- a symbol that goes out has its bits
pub record Within (bits : List ℕ) (o : Outgoing) : Type 0 where
  pub has : (c : ℕ) → o ≡ Ours c → c < 4 * length bits

-- a symbol from two bits and the level
abbrev pub qpsk_of : Bool → Bool → Float → Symbol
qpsk_of first second level = record { re = signed first (size_of level); im = signed second (size_of level) }
