-- For the code alone: what contracts of the code and proofs say to each other. No question and no promise cites it.
use Rattle.std.specs.Prelude.{ℕ}

-- of the seven l of a slot one is the reference symbol
abbrev pub data_symbols : ℕ
data_symbols = 6

-- an acknowledgement: 4 slots of one tone, and of the seven l of a slot three are reference symbols
abbrev pub ack_data_symbols : ℕ
ack_data_symbols = 4
