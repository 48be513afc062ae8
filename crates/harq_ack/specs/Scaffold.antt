-- For the code alone: what contracts of the code and proofs say to each other. No question and no promise cites it.
use Rattle.std.specs.Prelude.{ℕ, ◌+◌, ◌-◌}
use Rattle.numerology.specs.Numerology.{first_after}
use Rattle.harq_ack.specs.declared.HarqAckGrant.{HarqAckGrant}
use Rattle.harq_ack.specs.Fields.{delay_of}

-- the first slot that begins after the end of subframe n + delay - 1 (TS 36.213 clause 16.4.2)
abbrev pub start_of : HarqAckGrant → ℕ
start_of g = first_after g.spacing (g.n + delay_of g.spacing g.field - 1)

-- one resource unit, of one tone and 4 slots (TS 36.211 table 10.1.2.3-1)
abbrev pub unit_slots : ℕ
unit_slots = 4

-- how many reference symbols a slot has
abbrev pub references : ℕ
references = 3

-- the transport block's size, one bit (TS 36.211 table 10.1.3.2-1)
abbrev pub grant_size : ℕ
grant_size = 1

-- the modulation order, BPSK
abbrev pub grant_order : ℕ
grant_order = 1
