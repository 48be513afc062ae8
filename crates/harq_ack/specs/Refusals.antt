-- When an acknowledgement is refused, and with which number: 02 L1, L4. Each test is asked where those before it
-- passed.
use Rattle.std.specs.Prelude.{Bool, cond, ◌||◌, ℕ, ◌-◌, ◌^◌, eqb, ltb}
use Rattle.nprach.specs.declared.Windows.{Windows}
use Rattle.nprach.specs.Windows.{refusal_on}
use Rattle.harq_ack.specs.declared.HarqAckGrant.{HarqAckGrant}
use Rattle.harq_ack.specs.Fields.{tone_of}

-- the last subframe in which the NPDSCH may end
abbrev pub last_npdsch_subframe : ℕ
last_npdsch_subframe = 2 ^ 31 - 1

-- a field is above its largest number
abbrev pub above_largest : HarqAckGrant → Bool
above_largest g = ltb 1 g.spacing || (ltb 15 g.field || ltb 7 g.copies)

-- the random access windows' refusal on the grant's tone, 19 or 20, or 0
abbrev pub windows_number : HarqAckGrant → Windows → ℕ
windows_number g ws = refusal_on g.spacing (tone_of g.spacing g.field) 1 ws

-- the number of the fields, or 0
unfoldable pub fields_refusal : HarqAckGrant → ℕ
fields_refusal g = cond (ltb last_npdsch_subframe g.n) 9 (cond (above_largest g) 10 0)

-- the number, or 0: the windows' after those of the fields
unfoldable pub refusal : HarqAckGrant → Windows → ℕ
refusal g ws = cond (eqb (fields_refusal g) 0) (windows_number g ws) (fields_refusal g)
