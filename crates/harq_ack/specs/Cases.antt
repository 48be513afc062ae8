-- Worked cases of 02 L1, as statements about the answers. Where n, field and copies are numbers
-- they are examples; what is left open is any number that is accepted, or refused later.
use Rattle.std.specs.Prelude.{List, [], ◌∷◌, map, ◌≡◌, ℕ, ◌+◌, ◌^◌, ◌≤◌, ◌<◌}
use Rattle.uplink.specs.declared.UplinkPlan.{UplinkPlan}
use Rattle.uplink.specs.Answers.{refused_plan}
use Rattle.nprach.specs.declared.Windows.{Windows}
use Rattle.nprach.specs.Windows.{none}
use Rattle.harq_ack.specs.declared.HarqAckGrant.{HarqAckGrant}
use Rattle.harq_ack.specs.Refusals.{last_npdsch_subframe}
use Rattle.harq_ack.specs.Questions.{plan_of, forward_of}

-- one copy, at 15 kHz and at 3.75 kHz
abbrev pub wide : ℕ → ℕ → HarqAckGrant
wide n field = record { n = n; spacing = 1; field = field; copies = 0 }

abbrev pub narrow : ℕ → ℕ → HarqAckGrant
narrow n field = record { n = n; spacing = 0; field = field; copies = 0 }

-- one copy from slot a to slot b: 4 slots of 4 symbols, one bit by BPSK
abbrev pub one_copy : ℕ → ℕ → UplinkPlan
one_copy a b = record { no = 0; first = a; last = b; copies = 1; places = 16; size = 1; order = 1 }

-- the l of the first places, and the tone of the first one
abbrev pub symbols_from : HarqAckGrant → List ℕ
symbols_from g = map (λ p. (forward_of g none p).l) (0 ∷ 1 ∷ 2 ∷ 3 ∷ 4 ∷ [])

abbrev pub tone_of_first : HarqAckGrant → ℕ
tone_of_first g = (forward_of g none 0).k

pub record AckCases : Type 0 where
  -- n = 100 and n = 101, field 0
  pub wide_even : plan_of (wide 100 0) none ≡ one_copy 226 229
  pub wide_odd : plan_of (wide 101 0) none ≡ one_copy 228 231
  pub narrow_even : plan_of (narrow 100 0) none ≡ one_copy 57 60
  pub narrow_odd : plan_of (narrow 101 0) none ≡ one_copy 57 60
  -- four symbols a slot carry data; tone and delay of the largest field
  pub wide_symbols : symbols_from (wide 100 15) ≡ 0 ∷ 1 ∷ 5 ∷ 6 ∷ 0 ∷ []
  pub narrow_symbols : symbols_from (narrow 100 15) ≡ 3 ∷ 4 ∷ 5 ∷ 6 ∷ 3 ∷ []
  pub wide_field : (plan_of (wide 100 15) none ≡ one_copy 236 239) × (tone_of_first (wide 100 15) ≡ 3)
  pub narrow_field : (plan_of (narrow 100 15) none ≡ one_copy 61 64) × (tone_of_first (narrow 100 15) ≡ 45)
  -- the last n at 15 kHz: slot numbers past 2^32
  pub latest : (copies : ℕ) → copies ≤ 7
      → (plan_of (record { n = last_npdsch_subframe; spacing = 1; field = 15; copies = copies }) none).first
      ≡ 2 ^ 32 + 34
  -- 128 copies are 512 slots: three gaps of 20 slots at 3.75 kHz, none at 15 kHz
  pub narrow_gaps : (g : HarqAckGrant) → g.n ≤ last_npdsch_subframe → g.field ≤ 15 → g.spacing ≡ 0 → g.copies ≡ 7
      → (plan_of g none).last ≡ (plan_of g none).first + 571
  pub wide_gaps : (g : HarqAckGrant) → g.n ≤ last_npdsch_subframe → g.field ≤ 15 → g.spacing ≡ 1 → g.copies ≡ 7
      → (plan_of g none).last ≡ (plan_of g none).first + 511
  -- an n past the last, and a field past 15: beside any windows
  pub late : (g : HarqAckGrant) (ws : Windows) → last_npdsch_subframe < g.n → plan_of g ws ≡ refused_plan 9
  pub large : (g : HarqAckGrant) (ws : Windows) → g.n ≤ last_npdsch_subframe → 15 < g.field
      → plan_of g ws ≡ refused_plan 10
