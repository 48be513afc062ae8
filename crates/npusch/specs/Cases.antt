-- Cases P2 to P6 of 01, as statements about the answers of grants with no random access window. What a case leaves
-- open is any accepted number; L4's cases are examples with every number fixed.
use Rattle.std.specs.Prelude.{List, [], ◌∷◌, ◌++◌, map, ◌≡◌, ℕ, zero, suc, ◌+◌, ◌*◌, ◌/◌, ◌≤◌}
use Rattle.uplink.specs.Elements.{slot_data}
use Rattle.uplink.specs.Mapping.{codeword_symbols}
use Rattle.uplink.specs.Answers.{refused_plan}
use Rattle.nprach.specs.declared.Window.{Window}
use Rattle.nprach.specs.declared.Windows.{Windows}
use Rattle.nprach.specs.Windows.{blank, none}
use Rattle.npusch.specs.declared.NpuschGrant.{NpuschGrant}
use Rattle.grid.specs.Grid.{last_subframe}
use Rattle.npusch.specs.Shaping.{shape_of}
use Rattle.npusch.specs.Questions.{plan_of, forward_of}

-- the grant is accepted, and sends from slot a to slot b
pub record Sends (g : NpuschGrant) (ws : Windows) (a b : ℕ) : Type 0 where
  pub no : (plan_of g ws).no ≡ 0
  pub first : (plan_of g ws).first ≡ a
  pub last : (plan_of g ws).last ≡ b

-- 0 to n - 1
abbrev pub up_to : ℕ → List ℕ
up_to zero = []
up_to (suc n) = up_to n ++ (n ∷ [])

-- the codeword slots that the first n transmitted slots carry, read off their first places
abbrev pub carried_slots : NpuschGrant → ℕ → List ℕ
carried_slots g n =
    map (λ i. (forward_of g none (i * slot_data (shape_of g))).symbol / slot_data (shape_of g)) (up_to n)

-- the first half of P5
abbrev pub first_pass : List ℕ
first_pass = 0 ∷ 1 ∷ 0 ∷ 1 ∷ 2 ∷ 3 ∷ 2 ∷ 3 ∷ 4 ∷ 5 ∷ 4 ∷ 5 ∷ 6 ∷ 7 ∷ 6 ∷ 7 ∷ []

-- P2: all twelve tones at 15 kHz, one resource unit in 8 copies
abbrev pub twelve_tones : ℕ → NpuschGrant
twelve_tones mcs = record { n = 100; spacing = 1; subcarrier = 18; units = 0; copies = 3; delay = 0; mcs = mcs }

-- P3: the last tone at 3.75 kHz
abbrev pub last_tone : ℕ → ℕ → NpuschGrant
last_tone n mcs = record { n = n; spacing = 0; subcarrier = 47; units = 0; copies = 0; delay = 0; mcs = mcs }

-- P5: three tones at 15 kHz, one resource unit in 4 copies
abbrev pub three_tones : ℕ → ℕ → ℕ → NpuschGrant
three_tones n delay mcs =
    record { n = n; spacing = 1; subcarrier = 12; units = 0; copies = 2; delay = delay; mcs = mcs }

-- P4 and P6 leave most fields free: they are in range
pub record FreeInRange (g : NpuschGrant) : Type 0 where
  pub n : g.n ≤ last_subframe
  pub units : g.units ≤ 7
  pub copies : g.copies ≤ 7
  pub delay : g.delay ≤ 3

pub record UplinkCases : Type 0 where
  pub p2 : (mcs : ℕ) → mcs ≤ 4
      → Sends (twelve_tones mcs) none 218 233 × ((plan_of (twelve_tones mcs) none).places ≡ 1152)
      × (codeword_symbols (shape_of (twelve_tones mcs)) ≡ 144)
  pub p3 : (mcs : ℕ) → mcs ≤ 4 → Sends (last_tone 100 mcs) none 55 70 × Sends (last_tone 101 mcs) none 55 70
  -- beside any windows
  pub p4_narrow : (g : NpuschGrant) (ws : Windows) → FreeInRange g → g.mcs ≤ 15 → g.spacing ≡ 0 → g.subcarrier ≡ 48
      → plan_of g ws ≡ refused_plan 11
  pub p4_wide : (g : NpuschGrant) (ws : Windows) → FreeInRange g → g.mcs ≤ 15 → g.spacing ≡ 1 → g.subcarrier ≡ 19
      → plan_of g ws ≡ refused_plan 11
  pub p5 : (n delay mcs : ℕ) → n ≤ last_subframe → delay ≤ 3 → mcs ≤ 4
      → carried_slots (three_tones n delay mcs) 32 ≡ first_pass ++ first_pass
  -- 8 copies, and 16
  pub p6_8 : (g : NpuschGrant) → FreeInRange g → g.mcs ≤ 4 → g.subcarrier ≤ 47 → g.spacing ≡ 0 → g.units ≡ 0
      → g.copies ≡ 3
      → (plan_of g none).last ≡ (plan_of g none).first + 127
  pub p6_16 : (g : NpuschGrant) → FreeInRange g → g.mcs ≤ 4 → g.subcarrier ≤ 47 → g.spacing ≡ 0 → g.units ≡ 0
      → g.copies ≡ 4
      → (plan_of g none).last ≡ (plan_of g none).first + 275

-- ---- 02 L4

abbrev pub one_window : Window → Windows
one_window w = record { count = 1; w1 = w; w2 = blank; w3 = blank; w4 = blank }

-- on tones 0 to 11, from 8 ms on in each 40, for so many units of 1/30720 ms
abbrev pub lasting : ℕ → Windows
lasting length = one_window (record { period = 40; start = 8; length = length; tone = 0 })

-- 409.6 ms from 512 ms on in each 640
abbrev pub long : Windows
long = one_window (record { period = 640; start = 512; length = 12582912; tone = 0 })

-- n = 100, one tone at 3.75 kHz, one resource unit in 16 copies
abbrev pub one_tone : ℕ → NpuschGrant
one_tone tone = record { n = 100; spacing = 0; subcarrier = tone; units = 0; copies = 4; delay = 0; mcs = 0 }

-- at 15 kHz, one copy of one resource unit
abbrev pub one_copy : ℕ → ℕ → NpuschGrant
one_copy n subcarrier =
    record { n = n; spacing = 1; subcarrier = subcarrier; units = 0; copies = 0; delay = 0; mcs = 0 }

pub record WindowCases : Type 0 where
  -- 5.6 ms of each 40: 3 of 20 groups are closed at 3.75 kHz, and the 256 ms go on meanwhile
  pub postponed : Sends (one_tone 0) (lasting 172032) 55 395
  -- on another tone nothing is
  pub elsewhere : Sends (one_tone 12) (lasting 172032) 55 330
  -- 409.6 ms from 512 ms on: the first subframe that is sent is 922, not 520
  pub inside : (plan_of (one_copy 511 18) long).first ≡ 2 * 922
  -- the same window in period 640 begins at -128 too, and closes subframes 0 to 281
  pub below : (plan_of (one_copy 100 0) long).first ≡ 2 * 282
  -- 44.8 ms in each 40 leave nothing
  pub never : plan_of (one_tone 0) (lasting 1376256) ≡ refused_plan 20
  -- 128 repetitions, and a period of 240, are not listed
  pub unlisted_length : plan_of (one_tone 0) (lasting 22020096) ≡ refused_plan 19
  pub unlisted_period : plan_of (one_tone 0)
      (one_window (record { period = 240; start = 8; length = 172032; tone = 0 })) ≡ refused_plan 19
