-- What plan, forward and backward answer of a grant on either link, on any numbers: 01 "Questions". Each kind of
-- grant says which question it is; a link says how a refusal, the ends and a spot are shown.
use Rattle.std.specs.Prelude.{Bool, cond, ℕ, ◌-◌, eqb, ltb}
use Rattle.sending.specs.declared.Back.{Back}
use Rattle.sending.specs.Sending.{Sending, places_of, Spot, spot_at, Content, ours, not_ours, content_at}

-- the number of the first refusal that applies, or 0, and what is sent where it is 0
pub record Question : Type 0 where
  pub no : ℕ
  pub sending : Sending

-- a refused question has its number and zeros
unfoldable pub answer_of : {A : Type 0} → (ℕ → A) → ℕ → A → A
answer_of zeros number answer = cond (eqb number 0) answer (zeros number)

-- 14: a position or transmitted unit past the end, or a place outside the grid
abbrev pub no_such_place : ℕ
no_such_place = 14

-- ---- plan: the first and the last time, the copies and the places

pub record Extent : Type 0 where
  pub first : ℕ
  pub last : ℕ
  pub copies : ℕ
  pub places : ℕ

abbrev pub extent_of : Sending → Extent
extent_of S = record { first = S.time 0; last = S.time (S.K - 1); copies = S.copies; places = places_of S }

abbrev pub plan_by : {A : Type 0} → (ℕ → A) → (Extent → A) → Question → A
plan_by zeros shown q = answer_of zeros q.no (shown (extent_of q.sending))

-- ---- forward: the place of a position; 14 past the last

unfoldable pub place_at : {A : Type 0} → (ℕ → A) → (Spot → A) → Sending → ℕ → A
place_at zeros shown S p = cond (ltb p (places_of S)) (shown (spot_at S p)) (zeros no_such_place)

abbrev pub forward_by : {A : Type 0} → (ℕ → A) → (Spot → A) → Question → ℕ → A
forward_by zeros shown q p = answer_of zeros q.no (place_at zeros shown q.sending p)

-- ---- backward: ours with symbol and position, or not ours with a kind; 14 outside the grid

abbrev pub back_of : Content → Back
back_of (ours s p) = record { no = 0; ours = 1; symbol = s; position = p; kind = 0 }
back_of (not_ours k) = record { no = 0; ours = 0; symbol = 0; position = 0; kind = k }

abbrev pub refused_back : ℕ → Back
refused_back refusal = record { no = refusal; ours = 0; symbol = 0; position = 0; kind = 0 }

unfoldable pub back_at : Sending → Bool → ℕ → ℕ → Back
back_at S inside t x = cond inside (back_of (content_at S t x)) (refused_back no_such_place)

abbrev pub backward_by : Question → Bool → ℕ → ℕ → Back
backward_by q inside t x = answer_of refused_back q.no (back_at q.sending inside t x)
