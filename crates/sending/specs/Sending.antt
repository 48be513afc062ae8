-- What every grant is, on either link: units that go out at rising times, each with the same elements in a fixed order.
use Rattle.std.specs.Prelude.{Bool, cond, ◌&&◌, ℕ, ◌+◌, ◌*◌, ◌/◌, ◌%◌}

-- K units are sent, the i-th at time i, and it carries codeword unit carry i, each `copies` times; a unit has W
-- elements, the e-th at elem e. sent and index, used and number go back from a time and from an element; kind is what
-- stands at an element that is not ours.
pub record Sending : Type 0 where
  pub K : ℕ
  pub W : ℕ
  pub time : ℕ → ℕ
  pub sent : ℕ → Bool
  pub index : ℕ → ℕ
  pub elem : ℕ → ℕ
  pub used : ℕ → Bool
  pub number : ℕ → ℕ
  pub carry : ℕ → ℕ
  pub kind : ℕ → ℕ → ℕ
  pub copies : ℕ

-- each unit has every element
abbrev pub places_of : Sending → ℕ
places_of S = S.K * S.W

-- where a position is, and the codeword symbol there
pub record Spot : Type 0 where
  pub time : ℕ
  pub element : ℕ
  pub symbol : ℕ

-- positions count in time order, then element order; symbols along the elements of the codeword's units
abbrev pub spot_at : Sending → ℕ → Spot
spot_at S p = record {
  time = S.time (p / S.W);
  element = S.elem (p % S.W);
  symbol = S.carry (p / S.W) * S.W + p % S.W;
}

-- what stands at an element of a time: our symbol, at a position; or nothing of ours, with its kind
pub data Content : Type 0 where
  ours : ℕ → ℕ → Content
  not_ours : ℕ → Content

abbrev pub content_at : Sending → ℕ → ℕ → Content
content_at S t x =
    cond (S.sent t && S.used x)
    (ours (S.carry (S.index t) * S.W + S.number x) (S.index t * S.W + S.number x))
    (not_ours (S.kind t x))
