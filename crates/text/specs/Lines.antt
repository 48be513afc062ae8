-- For the code alone. Places and parts of a text.
use Rattle.std.specs.Prelude.{◌≡◌, ◌≢◌, List, ◌∷◌, ◌++◌, ℕ, ◌<◌, length, slice_index, EachIndex, Contains}

-- no such byte stands in the text
abbrev pub IsAbsent : ℕ → List ℕ → Type 0
IsAbsent byte s = EachIndex s (λ k. slice_index s k ≢ byte)

-- such a byte stands at a place of the text, and at none before it
abbrev pub IsFirst : ℕ → List ℕ → ℕ → Type 0
IsFirst byte s at = (at < length s) × (slice_index s at ≡ byte) × ((k : ℕ) → k < at → slice_index s k ≢ byte)

-- the text is the two parts with the byte between them, and the first part has no such byte
abbrev pub IsCut : ℕ → List ℕ → List ℕ → List ℕ → Type 0
IsCut byte s front back = (s ≡ front ++ byte ∷ back) × (Contains front byte → ⊥)
