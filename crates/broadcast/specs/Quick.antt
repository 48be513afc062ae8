-- For the code alone. What the code works out of a position and of a subframe.
use Rattle.std.specs.Prelude.{Bool, true, false, cond, Option, MatchOption, ◌≡◌, ℕ}
use Rattle.std.specs.Prelude.{◌+◌, ◌*◌, ◌/◌, ◌%◌, ◌^◌, ◌≤◌, ◌<◌, eqb}
use Rattle.counting.specs.Counting.{rank}
use Rattle.sending.specs.CopyOrder.{carried}
use Rattle.sending.specs.Answer.{no_such_place}
use Rattle.elements.specs.Elements.{count_of, element_at}
use Rattle.downlink.specs.declared.Burst.{Burst}
use Rattle.downlink.specs.Mapping.{sent_subframes, places}
use Rattle.broadcast.specs.declared.Position.{Position}

abbrev pub width_of : Burst → ℕ
width_of b = count_of b.layout b.low b.width

-- where position p of burst b lies
pub record LiesAt (b : Burst) (p : ℕ) (r : Position) : Type 0 where
  pub held : p < places b
  pub i : r.i ≡ p / width_of b
  pub sent : r.i < sent_subframes b
  pub x : r.x ≡ element_at b.layout b.low b.width (p % width_of b)
  pub symbol : r.symbol ≡ carried b.consecutive 1 b.codeword (p / width_of b) * width_of b + p % width_of b

-- which of the subframes that pass u in a period of P subframe t is, counted from 0
abbrev pub IsIndex : (ℕ → Bool) → ℕ → ℕ → Option ℕ → Type 0
IsIndex u P t r =
    MatchOption r (u (t % P) ≡ false) (λ i. (u (t % P) ≡ true) × (i ≡ rank u (t % P)) × (i ≤ 2 ^ 20))

-- the question's refusal, then 14 for a place outside the grid
unfoldable pub place_refusal : ℕ → Bool → ℕ
place_refusal question inside = cond (eqb question 0) (cond inside 0 no_such_place) question
