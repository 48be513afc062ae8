-- For the code alone: what contracts of the code and proofs say to each other. No question and no promise cites it.
use Rattle.std.specs.Prelude.{Bool, true, cond, List, [], ◌∷◌, ◌≡◌, refl, ℕ, ◌<◌}
use Rattle.counting.specs.Counting.{rank}
use Rattle.spans.specs.declared.Pattern.{Pattern}
use Rattle.spans.specs.Pattern.{allows, Regular}
use Rattle.messages.specs.declared.Messages.{Messages}
use Rattle.messages.specs.Messages.{all_periods, are_listed, remaining}
use Rattle.subframes.specs.Subframes.{messages_in}

abbrev pub numbers_of : Messages → List ℕ
numbers_of ms =
    ms.window ∷ ms.offset ∷ ms.count
    ∷ ms.s1.period ∷ ms.s1.every ∷ ms.s1.size ∷ ms.s2.period ∷ ms.s2.every ∷ ms.s2.size
    ∷ ms.s3.period ∷ ms.s3.every ∷ ms.s3.size ∷ ms.s4.period ∷ ms.s4.every ∷ ms.s4.size ∷ []

-- lent and read again they are the same
pub lent_again : (ms : Messages) → messages_in (numbers_of ms) ≡ ms
unfolding messages_in
lent_again ms = refl

unfoldable pub left_in : Pattern → Bool → Messages → ℕ → Bool
left_in p laid ms = cond laid (remaining ms (allows p)) (allows p)

-- what the search stands on: regular masks, and messages with listed numbers where they are laid
pub record Laid (p : Pattern) (laid : Bool) (ms : Messages) : Type 0 where
  pub regular : Regular p
  pub listed : laid ≡ true → are_listed ms ≡ true

-- and a subframe is left
pub record Searchable (p : Pattern) (laid : Bool) (ms : Messages) : Type 0 where
  pub on : Laid p laid ms
  pub some : 0 < rank (left_in p laid ms) all_periods
