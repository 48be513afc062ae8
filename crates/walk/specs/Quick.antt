-- For the code alone. How a step comes by its answer.
use Rattle.std.specs.Prelude.{Bool, cond, ◌&&◌, List, ℕ, eqb}
use Rattle.walk.specs.declared.Walk.{Walk}
use Rattle.walk.specs.declared.WalkPlace.{WalkPlace}
use Rattle.sending.specs.Answer.{no_such_place}
use Rattle.walk.specs.Step.{refused_step, finished_step, Asked, asked_of}

-- forward at the walk's position, in the columns of a step
abbrev pub walk_at : Walk → List ℕ → List ℕ → WalkPlace
walk_at w anchor other = (asked_of w anchor other).at w.p

-- p is the end of a grant that is planned with a number and its places
abbrev pub end_of : ℕ → ℕ → ℕ → Bool
end_of refusal places p = eqb refusal 0 && eqb p places

-- p is the end of an accepted grant
abbrev pub is_end : Asked → ℕ → Bool
is_end q p = end_of q.no q.places p

-- where forward refuses: at 14 plan tells the end, which is no refusal
unfoldable pub stopped_at : Asked → ℕ → ℕ → WalkPlace
stopped_at q p number =
    cond (eqb number no_such_place) (cond (is_end q p) finished_step (refused_step number)) (refused_step number)
