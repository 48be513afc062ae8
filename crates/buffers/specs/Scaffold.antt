-- For the code alone: what contracts of the code and proofs say to each other. No question and no promise cites it.
use Rattle.std.specs.Prelude.{Bool, cond, List, ℕ, eqb}
use Rattle.walk.specs.declared.WalkPlace.{WalkPlace}
use Rattle.walk.specs.Step.{refused_step, finished_step, Moved, onward, unmoved}
use Rattle.buffers.specs.Buffers.{put_step}

-- a step that is moved, put
abbrev pub put_moved : Moved → List ℕ → List ℕ → ℕ × List ℕ × List ℕ
put_moved m = put_step m.p m.answer

-- p moves on where forward answers; at the end the walk is finished; else forward's refusal
abbrev pub moved_by : Bool → WalkPlace → ℕ → Moved
moved_by end a p = cond (eqb a.no 0) (onward a p) (unmoved (cond end finished_step (refused_step a.no)) p)
