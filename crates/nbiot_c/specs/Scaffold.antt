-- For the code alone: what contracts of the code and proofs say to each other. No question and no promise cites it.
use Rattle.std.specs.Prelude.{cond, List, ℕ, eqb, take, get_or}

-- the part that an answer names
abbrev pub part_named : List ℕ → List ℕ → List ℕ → List ℕ
part_named numbers anchor other = take (get_or numbers 2 0) (cond (eqb (get_or numbers 1 0) 0) anchor other)
