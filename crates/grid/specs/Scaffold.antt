-- For the code alone: what contracts of the code and proofs say to each other. No question and no promise cites it.
use Rattle.std.specs.Prelude.{ℕ, ◌*◌}
use Rattle.grid.specs.Grid.{slot_elements}

-- real and imaginary numbers of a slot
abbrev pub slot_numbers : ℕ
slot_numbers = 2 * slot_elements
