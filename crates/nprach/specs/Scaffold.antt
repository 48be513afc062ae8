-- For the code alone: what contracts of the code and proofs say to each other. No question and no promise cites it.
use Rattle.std.specs.Prelude.{ℕ, ◌+◌, ◌*◌}
use Rattle.nprach.specs.declared.Window.{Window}
use Rattle.nprach.specs.Windows.{units_of_ms}

-- a window that began less than this before a group's end, in units, ends past the group's begin
abbrev pub reach : ℕ → Window → ℕ
reach ms w = w.length + units_of_ms * ms
