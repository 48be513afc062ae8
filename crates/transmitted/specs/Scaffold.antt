-- For the code alone: what contracts of the code and proofs say to each other. No question and no promise cites it.
use Rattle.std.specs.Prelude.{List, ℕ}
use Rattle.cell.specs.declared.Cell.{Cell}
use Rattle.sending.specs.Sending.{Sending}
use Rattle.npdsch.specs.declared.NpdschGrant.{NpdschGrant}
use Rattle.npdsch.specs.Questions.{question_of}

-- what is sent, as backward reads it
abbrev pub sending_for : Cell → List ℕ → List ℕ → NpdschGrant → Sending
sending_for c anchor non_anchor g = (question_of c anchor non_anchor g).sending
