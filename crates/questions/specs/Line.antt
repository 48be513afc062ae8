-- For the code alone. What a reading of a line answers.
use Rattle.std.specs.Prelude.{Bool, true, false}
use Rattle.questions.specs.declared.reading.Line.{Line}
use Rattle.questions.specs.declared.reading.Line.TheVariants.{Nothing, Wrong, Help, Asked}

-- a question was read
abbrev pub asks : Line → Bool
asks (Asked q) = true
asks (Help w) = false
asks (Wrong f w) = false
asks Nothing = false
