-- For the code alone. What the quick code asks first.
use Rattle.std.specs.Prelude.{Bool, ◌&&◌, eqb, leb}
use Rattle.counting.specs.Listed.{is_one_of}
use Rattle.messages.specs.declared.Messages.{Messages}
use Rattle.messages.specs.Messages.{windows}

-- no schedule is counted, and the numbers that are judged always are listed: such messages change nothing
unfoldable pub is_silent : Messages → Bool
is_silent ms = eqb ms.count 0 && (leb ms.offset 15 && is_one_of windows ms.window)
