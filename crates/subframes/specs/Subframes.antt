-- Which subframes are searched: those that a pattern allows, and of them, where messages are laid, those that remain.
use Rattle.std.specs.Prelude.{cond, List, ℕ, ◌+◌, ltb, length, get_or}
use Rattle.messages.specs.declared.Schedule.{Schedule}
use Rattle.messages.specs.declared.Messages.{Messages}
use Rattle.messages.specs.Messages.{no_messages}

-- ---- messages as lent numbers: window, offset, count and four schedules, 15 numbers; fewer name none

abbrev pub schedule_at : List ℕ → ℕ → Schedule
schedule_at s i = record { period = get_or s i 0; every = get_or s (i + 1) 0; size = get_or s (i + 2) 0 }

abbrev pub first_fifteen : List ℕ → Messages
first_fifteen s = record {
  window = get_or s 0 0;
  offset = get_or s 1 0;
  count = get_or s 2 0;
  s1 = schedule_at s 3;
  s2 = schedule_at s 6;
  s3 = schedule_at s 9;
  s4 = schedule_at s 12;
}

unfoldable pub messages_in : List ℕ → Messages
messages_in s = cond (ltb (length s) 15) no_messages (first_fifteen s)
