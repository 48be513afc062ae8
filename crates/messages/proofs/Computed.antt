-- Cases of 02 L5 that are computed.
use mathlib.Core.Path.{refl}
use Rattle.counting.specs.Counting.{rank}
use Rattle.messages.specs.Messages.{wants, since, in_window, remains, remaining, is_message, is_listed, are_listed}
use Rattle.messages.specs.Cases.{ComputedCases}

pub computed : ComputedCases
unfolding is_message remaining remains since in_window wants rank are_listed is_listed
computed = record {
  taken_first = refl;
  taken_of_period = refl;
  over_zero = refl;
  long_period = refl;
  from_its_start = refl;
  stops_at_end = refl;
  first_entry_first = refl;
  as_long_listed = refl;
  longer_not = refl;
  sixteen_not = refl;
  fifth_not = refl;
  four_subframes_not = refl;
  unread_unjudged = refl;
  window_always_judged = refl;
}
