-- What the question on a search space answers, on any numbers and buffers: 02 L6.
use Rattle.std.specs.Prelude.{Bool, List, ℕ, length, replicate}
use Rattle.counting.specs.Counting.{select}
use Rattle.cell.specs.declared.Cell.{Cell}
use Rattle.cell.specs.Bitmap.{bitmap_of}
use Rattle.cell.specs.Usable.{period, usable}
use Rattle.sending.specs.Answer.{answer_of}
use Rattle.search_space.specs.declared.SearchSpace.{SearchSpace}
use Rattle.search_space.specs.declared.SearchAnswer.{SearchAnswer}
use Rattle.search_space.specs.Starts.{start_of}
use Rattle.search_space.specs.Refusals.{refusal_of}
use Rattle.search_space.specs.Candidates.{labels_of, room, blank, list_of}

abbrev pub refused_search : ℕ → SearchAnswer
refused_search refusal = record { no = refusal; start = 0; count = 0; list = replicate room blank }

-- all candidates from the first start not before n on; u says which subframes are usable
unfoldable pub monitored_in : (ℕ → Bool) → SearchSpace → SearchAnswer
monitored_in u s = record {
  no = 0;
  start = start_of s;
  count = length (labels_of s.rmax);
  list = list_of (select u period (start_of s)) s.rmax;
}

-- in the cell's usable subframes, refused by the cell and then by the search space
unfoldable pub search_of : Cell → List ℕ → List ℕ → SearchSpace → SearchAnswer
search_of c anchor other s =
    answer_of refused_search (refusal_of c anchor other s)
    (monitored_in (usable c (bitmap_of c anchor other)) s)
