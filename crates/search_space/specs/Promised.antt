-- What is promised of every answer on a search space: 02 L6.
use Rattle.std.specs.Prelude.{Bool, true, false, ◌&&◌, List, ◌⊎◌, ◌≡◌, ℕ, ◌/◌, ◌≤◌, ◌<◌, ltb, length, get_or}
use Rattle.counting.specs.Counting.{select}
use Rattle.counting.specs.Listed.{is_one_of}
use Rattle.grid.specs.Grid.{last_subframe}
use Rattle.cell.specs.declared.Cell.{Cell}
use Rattle.cell.specs.Bitmap.{bitmap_of}
use Rattle.cell.specs.Usable.{period, usable}
use Rattle.downlink.specs.declared.DownlinkPlan.{DownlinkPlan}
use Rattle.npdcch.specs.declared.NpdcchGrant.{NpdcchGrant}
use Rattle.npdcch.specs.Questions.{plan_of}
use Rattle.search_space.specs.declared.Candidate.{Candidate}
use Rattle.search_space.specs.declared.SearchSpace.{SearchSpace}
use Rattle.search_space.specs.declared.SearchAnswer.{SearchAnswer}
use Rattle.search_space.specs.Starts.{period_of, part_of, is_start}
use Rattle.search_space.specs.Candidates.{Label, levels_of, candidate_at, room, blank}
use Rattle.search_space.specs.Questions.{search_of}

-- t is a start, not before n, and none lies between
pub record FirstStart (period part n t : ℕ) : Type 0 where
  pub late : n ≤ t
  pub starts : is_start period part t ≡ true
  pub none : (i : ℕ) → n ≤ i → i < t → is_start period part i ≡ false

-- (R, u) is a candidate: R is one of those for Rmax, and u < Rmax/R
abbrev pub is_candidate : ℕ → Label → Bool
is_candidate rmax x = is_one_of (levels_of rmax) x.r && ltb x.u (rmax / x.r)

-- a stands before b: by the first subframe, then by R
abbrev pub Before : Candidate → Candidate → Type 0
Before a b = (a.first < b.first) ⊎ ((a.first ≡ b.first) × (a.r < b.r))

-- the list starts with all candidates, each once and nothing else; at j is the j-th usable subframe from the start on
pub record ListsAll (at : ℕ → ℕ) (rmax count : ℕ) (list : List Candidate) : Type 0 where
  pub size : length list ≡ room
  pub each : (x : Label) → is_candidate rmax x ≡ true
      → (k : ℕ) × (k < count) × (get_or list k blank ≡ candidate_at at x)
  pub only : (k : ℕ) → k < count
      → (x : Label) × (is_candidate rmax x ≡ true) × (get_or list k blank ≡ candidate_at at x)
  pub sorted : (i k : ℕ) → i < k → k < count → Before (get_or list i blank) (get_or list k blank)
  pub once : (i k : ℕ) → i < count → k < count → get_or list i blank ≡ get_or list k blank → i ≡ k
  pub zeros : (k : ℕ) → count ≤ k → get_or list k blank ≡ blank

-- control in candidate x: format 1, which has both NCCEs
abbrev pub grant_of : Candidate → NpdcchGrant
grant_of x = record { n = x.first; r = x.r; format = 1; ncce = 0 }

-- its plan begins and ends with the candidate
pub record Planned (p : DownlinkPlan) (x : Candidate) : Type 0 where
  pub accepted : p.no ≡ 0
  pub first : p.first ≡ x.first
  pub last : p.last ≡ x.last

pub record Answered (c : Cell) (anchor other : List ℕ) (s : SearchSpace) (a : SearchAnswer) : Type 0 where
  pub start : FirstStart (period_of s) (part_of s) s.n a.start
  pub list : ListsAll (select (usable c (bitmap_of c anchor other)) period a.start)
      s.rmax a.count a.list
  pub planned : (k : ℕ) → k < a.count → (get_or a.list k blank).first ≤ last_subframe
      → Planned (plan_of c anchor other (grant_of (get_or a.list k blank))) (get_or a.list k blank)

pub record SearchPromises : Type 0 where
  pub answered : (c : Cell) (anchor other : List ℕ) (s : SearchSpace) → (search_of c anchor other s).no ≡ 0
      → Answered c anchor other s (search_of c anchor other s)
