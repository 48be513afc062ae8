-- The candidates of a search space and their order: TS 36.213 clause 16.6, table 16.6-1; 02 L6.
use Rattle.std.specs.Prelude.{Bool, cond, List, [], ◌∷◌, ◌++◌, map, length, replicate}
use Rattle.std.specs.Prelude.{ℕ, zero, suc, ◌+◌, ◌-◌, ◌*◌, ◌/◌, ◌%◌, eqb, ltb, leb}
use Rattle.search_space.specs.declared.Candidate.{Candidate}

-- those of a list that pass a test
abbrev pub those : (ℕ → Bool) → List ℕ → List ℕ
those test [] = []
those test (x ∷ xs) = cond (test x) (x ∷ []) [] ++ those test xs

-- R: Rmax/8, /4, /2, /1 from Rmax 8 up; below that 1, 2, 4 as far as Rmax
unfoldable pub levels_of : ℕ → List ℕ
levels_of rmax =
    cond (ltb rmax 8) (those (λ r. leb r rmax) (1 ∷ 2 ∷ 4 ∷ [])) (rmax / 8 ∷ rmax / 4 ∷ rmax / 2 ∷ rmax ∷ [])

-- candidate (R, u): it begins after u·R of the usable subframes from the start on; u < Rmax/R
pub record Label : Type 0 where
  pub r : ℕ
  pub u : ℕ

-- those that begin after j usable subframes: one for each R of which j is a multiple, R rising
abbrev pub labels_at : List ℕ → ℕ → List Label
labels_at levels j = map (λ r. record { r = r; u = j / r }) (those (λ r. eqb (j % r) 0) levels)

-- those that begin after j, j + 1, .., n numbers
abbrev pub labels_from : List ℕ → ℕ → ℕ → List Label
labels_from levels j zero = []
labels_from levels j (suc n) = labels_at levels j ++ labels_from levels (suc j) n

-- all of them, by where they begin and then by R
unfoldable pub labels_of : ℕ → List Label
labels_of rmax = labels_from (levels_of rmax) 0 rmax

-- at j is the j-th usable subframe from the start on: candidate (R, u) takes R of them, the (u·R)-th first
abbrev pub candidate_at : (ℕ → ℕ) → Label → Candidate
candidate_at at x = record { first = at (x.u * x.r); r = x.r; last = at (x.u * x.r + x.r - 1) }

-- room for fifteen, zeros past the last
abbrev pub room : ℕ
room = 15

abbrev pub blank : Candidate
blank = record { first = 0; r = 0; last = 0 }

abbrev pub filled_up : List Candidate → List Candidate
filled_up list = list ++ replicate (room - length list) blank

unfoldable pub list_of : (ℕ → ℕ) → ℕ → List Candidate
list_of at rmax = filled_up (map (candidate_at at) (labels_of rmax))
