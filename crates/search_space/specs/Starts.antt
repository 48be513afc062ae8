-- Where a UE-specific search space starts: TS 36.213 clause 16.6; 02 L6.
use Rattle.std.specs.Prelude.{Bool, List, [], ◌∷◌, ℕ, ◌*◌, ◌/◌, ◌%◌, eqb}
use Rattle.counting.specs.Counting.{next}
use Rattle.grid.specs.Tables.{entry}
use Rattle.search_space.specs.declared.SearchSpace.{SearchSpace}

-- subframes of a hyperframe: 1,024 frames
abbrev pub hyperframe : ℕ
hyperframe = 10240

-- 2G by field 0 to 7: G is 1.5, 2, 4, 8, 16, 32, 48, 64
abbrev pub doubled_g : List ℕ
doubled_g = 3 ∷ 4 ∷ 8 ∷ 16 ∷ 32 ∷ 64 ∷ 96 ∷ 128 ∷ []

-- 2T; the period T is Rmax · G, whole where it is at least 4
unfoldable pub doubled_period : SearchSpace → ℕ
doubled_period s = s.rmax * entry doubled_g s.g

abbrev pub period_of : SearchSpace → ℕ
period_of s = doubled_period s / 2

-- the offset's part of T: 0, 1/8, 1/4 or 3/8 of it, rounded down
abbrev pub part_of : SearchSpace → ℕ
part_of s = s.alpha * period_of s / 8

-- a search space starts in subframe t: its number within the hyperframe, mod T, is the offset's part
abbrev pub is_start : ℕ → ℕ → ℕ → Bool
is_start period part t = eqb (t % hyperframe % period) part

-- the first start not before n; every hyperframe has one
unfoldable pub start_of : SearchSpace → ℕ
start_of s = next (is_start (period_of s) (part_of s)) hyperframe s.n
