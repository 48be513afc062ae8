-- Cases of 02 L6, on P7's cell of 01 with one port.
use Rattle.std.specs.Prelude.{List, [], ◌∷◌, ◌≡◌, ℕ, ◌/◌, ◌%◌, ◌^◌, eqb}
use Rattle.counting.specs.Counting.{rank}
use Rattle.cell.specs.declared.Cell.{Cell}
use Rattle.cell.specs.Cases.{anchor_cell}
use Rattle.search_space.specs.declared.SearchSpace.{SearchSpace}
use Rattle.search_space.specs.declared.Candidate.{Candidate}
use Rattle.search_space.specs.Refusals.{space_refusal}
use Rattle.search_space.specs.Candidates.{filled_up}
use Rattle.search_space.specs.Questions.{refused_search, search_of}

abbrev pub one_anchor : Cell
one_anchor = anchor_cell 1

abbrev pub space : ℕ → ℕ → ℕ → ℕ → SearchSpace
space n rmax g alpha = record { n = n; rmax = rmax; g = g; alpha = alpha }

abbrev pub candidate : ℕ → ℕ → ℕ → Candidate
candidate first r last = record { first = first; r = r; last = last }

-- the 384 search spaces at n = 0: of each Rmax, field of G and field of the offset
abbrev pub space_number : ℕ → SearchSpace
space_number i = space 0 (2 ^ (i / 32)) (i / 4 % 8) (i % 4)

-- neither buffer is read
pub record SearchCases : Type 0 where
  -- T 16, an eighth of it
  pub seven : (anchor other : List ℕ) → search_of one_anchor anchor other (space 15 4 2 1) ≡ record {
    no = 0;
    start = 18;
    count = 7;
    list = filled_up
        (candidate 18 1 18 ∷ candidate 18 2 19 ∷ candidate 18 4 22 ∷ candidate 19 1 19 ∷ candidate 21 1 21
        ∷ candidate 21 2 22 ∷ candidate 22 1 22 ∷ []);
  }
  -- T 16, none of it: the start is not usable, the first candidates begin in subframe 1
  pub fifteen : (anchor other : List ℕ) → search_of one_anchor anchor other (space 0 8 1 0) ≡ record {
    no = 0;
    start = 0;
    count = 15;
    list = candidate 1 1 1 ∷ candidate 1 2 2 ∷ candidate 1 4 6 ∷ candidate 1 8 12 ∷ candidate 2 1 2 ∷ candidate 3 1 3
        ∷ candidate 3 2 6 ∷ candidate 6 1 6 ∷ candidate 7 1 7 ∷ candidate 7 2 8 ∷ candidate 7 4 12 ∷ candidate 8 1 8
        ∷ candidate 11 1 11 ∷ candidate 11 2 12 ∷ candidate 12 1 12 ∷ [];
  }
  -- T 6: the turn of the hyperframe cuts it short, four after 10237
  pub turn : (anchor other : List ℕ) → (search_of one_anchor anchor other (space 10238 4 0 2)).start ≡ 10241
  -- T above a hyperframe: one start in each
  pub long : (anchor other : List ℕ) → (search_of one_anchor anchor other (space 1 2048 7 0)).start ≡ 10240
  pub part : (anchor other : List ℕ) → search_of one_anchor anchor other (space 0 512 7 3) ≡ refused_search 23
  pub short : (anchor other : List ℕ) → search_of one_anchor anchor other (space 0 1 1 0) ≡ refused_search 22
  -- 10 before 12
  pub field : (anchor other : List ℕ) → search_of one_anchor anchor other (space 0 3 8 0) ≡ refused_search 10
  -- 22 has three Rmax and G, with any offset: (1, 1.5), (1, 2) and (2, 1.5); 23 fifteen with their offset
  pub refused_22 : rank (λ i. eqb (space_refusal (space_number i)) 22) 384 ≡ 12
  pub refused_23 : rank (λ i. eqb (space_refusal (space_number i)) 23) 384 ≡ 15
