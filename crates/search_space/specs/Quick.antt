-- For the code alone. What the quick code chooses: Rmax cut into blocks of the smallest R, and rows that name each
-- candidate's blocks.
use Rattle.std.specs.Prelude.{cond, List, [], ◌∷◌, ◌≡◌, ℕ, ◌+◌, ◌-◌, ◌*◌, ◌/◌, ◌%◌, ◌^◌, ◌≤◌, ◌<◌, ltb, get_or}
use Rattle.std.specs.Prelude.{Result, IfOk}
use Rattle.refusals.specs.declared.Refusal.{Refusal}
use Rattle.refusals.specs.Refusal.{refused_by}
use Rattle.cell.specs.declared.Cell.{Cell}
use Rattle.cell.specs.declared.Verdict.{Verdict}
use Rattle.cell.specs.Bitmap.{own_buffer}
use Rattle.cell.specs.Quick.{Accepted}
use Rattle.search_space.specs.declared.SearchSpace.{SearchSpace}
use Rattle.search_space.specs.Refusals.{space_refusal, refusal_of}
use Rattle.spans.specs.declared.Ends.{Ends}
use Rattle.search_space.specs.declared.Candidate.{Candidate}
use Rattle.search_space.specs.declared.Cut.{Cut}
use Rattle.search_space.specs.Candidates.{blank}

-- y is the first number from x on that is `part` mod `period`
pub record FirstFrom (period part x y : ℕ) : Type 0 where
  pub late : x ≤ y
  pub is : y % period ≡ part
  pub none : (z : ℕ) → x ≤ z → z < y → z % period ≡ part → ⊥

unfoldable pub cut_of : ℕ → Cut
cut_of rmax =
    cond (ltb rmax 8) (record { size = 1; many = rmax; count = 2 * rmax - 1; row = rmax / 2 })
    (record { size = rmax / 8; many = 8; count = 15; row = 3 })

-- bounds, for numbers that have to fit
pub record CutFits (x : Cut) : Type 0 where
  pub size : (1 ≤ x.size) × (x.size ≤ 256)
  pub many : x.many ≤ 8
  pub count : x.count ≤ 15
  pub row : x.row < 4

-- digit k of sixteen, the lowest is digit 0
abbrev pub digit_of : ℕ → ℕ → ℕ
digit_of x k = x / 2 ^ (4 * k) % 16

-- of each candidate the first and the last block, digit k for candidate k; a row for Rmax 1, 2, 4 and from 8 up
abbrev pub block_rows : List (ℕ × ℕ)
block_rows =
    (0, 0) ∷ (0x100, 0x110) ∷ (0x3221000, 0x3321310) ∷ (0x766544432210000, 0x776575433217310) ∷ []

unfoldable pub first_block : ℕ → ℕ → ℕ
first_block row k = digit_of (get_or block_rows row (0, 0)).0 k

unfoldable pub last_block : ℕ → ℕ → ℕ
last_block row k = digit_of (get_or block_rows row (0, 0)).1 k

-- what stands where no block is
abbrev pub no_block : Ends
no_block = record { first = 0; last = 0 }

-- block i of a size, at j the j-th usable subframe from the start on
abbrev pub block_of : (ℕ → ℕ) → ℕ → ℕ → Ends
block_of at size i = record { first = at (i * size); last = at (i * size + (size - 1)) }

pub record BlocksOf (at : ℕ → ℕ) (x : Cut) (b : List Ends) : Type 0 where
  pub each : (i : ℕ) → i < x.many → get_or b i no_block ≡ block_of at x.size i

-- candidate k, read off the blocks
unfoldable pub entry_in : List Ends → Cut → ℕ → Candidate
entry_in b x k =
    cond (ltb k x.count) (record {
      first = (get_or b (first_block x.row k) no_block).first;
      r = (last_block x.row k + 1 - first_block x.row k) * x.size;
      last = (get_or b (last_block x.row k) no_block).last;
    }) blank

-- a search space judged after its cell: the refusal of the first that refuses
pub record JudgedSpace (c : Cell) (anchor other : List ℕ) (s : SearchSpace) (r : Result Verdict Refusal) : Type 0 where
  pub number : refused_by r ≡ refusal_of c anchor other s
  pub accepted : IfOk r (λ v. Accepted c (own_buffer c.config anchor other) v × (space_refusal s ≡ 0))
