-- What the anchor takes for synchronization and broadcast: TS 36.213 clause 16.4; 01 "Usable subframes".
use Rattle.std.specs.Prelude.{Bool, ◌&&◌, ℕ, zero, suc, ◌+◌, ◌-◌, ◌*◌, ◌/◌, ◌%◌, eqb, ltb}
use Rattle.grid.specs.Grid.{frame, subframe}

abbrev pub even : ℕ → Bool
even n = eqb (n % 2) 0

abbrev pub npbch : ℕ → Bool
npbch t = eqb (subframe t) 0

abbrev pub npss : ℕ → Bool
npss t = eqb (subframe t) 5

-- subframe 9 of even frames
abbrev pub nsss : ℕ → Bool
nsss t = eqb (subframe t) 9 && eqb (frame t % 2) 0

-- SIB1's copies and first frame, by schedule and identity (TS 36.213 tables 16.4.1.3-3 and 16.4.1.3-4)
abbrev pub by_schedule : ℕ → ℕ → ℕ → ℕ → ℕ
by_schedule zero a b c = a
by_schedule (suc zero) a b c = b
by_schedule (suc (suc n)) a b c = c

abbrev pub sib1_copies : ℕ → ℕ
sib1_copies schedule = by_schedule (schedule % 3) 4 8 16

abbrev pub sib1_first : ℕ → ℕ → ℕ
sib1_first identity schedule = by_schedule (schedule % 3) (16 * (identity % 4)) (16 * (identity % 2)) (identity % 2)

-- (f - first) mod (256 div copies), the remainder from 0 up: 256 is a multiple of the divisor and no smaller than the
-- first frame
abbrev pub sib1_place : ℕ → ℕ → ℕ → ℕ
sib1_place identity schedule f = (f + 256 - sib1_first identity schedule) % (256 / sib1_copies schedule)

-- subframe 4 of every other frame of 16
abbrev pub sib1 : ℕ → ℕ → ℕ → Bool
sib1 identity schedule t =
    eqb (subframe t) 4
    && (even (sib1_place identity schedule (frame t)) && ltb (sib1_place identity schedule (frame t)) 16)
