-- Cases of 02 L5: on a standalone anchor with identity 0, schedule 0 and no bitmap, and cases that tell readings of
-- 02 apart.
use Rattle.std.specs.Prelude.{Bool, true, false, not, ◌||◌, List, [], ◌∷◌, ◌≡◌, ℕ, zero, suc, ◌%◌, eqb}
use Rattle.counting.specs.Counting.{rank}
use Rattle.sync.specs.Sync.{npbch, npss, nsss, sib1}
use Rattle.messages.specs.declared.Schedule.{Schedule}
use Rattle.messages.specs.declared.Messages.{Messages}
use Rattle.messages.specs.Messages.{remaining, is_message, are_listed}

abbrev pub anchor : ℕ → Bool
anchor t = not (npbch t || (npss t || (nsss t || sib1 0 0 t)))

-- only the first subframe of each frame
abbrev pub sparse : ℕ → Bool
sparse t = eqb (t % 10) 0

-- a window every so many frames, a copy of so many subframes at every so many frames of it
abbrev pub at : ℕ → ℕ → ℕ → Schedule
at period every size = record { period = period; every = every; size = size }

abbrev pub some : ℕ → ℕ → ℕ → Schedule → Schedule → Messages
some window offset count a b =
    record { window = window; offset = offset; count = count; s1 = a; s2 = b; s3 = a; s4 = a }

abbrev pub only : ℕ → ℕ → Schedule → Messages
only window offset s = some window offset 1 s s

-- which of the first n pass, the last first
abbrev pub listed : (ℕ → Bool) → ℕ → List ℕ
listed f zero = []
listed f (suc n) = elim (f n) [ true ↦ n ∷ listed f n | false ↦ listed f n ]

-- each is computed
pub record ComputedCases : Type 0 where
  -- what one schedule takes first, and how many of its period
  pub taken_first : listed (is_message (only 160 0 (at 64 2 8)) anchor) 27
      ≡ 26 ∷ 23 ∷ 22 ∷ 21 ∷ 12 ∷ 11 ∷ 8 ∷ 7 ∷ 6 ∷ 3 ∷ 2 ∷ 1 ∷ []
  pub taken_of_period : rank (is_message (only 160 0 (at 64 2 8)) anchor) 640 ≡ 64
  -- windows one after the other; the fourth opens in frame 56 and is open at t = 0
  pub over_zero : listed (is_message (some 160 8 4 (at 64 2 8) (at 64 2 8)) anchor) 24
      ≡ 23 ∷ 22 ∷ 21 ∷ 12 ∷ 11 ∷ 8 ∷ 7 ∷ 6 ∷ 3 ∷ 2 ∷ 1 ∷ []
  -- the frame's number is not taken modulo 1,024
  pub long_period : is_message (only 160 0 (at 2048 2 8)) anchor 10241 ≡ false
  -- copies are counted from the window's start
  pub from_its_start : listed (is_message (only 160 8 (at 64 16 2)) sparse) 101 ≡ 90 ∷ 80 ∷ []
  -- 64 are wanted and 16 are free: what is wanted at the window's end is dropped
  pub stops_at_end : rank (is_message (only 160 0 (at 64 2 8)) sparse) 640 ≡ 16
  -- two windows that meet up to frame 32: the first entry has what it wanted there and takes but two after it
  pub first_entry_first : is_message (some 480 0 2 (at 64 16 2) (at 64 2 8)) sparse 340 ≡ false
  -- 21
  pub as_long_listed : are_listed (only 640 15 (at 64 2 8)) ≡ true
  pub longer_not : are_listed (only 960 0 (at 64 2 8)) ≡ false
  pub sixteen_not : are_listed (only 160 16 (at 64 2 8)) ≡ false
  pub fifth_not : are_listed (some 160 0 5 (at 64 2 8) (at 64 2 8)) ≡ false
  pub four_subframes_not : are_listed (only 160 0 (at 64 2 4)) ≡ false
  pub unread_unjudged : are_listed (some 160 0 1 (at 64 2 8) (at 0 0 0)) ≡ true
  pub window_always_judged : are_listed (some 800 0 0 (at 64 2 8) (at 64 2 8)) ≡ false

pub record MessageCases : Type 0 where
  pub computed : ComputedCases
  -- where the window is as long as the period, 216 of 640 remain
  pub window_as_long : rank (remaining (only 640 0 (at 64 2 8)) anchor) 640 ≡ 216
