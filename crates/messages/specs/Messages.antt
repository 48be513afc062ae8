-- System information messages: 02 L5; TS 36.331 clause 5.2.3a. u is any test of a subframe: what is free before
-- messages are laid.
use Rattle.std.specs.Prelude.{Bool, cond, not, ◌&&◌, ◌||◌, List, [], ◌∷◌}
use Rattle.std.specs.Prelude.{ℕ, zero, suc, ◌+◌, ◌-◌, ◌*◌, ◌/◌, ◌%◌, eqb, leb, ltb}
use mir.Val.{bool_byte}
use Rattle.counting.specs.Listed.{is_one_of}
use Rattle.messages.specs.declared.Schedule.{Schedule}
use Rattle.messages.specs.declared.Messages.{Messages}

-- ---- the numbers that are listed: refusal 21

-- ms
abbrev pub windows : List ℕ
windows = 160 ∷ 320 ∷ 480 ∷ 640 ∷ 960 ∷ 1280 ∷ 1600 ∷ []

-- frames
abbrev pub periods : List ℕ
periods = 64 ∷ 128 ∷ 256 ∷ 512 ∷ 1024 ∷ 2048 ∷ 4096 ∷ []

-- frames from one copy to the next
abbrev pub distances : List ℕ
distances = 2 ∷ 4 ∷ 8 ∷ 16 ∷ []

-- subframes of a copy
abbrev pub sizes : List ℕ
sizes = 2 ∷ 8 ∷ []

-- frames of a window
abbrev pub window_frames : Messages → ℕ
window_frames ms = ms.window / 10

-- a schedule whose numbers are listed, and whose window is no longer than its period
unfoldable pub is_listed : ℕ → Schedule → Bool
is_listed frames s =
    (is_one_of periods s.period && is_one_of distances s.every) && (is_one_of sizes s.size && leb frames s.period)

-- entry j, counted from 1, is read: it is one of those counted
abbrev pub is_read : Messages → ℕ → Bool
is_read ms j = leb j ms.count

-- its numbers are listed if it is read
abbrev pub is_sound : Messages → ℕ → Schedule → Bool
is_sound ms j s = not (is_read ms j) || is_listed (window_frames ms) s

-- window, offset and count are judged always, an entry if it is read
unfoldable pub are_listed : Messages → Bool
are_listed ms =
    (is_one_of windows ms.window && (leb ms.offset 15 && leb ms.count 4))
    && ((is_sound ms 1 ms.s1 && is_sound ms 2 ms.s2) && (is_sound ms 3 ms.s3 && is_sound ms 4 ms.s4))

-- none: what a cell has for which no messages are named
abbrev pub no_schedule : Schedule
no_schedule = record { period = 0; every = 0; size = 0 }

abbrev pub no_messages : Messages
no_messages = record {
  window = 160;
  offset = 0;
  count = 0;
  s1 = no_schedule;
  s2 = no_schedule;
  s3 = no_schedule;
  s4 = no_schedule;
}

-- ---- one window: subframe x of it, counted from where it opens; free x says whether it is still free. `Meaning` shows
-- that this is 02's sentence

-- the subframes of a copy that begins in subframe x, at every `step`-th from the first
abbrev pub begun : ℕ → ℕ → ℕ → ℕ
begun step size x = cond (eqb (x % step) 0) size 0

-- how many subframes the copies begun before subframe x still want: a free one goes to the first that wants it
unfoldable pub wants : ℕ → ℕ → (ℕ → Bool) → ℕ → ℕ
wants step size free zero = 0
wants step size free (suc x) = wants step size free x + begun step size x - bool_byte (free x)

-- subframe x is free, and a copy wants it
abbrev pub takes : ℕ → ℕ → (ℕ → Bool) → ℕ → Bool
takes step size free x = free x && ltb 0 (wants step size free x + begun step size x)

-- ---- entry j, a schedule, from 1

-- a multiple of every period: 4,096 frames
abbrev pub all_periods : ℕ
all_periods = 40960

-- its windows open where (t div 10) mod T is this
abbrev pub opens_at : Messages → ℕ → Schedule → ℕ
opens_at ms j s = ((j - 1) * window_frames ms + ms.offset) % s.period

-- how many subframes before t the last of its windows opened, below 0 too
unfoldable pub since : Messages → ℕ → Schedule → ℕ → ℕ
since ms j s t = (t + all_periods - 10 * opens_at ms j s) % (10 * s.period)

-- subframe x of the window that is open at t, counted all periods on, so that it may have opened before 0
unfoldable pub in_window : Messages → ℕ → Schedule → (ℕ → Bool) → ℕ → ℕ → Bool
in_window ms j s u t x = u (t + all_periods - since ms j s t + x)

-- t lies in an open window, and a copy takes it
abbrev pub is_taken : Messages → ℕ → Schedule → (ℕ → Bool) → ℕ → Bool
is_taken ms j s u t =
    ltb (since ms j s t) ms.window && takes (10 * s.every) s.size (in_window ms j s u t) (since ms j s t)

-- what remains of u after entry j
unfoldable pub remains : Messages → ℕ → Schedule → (ℕ → Bool) → ℕ → Bool
remains ms j s u t = u t && not (is_read ms j && is_taken ms j s u t)

-- what remains after the first, after two, after three
abbrev pub after1 : Messages → (ℕ → Bool) → ℕ → Bool
after1 ms u = remains ms 1 ms.s1 u

abbrev pub after2 : Messages → (ℕ → Bool) → ℕ → Bool
after2 ms u = remains ms 2 ms.s2 (after1 ms u)

abbrev pub after3 : Messages → (ℕ → Bool) → ℕ → Bool
after3 ms u = remains ms 3 ms.s3 (after2 ms u)

-- what remains after all, earlier entries first
unfoldable pub remaining : Messages → (ℕ → Bool) → ℕ → Bool
remaining ms u = remains ms 4 ms.s4 (after3 ms u)

-- free, and a message takes it
unfoldable pub is_message : Messages → (ℕ → Bool) → ℕ → Bool
is_message ms u t = u t && not (remaining ms u t)
