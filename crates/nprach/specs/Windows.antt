-- Random access windows: 02 L4; TS 36.211 clauses 10.1.3.6 (uplink slots that overlap them are postponed) and 10.1.6
-- (the preamble).
use Rattle.std.specs.Prelude.{Bool, cond, not, ◌&&◌, ◌||◌, List, [], ◌∷◌, ◌++◌, ℕ, ◌+◌, ◌-◌, ◌*◌, ◌/◌, ◌%◌, leb, ltb}
use Rattle.counting.specs.Counting.{rank}
pub use Rattle.counting.specs.Listed.{is_one_of}
use Rattle.numerology.specs.Numerology.{group_ms, narrow_tones}
use Rattle.nprach.specs.declared.Window.{Window}
use Rattle.grid.specs.Grid.{uplink_subcarriers}
use Rattle.nprach.specs.declared.Windows.{Windows}

-- an entry of zeros; no window
abbrev pub blank : Window
blank = record { period = 0; start = 0; length = 0; tone = 0 }

abbrev pub none : Windows
none = record { count = 0; w1 = blank; w2 = blank; w3 = blank; w4 = blank }

-- ---- the numbers that are listed

-- ms
abbrev pub periods : List ℕ
periods = 40 ∷ 80 ∷ 160 ∷ 320 ∷ 640 ∷ 1280 ∷ 2560 ∷ []

abbrev pub starts : List ℕ
starts = 8 ∷ 16 ∷ 32 ∷ 64 ∷ 128 ∷ 256 ∷ 512 ∷ 1024 ∷ []

-- one repetition, or 2, 4, .. 64 of them
abbrev pub repetitions : ℕ → List ℕ
repetitions one = one ∷ 2 * one ∷ 4 * one ∷ 8 * one ∷ 16 * one ∷ 32 * one ∷ 64 * one ∷ []

-- units of 1/30720 ms: repetitions of preamble format 0, and of format 1
abbrev pub lengths : List ℕ
lengths = repetitions 172032 ++ repetitions 196608

abbrev pub units_of_ms : ℕ
units_of_ms = 30720

-- tones at 3.75 kHz of a window
abbrev pub window_tones : ℕ
window_tones = 12

-- a multiple of every period, and above every start
abbrev pub all_periods : ℕ
all_periods = 2560

unfoldable pub is_listed : Window → Bool
is_listed w =
    (is_one_of periods w.period && is_one_of starts w.start)
    && (is_one_of lengths w.length && leb (w.tone + window_tones) (uplink_subcarriers 0))

-- window number j is read: it is one of those counted
abbrev pub is_read : Windows → ℕ → Bool
is_read ws j = leb j ws.count

-- at most four windows, and each that is read is listed
unfoldable pub are_listed : Windows → Bool
are_listed ws =
    leb ws.count 4
    && ((not (is_read ws 1) || is_listed ws.w1) && (not (is_read ws 2) || is_listed ws.w2)
    && ((not (is_read ws 3) || is_listed ws.w3) && (not (is_read ws 4) || is_listed ws.w4)))

-- ---- which groups a window closes to n tones from tone a on, counted at 3.75 kHz, where a group of slots lasts ms

-- it has one of the tones
abbrev pub shares_tone : ℕ → ℕ → Window → Bool
shares_tone a n w = ltb a (w.tone + window_tones) && ltb w.tone (a + n)

-- before time e, in ms, windows begin at every t equal to the start modulo the period, below 0 too: how long before e
-- the last of them begins
abbrev pub since_begin : Window → ℕ → ℕ
since_begin w e = (e + all_periods - 1 - w.start) % w.period + 1

-- group u, from ms * u to ms * u + ms, overlaps a window in time: that window's end is past the group's begin, so
-- it began less than its length and the group's before the group's end
unfoldable pub overlaps : ℕ → Window → ℕ → Bool
overlaps ms w u = ltb (units_of_ms * since_begin w (ms * u + ms)) (w.length + units_of_ms * ms)

-- group u overlaps a window that is read, in time and tone
abbrev pub meets : ℕ → ℕ → ℕ → Bool → Window → ℕ → Bool
meets ms a n read w u = (read && shares_tone a n w) && overlaps ms w u

-- group u overlaps none of those that are read
unfoldable pub is_clear : ℕ → ℕ → ℕ → Windows → ℕ → Bool
is_clear ms a n ws u =
    (not (meets ms a n (is_read ws 1) ws.w1 u) && not (meets ms a n (is_read ws 2) ws.w2 u))
    && (not (meets ms a n (is_read ws 3) ws.w3 u) && not (meets ms a n (is_read ws 4) ws.w4 u))

-- ---- refusals: 19 a fifth window, a number that is not listed, or tones past 47; 20 no group is ever free on the
-- granted tones

unfoldable pub windows_refusal : ℕ → ℕ → ℕ → Windows → ℕ
windows_refusal ms a n ws =
    cond (are_listed ws)
    (cond (ltb 0 (rank (is_clear ms a n ws) (all_periods / ms))) 0 20)
    19

-- ---- on the tones of a grant, by its spacing

-- group u overlaps none of them in time and tone, so it is open to the grant
abbrev pub open_to : ℕ → ℕ → ℕ → Windows → ℕ → Bool
open_to spacing tone tones ws =
    is_clear (group_ms spacing) (narrow_tones spacing * tone) (narrow_tones spacing * tones) ws

abbrev pub refusal_on : ℕ → ℕ → ℕ → Windows → ℕ
refusal_on spacing tone tones =
    windows_refusal (group_ms spacing) (narrow_tones spacing * tone) (narrow_tones spacing * tones)
