-- The rules of the tables, each by one computed test.
use mathlib.Core.Bool.{Bool, true, false, cond, ◌&&◌}
use mathlib.Core.List.{List}
use mathlib.Core.Path.{◌≡◌, refl}
use Prim.Native.Nat.{ℕ, ◌+◌, ◌/◌, ◌%◌, ◌≤◌, ◌<◌}
use native.Mathlib.Omega.{arith}
use lib.Count.{ones}
use lib.Dec.{T, leb, ltb, eqb, leb→le, eqb→eq}
use borrow.Author.Tests.{ltb-true}
use Rattle.counting.proofs.Facts.{each, each_at}
use Rattle.counting.proofs.Powers.{one_digit_below, power_bounds}
use Rattle.grid.specs.Tables.{entry, lengths, downlink_copies, short_delays, long_delays, downlink_delay, uplink_copies, uplink_delays, single_tone_rows, is_repetition, up_to_four}

-- a test that holds at each field of a row holds at any field below its length
row_at : (row : List ℕ) (n : ℕ) (f : ℕ → Bool) → T (each n (λ k. f (entry row k))) → (k : ℕ) → k < n → T (f (entry row k))
row_at row n f t k h = each_at n (λ k. f (entry row k)) t k h

-- a number between two bounds
abbrev between : ℕ → ℕ → ℕ → Bool
between a b x = leb a x && leb x b

pub parts : (a b : Bool) → T (a && b) → T a × T b
parts true b t = (tt, t)
parts false b t = absurd t

between_is : (a b x : ℕ) → T (between a b x) → (a ≤ x) × (x ≤ b)
between_is a b x t =
    let p = parts (leb a x) (leb x b) t in
    (leb→le a x p.0, leb→le x b p.1)

-- m is one of the numbers of copies in a row that divides the copies R
abbrev splits : (ℕ → ℕ) → ℕ → Bool
splits m R = eqb (R % m R) 0

-- ---- bounds

pub length_bounds : (k : ℕ) → k < 8 → (1 ≤ entry lengths k) × (entry lengths k ≤ 10)
length_bounds k h = between_is 1 10 (entry lengths k) (row_at lengths 8 (between 1 10) tt k h)

pub downlink_copies_bounds : (k : ℕ) → k < 16 → (1 ≤ entry downlink_copies k) × (entry downlink_copies k ≤ 2048)
downlink_copies_bounds k h = between_is 1 2048 (entry downlink_copies k) (row_at downlink_copies 16 (between 1 2048) tt k h)

pub uplink_copies_bounds : (k : ℕ) → k < 8 → (1 ≤ entry uplink_copies k) × (entry uplink_copies k ≤ 128)
uplink_copies_bounds k h = between_is 1 128 (entry uplink_copies k) (row_at uplink_copies 8 (between 1 128) tt k h)

pub uplink_delay_bound : (k : ℕ) → k < 4 → entry uplink_delays k ≤ 64
uplink_delay_bound k h = (between_is 0 64 (entry uplink_delays k) (row_at uplink_delays 4 (between 0 64) tt k h)).1

pub single_tone_row_bound : (k : ℕ) → k < 5 → entry single_tone_rows k ≤ 4
single_tone_row_bound k h = (between_is 0 4 (entry single_tone_rows k) (row_at single_tone_rows 5 (between 0 4) tt k h)).1

pub downlink_delay_bound : (rmax k : ℕ) → k < 8 → downlink_delay rmax k ≤ 1024
unfolding downlink_delay
downlink_delay_bound rmax k h = by (ltb rmax 128)
  where
    by : (b : Bool) → cond b (entry short_delays k) (entry long_delays k) ≤ 1024
    by true = (between_is 0 1024 (entry short_delays k) (row_at short_delays 8 (between 0 1024) tt k h)).1
    by false = (between_is 0 1024 (entry long_delays k) (row_at long_delays 8 (between 0 1024) tt k h)).1

-- ---- copies in a row divide the copies (for the copy order)

pub downlink_consecutive_splits : (k : ℕ) → k < 16 → entry downlink_copies k % up_to_four (entry downlink_copies k) ≡ 0
downlink_consecutive_splits k h =
    eqb→eq (entry downlink_copies k % up_to_four (entry downlink_copies k)) 0 (row_at downlink_copies 16 (splits up_to_four) tt k h)

-- min(ceil(R/2), 4) of the uplink
abbrev pub half_consecutive : ℕ → ℕ
half_consecutive R = up_to_four ((R + 1) / 2)

pub uplink_consecutive_splits : (k : ℕ) → k < 8 → entry uplink_copies k % half_consecutive (entry uplink_copies k) ≡ 0
uplink_consecutive_splits k h =
    eqb→eq (entry uplink_copies k % half_consecutive (entry uplink_copies k)) 0 (row_at uplink_copies 8 (splits half_consecutive) tt k h)

pub consecutive_small_lem : (R : ℕ) → up_to_four R ≤ 4
consecutive_small_lem R = by (ltb R 4) refl
  where
    by : (b : Bool) → ltb R 4 ≡ b → cond b R 4 ≤ 4
    by true e = omega (arith, ltb-true R 4 e)
    by false e = omega arith

pub consecutive_pos : (R : ℕ) → 0 < R → 0 < up_to_four R
consecutive_pos R h = by (ltb R 4)
  where
    by : (b : Bool) → 0 < cond b R 4
    by true = h
    by false = omega arith

-- ---- powers of two

pub one_digit : (x : ℕ) → (leb x 2048 && eqb (ones x) 1) ≡ is_repetition x
unfolding is_repetition
one_digit x = one_digit_below x

pub repetition_bounds : (x : ℕ) → is_repetition x ≡ true → (1 ≤ x) × (x ≤ 2048)
unfolding is_repetition
repetition_bounds x h = let b = power_bounds 12 x h in (b.0, omega (arith, b.1))
