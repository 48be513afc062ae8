-- Windows that leave one group free leave a slot to send: 296 ms are 37 times 8 ms, and 37 is prime to the 320 times 8 ms of 2,560 ms.
use mathlib.Core.Bool.{Bool, true}
use mathlib.Core.Path.{◌≡◌, sym, ap, ◌∙◌}
use Prim.Native.Nat.{ℕ, ◌+◌, ◌-◌, ◌*◌, ◌/◌, ◌%◌, ◌≤◌, ◌<◌}
use native.Mathlib.Nat.{mul-one, mul_assoc, add-mul, mul-mul-mul_comm, mod-lt, div-add-mod', mul-div_cancel, add-mul-div_right, mul-le-mul_left, mul-lt-mul_of_pos_right}
use native.Mathlib.Omega.{arith}
use lib.Arith.{digits_mod}
use borrow.Author.Tests.{lt-ltb}
use Rattle.counting.specs.Counting.{rank}
use Rattle.counting.proofs.Facts.{both}
use Rattle.counting.proofs.Period.{repeats_times, some_of}
use Rattle.uplink.specs.declared.Shape.{Shape}
use Rattle.uplink.specs.Timing.{gap_period, in_block, active, period}
use Rattle.uplink.specs.Scaffold.{gap_periods}
use Rattle.uplink.proofs.GapPeriods.{active_repeats}

-- e groups last 8 ms
module _ (s : Shape) (is_open : ℕ → Bool) (e : ℕ) (group : 0 < s.group) (some : 0 < e) (hr : gap_period s ≡ 37 * e * s.group) (hb : s.block ≡ 32 * e * s.group)
    (ag : (u : ℕ) → is_open (u + 320 * e) ≡ is_open u) where
  groups : gap_period s / s.group ≡ 37 * e
  groups = ap (λ (x : ℕ). x / s.group) hr ∙ mul-div_cancel (37 * e) group

  pub leaving_again : (u : ℕ) → is_open (u + gap_periods * (gap_period s / s.group)) ≡ is_open u
  leaving_again u =
      let d : u + gap_periods * (gap_period s / s.group) ≡ u + 37 * (320 * e) = omega (arith, groups) in
      ap is_open d ∙ repeats_times is_open (320 * e) ag 37 u

  block : 0 < s.block
  block = omega (arith, hb, mul-lt-mul_of_pos_right {m = 0} {n = 32 * e} {k = s.group} (omega arith) group)

  repeats : (x : ℕ) → active s is_open (x + period s) ≡ active s is_open x
  repeats = active_repeats s is_open group block (ap (λ (x : ℕ). x * s.group) groups ∙ sym hr) leaving_again

  -- the group u, moved on by whole 2,560 ms past the first, and then on to where gap periods begin
  module _ (u : ℕ) (free : is_open u ≡ true) where
    abbrev first : ℕ
    first = s.first / s.group

    abbrev from : ℕ
    from = u + first * (320 * e)

    late : first ≤ from
    late =
        let h : 1 ≤ 320 * e = omega arith in
        omega (arith, mul-le-mul_left first h, mul-one first)

    abbrev a : ℕ
    a = (from - first) / e

    abbrev b : ℕ
    b = (from - first) % e

    abbrev y : ℕ
    y = 173 * a * (37 * e) + b

    lands : first + y ≡ from + 20 * a * (320 * e)
    lands =
        omega (
          arith,
          late,
          div-add-mod' (from - first) e,
          mul-mul-mul_comm 173 a 37 e,
          mul-mul-mul_comm 20 a 320 e,
        )

    free_there : is_open (first + y) ≡ true
    free_there =
        ap is_open lands ∙ repeats_times is_open (320 * e) ag (20 * a) from
        ∙ repeats_times is_open (320 * e) ag first u ∙ free

    small : b < e
    small = mod-lt (from - first) some

    in_block_lem : in_block s (y * s.group) ≡ true
    unfolding in_block
    in_block_lem =
        let p : y * s.group ≡ 173 * a * gap_period s + b * s.group =
        add-mul (173 * a * (37 * e)) b s.group
        ∙ ap (λ (x : ℕ). x + b * s.group) (mul_assoc (173 * a) (37 * e) s.group ∙ ap (λ (x : ℕ). 173 * a * x) (sym hr)) in
        let l : b * s.group < s.block = omega (arith, hb, mul-lt-mul_of_pos_right {m = b} {n = 32 * e} {k = s.group} (omega (arith, small)) group) in
        let m : y * s.group % gap_period s ≡ b * s.group = ap (λ (x : ℕ). x % gap_period s) p ∙ digits_mod (173 * a) (omega (arith, l)) in
        lt-ltb (y * s.group % gap_period s) s.block (omega (arith, m, l))

    sends : active s is_open (y * s.group) ≡ true
    unfolding active
    sends =
        both (in_block s (y * s.group)) _ in_block_lem
        (ap is_open (add-mul-div_right s.first y group) ∙ free_there)

    pub leaving_some : 0 < rank (active s is_open) (period s)
    leaving_some = some_of (active s is_open) (period s) repeats (y * s.group) (omega (arith, block)) sends
