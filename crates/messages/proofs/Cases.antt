-- The cases of 02 L5 hold: those that are computed, and a window as long as its period by its queue.
use mathlib.Core.Bool.{Bool}
use mathlib.Core.Path.{◌≡◌, refl, ap, ◌∙◌}
use Prim.Native.Nat.{ℕ, ◌+◌, ◌*◌, ◌/◌, ◌%◌}
use native.Mathlib.Nat.{add-mul-mod_self_right}
use native.Mathlib.Omega.{arith}
use Rattle.counting.specs.Counting.{rank, count}
use Rattle.counting.proofs.Rank.{rank_same, count_from_zero}
use Rattle.messages.specs.declared.Schedule.{Schedule}
use Rattle.messages.specs.declared.Messages.{Messages}
use Rattle.messages.specs.Messages.{all_periods, wants, since, in_window, after1, after2, after3, remaining}
use Rattle.messages.specs.Cases.{anchor, at, only, MessageCases}
use Rattle.messages.proofs.Computed.{computed}
use Rattle.messages.proofs.Queue.{untaken, all_begun, all_counted}
use Rattle.messages.proofs.Timing.{Whole, unread_remains, open_untaken}

abbrev s : Schedule
s = at 64 2 8

abbrev ms : Messages
ms = only 640 0 s

again : (t : ℕ) → anchor (t + all_periods) ≡ anchor t
again t =
    let a : (t + all_periods) % 10 ≡ t % 10 = omega arith in
    let q : (t + all_periods) / 10 ≡ t / 10 + 4 * 1024 = omega arith in
    let b : (t + all_periods) / 10 % 1024 ≡ t / 10 % 1024 = ap (λ (x : ℕ). x % 1024) q ∙ add-mul-mod_self_right (t / 10) 4 1024 in
    rw (a, b) refl

whole : Whole s
whole = record { some = omega arith; turns = 64; whole = refl; within = omega arith }

-- the first is read, and no other
first_alone : (t : ℕ) → remaining ms anchor t ≡ after1 ms anchor t
unfolding remaining
first_alone t =
    unread_remains ms 4 s (after3 ms anchor) refl t ∙ unread_remains ms 3 s (after2 ms anchor) refl t ∙ unread_remains ms 2 s (after1 ms anchor) refl t

opens : since ms 1 s 0 ≡ 0
unfolding since
opens = refl

abbrev free : ℕ → Bool
free = in_window ms 1 s anchor 0

-- 472 are free, 256 are wanted in all, and none at the end
queue : (rank free 640 ≡ 472) × (all_begun 20 8 free 640 ≡ 256) × (wants 20 8 free 640 ≡ 0)
unfolding rank wants in_window since all_begun
queue = (refl, refl, refl)

window_as_long : rank (remaining ms anchor) 640 ≡ 216
window_as_long =
    let left = untaken 20 8 free in
    rank_same (remaining ms anchor) (after1 ms anchor) 640 (λ t h. first_alone t)
    ∙ omega (
      arith,
      count_from_zero (after1 ms anchor) 640,
      open_untaken ms 1 s whole anchor again 0 640 (omega (arith, opens)) refl (omega (arith, opens)) 640 (omega arith),
      ap (λ (x : ℕ). count left x 640) opens,
      count_from_zero left 640,
      all_counted 20 8 free 640,
      queue,
    )

pub cases : MessageCases
cases = record { computed = computed; window_as_long = window_as_long }
