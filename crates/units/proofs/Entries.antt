-- All entries in a unit: what all need goes first.
use mathlib.Core.Bool.{Bool, true, false, ◌&&◌}
use mathlib.Core.Path.{◌≡◌, refl, sym}
use mathlib.Core.Logic.{◌⊎◌, inl, inr}
use Prim.Native.Nat.{ℕ, suc, ◌+◌, ◌-◌, ◌≤◌, ◌<◌}
use native.Mathlib.Omega.{arith}
use lib.Dec.{leb}
use mir.Val.{bool_byte}
use borrow.Author.Tests.{le-leb, lt-leb}
use Rattle.counting.specs.Counting.{count}
use Rattle.counting.proofs.Facts.{truth}
use Rattle.messages.specs.declared.Schedule.{Schedule}
use Rattle.messages.specs.declared.Messages.{Messages}
use Rattle.messages.specs.Messages.{all_periods, since, is_read, remains, after1, after2, after3, remaining}
use Rattle.messages.proofs.Queue.{count_last}
use Rattle.messages.proofs.Timing.{unread_count}
use Rattle.messages.proofs.Repeating.{Sound, AllSound, AllTurns, again1, again2, again3}
use Rattle.units.specs.Quick.{needs_at, all_need}
use Rattle.units.proofs.Units.{Of, Fits, unit_count, needs_shut, shut_unread}

-- n subframes from t on are a unit for entry j
pub record UnitFor (ms : Messages) (j : ℕ) (s : Schedule) (n t : ℕ) : Type 0 where
  pub fits : is_read ms j ≡ true → Fits ms s n
  pub on : is_read ms j ≡ true → Of n (since ms j s t)

pub record UnitOf (ms : Messages) (n t : ℕ) : Type 0 where
  pub u1 : UnitFor ms 1 ms.s1 n t
  pub u2 : UnitFor ms 2 ms.s2 n t
  pub u3 : UnitFor ms 3 ms.s3 n t
  pub u4 : UnitFor ms 4 ms.s4 n t

module _ (ms : Messages) (j : ℕ) (s : Schedule) (ok : Sound ms j s) (u : ℕ → Bool) (again : (t : ℕ) → u (t + all_periods) ≡ u t) where
  pub entry_count : (n t : ℕ) → UnitFor ms j s n t → (y : ℕ) → y ≤ n → count (remains ms j s u) t y ≡ count u t y - needs_at ms j s u t
  entry_count n t h y l = by (truth (is_read ms j))
    where
      by : (is_read ms j ≡ true) ⊎ (is_read ms j ≡ false) → count (remains ms j s u) t y ≡ count u t y - needs_at ms j s u t
      by (inl r) = unit_count ms j s (ok.whole r) n (h.fits r) u again t (h.on r) y l
      by (inr r) = omega (arith, unread_count ms j s u t y r, needs_shut ms j s u t (shut_unread ms j s u t r))

module _ (ms : Messages) (ok : AllSound ms) (u : ℕ → Bool) (w : AllTurns ms all_periods) (again : (t : ℕ) → u (t + all_periods) ≡ u t) where
  -- in a unit what all need goes first
  pub all_count : (n t : ℕ) → UnitOf ms n t → (y : ℕ) → y ≤ n → count (remaining ms u) t y ≡ count u t y - all_need ms u t
  unfolding remaining all_need
  all_count n t h y l =
      omega (
        arith,
        entry_count ms 1 ms.s1 ok.s1 u again n t h.u1 y l,
        entry_count ms 2 ms.s2 ok.s2 (after1 ms u) (again1 ms ok u all_periods w again) n t h.u2 y l,
        entry_count ms 3 ms.s3 ok.s3 (after2 ms u) (again2 ms ok u all_periods w again) n t h.u3 y l,
        entry_count ms 4 ms.s4 ok.s4 (after3 ms u) (again3 ms ok u all_periods w again) n t h.u4 y l,
      )

  -- so a subframe of a unit is remaining if as many free ones lie before it in the unit as all need
  pub remaining_at : (n t : ℕ) → UnitOf ms n t → (y : ℕ) → y < n → remaining ms u (t + y) ≡ (u (t + y) && leb (all_need ms u t) (count u t y))
  remaining_at n t h y l =
      by (remaining ms u (t + y)) (u (t + y)) (all_need ms u t) (count u t y) (count (remaining ms u) t y) (all_count n t h y (omega arith))
      (omega (
        arith,
        all_count n t h (suc y) (omega arith),
        count_last (remaining ms u) t y,
        count_last u t y,
      ))
    where
      by : (a b : Bool) (k c d : ℕ) → d ≡ c - k → d + bool_byte a ≡ c + bool_byte b - k → a ≡ (b && leb k c)
      by true true k c d e f = sym (le-leb k c (omega arith))
      by true false k c d e f = absurd (omega arith)
      by false true k c d e f = sym (lt-leb k c (omega arith))
      by false false k c d e f = refl
