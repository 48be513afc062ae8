-- All entries: what they leave repeats wherever what is free before them does, and is free.
use mathlib.Core.Bool.{Bool, true, false, not, ◌&&◌}
use mathlib.Core.Path.{◌≡◌, refl, sym, ap, ◌∙◌}
use mathlib.Core.Logic.{◌⊎◌, inl, inr, ⊎_elim}
use Prim.Native.Nat.{ℕ, ◌+◌, ◌*◌, ◌/◌}
use native.Mathlib.Omega.{arith}
use lib.Dec.{eqb, leb}
use borrow.Author.Tests.{eqb-true}
use Rattle.counting.specs.Listed.{is_one_of}
use mir.Val.{bool_byte}
use Rattle.counting.proofs.Facts.{truth, both_parts}
use Rattle.counting.proofs.Period.{repeats_times}
use Rattle.messages.specs.declared.Schedule.{Schedule}
use Rattle.messages.specs.declared.Messages.{Messages}
use Rattle.messages.specs.Messages.{windows, all_periods, is_read, are_listed, remains, after1, after2, after3, remaining, is_message}
use Rattle.messages.specs.Quick.{is_silent}
use Rattle.messages.proofs.Listing.{Numbers, numbers, Listed, listed}
use Rattle.messages.proofs.Timing.{Whole, remains_repeats, unread_remains}

-- an entry that is read has listed numbers
pub record Sound (ms : Messages) (j : ℕ) (s : Schedule) : Type 0 where
  pub whole : is_read ms j ≡ true → Whole s

pub record AllSound (ms : Messages) : Type 0 where
  pub s1 : Sound ms 1 ms.s1
  pub s2 : Sound ms 2 ms.s2
  pub s3 : Sound ms 3 ms.s3
  pub s4 : Sound ms 4 ms.s4

-- P is whole periods of each entry that is read
pub record Turns (ms : Messages) (j : ℕ) (s : Schedule) (P : ℕ) : Type 0 where
  pub turns : ℕ
  pub times : is_read ms j ≡ true → turns * (10 * s.period) ≡ P

pub record AllTurns (ms : Messages) (P : ℕ) : Type 0 where
  pub t1 : Turns ms 1 ms.s1 P
  pub t2 : Turns ms 2 ms.s2 P
  pub t3 : Turns ms 3 ms.s3 P
  pub t4 : Turns ms 4 ms.s4 P

module _ (ms : Messages) (j : ℕ) (s : Schedule) (ok : Sound ms j s) (u : ℕ → Bool) where
  pub entry_repeats : (P : ℕ) → Turns ms j s P → ((t : ℕ) → u (t + P) ≡ u t) → (t : ℕ) → remains ms j s u (t + P) ≡ remains ms j s u t
  entry_repeats P w again t = by (truth (is_read ms j))
    where
      by : (is_read ms j ≡ true) ⊎ (is_read ms j ≡ false) → remains ms j s u (t + P) ≡ remains ms j s u t
      by (inl r) = remains_repeats ms j s (ok.whole r) u P w.turns (w.times r) again t
      by (inr r) = unread_remains ms j s u r (t + P) ∙ again t ∙ sym (unread_remains ms j s u r t)

module _ (ms : Messages) (ok : AllSound ms) (u : ℕ → Bool) where
  module _ (P : ℕ) (w : AllTurns ms P) (again : (t : ℕ) → u (t + P) ≡ u t) where
    pub again1 : (t : ℕ) → after1 ms u (t + P) ≡ after1 ms u t
    again1 = entry_repeats ms 1 ms.s1 ok.s1 u P w.t1 again

    pub again2 : (t : ℕ) → after2 ms u (t + P) ≡ after2 ms u t
    again2 = entry_repeats ms 2 ms.s2 ok.s2 (after1 ms u) P w.t2 again1

    pub again3 : (t : ℕ) → after3 ms u (t + P) ≡ after3 ms u t
    again3 = entry_repeats ms 3 ms.s3 ok.s3 (after2 ms u) P w.t3 again2

    -- what all leave repeats wherever u and all windows do: after 4,096 frames, and after the longest period
    pub remaining_repeats : (t : ℕ) → remaining ms u (t + P) ≡ remaining ms u t
    unfolding remaining
    remaining_repeats = entry_repeats ms 4 ms.s4 ok.s4 (after3 ms u) P w.t4 again3

-- ---- listed messages

pub whole_of : {frames : ℕ} {s : Schedule} → Numbers frames s → Whole s
whole_of {s = s} n = record { some = omega (arith, n.period_from); turns = 4096 / s.period; whole = n.periods_all; within = omega (arith, n.period_to) }

module _ (ms : Messages) (ok : are_listed ms ≡ true) where
  L : Listed ms
  L = listed ms ok

  pub sound : AllSound ms
  sound = record {
    s1 = record { whole = λ r. whole_of (numbers _ ms.s1 (L.l1 r)) };
    s2 = record { whole = λ r. whole_of (numbers _ ms.s2 (L.l2 r)) };
    s3 = record { whole = λ r. whole_of (numbers _ ms.s3 (L.l3 r)) };
    s4 = record { whole = λ r. whole_of (numbers _ ms.s4 (L.l4 r)) };
  }

  pub turns : AllTurns ms all_periods
  turns = record {
    t1 = record { turns = 4096 / ms.s1.period; times = λ r. (numbers _ ms.s1 (L.l1 r)).periods_all };
    t2 = record { turns = 4096 / ms.s2.period; times = λ r. (numbers _ ms.s2 (L.l2 r)).periods_all };
    t3 = record { turns = 4096 / ms.s3.period; times = λ r. (numbers _ ms.s3 (L.l3 r)).periods_all };
    t4 = record { turns = 4096 / ms.s4.period; times = λ r. (numbers _ ms.s4 (L.l4 r)).periods_all };
  }

  -- what remains of a test that repeats after 4,096 frames, or a part of them, repeats after 4,096 frames
  pub remaining_again : (u : ℕ → Bool) → ((t : ℕ) → u (t + all_periods) ≡ u t) → (t : ℕ) → remaining ms u (t + all_periods) ≡ remaining ms u t
  remaining_again u again = remaining_repeats ms sound u all_periods turns again

  pub repeats_at_last : (u : ℕ → Bool) (P q : ℕ) → q * P ≡ all_periods → ((t : ℕ) → u (t + P) ≡ u t) → (t : ℕ) → remaining ms u (t + all_periods) ≡ remaining ms u t
  repeats_at_last u P q whole again =
      remaining_again u (λ t. ap (λ (x : ℕ). u (t + x)) (sym whole) ∙ repeats_times u P again q t)

-- ---- any messages

module _ (ms : Messages) (u : ℕ → Bool) (t : ℕ) where
  -- only what is free remains
  pub remaining_within : u t ≡ false → remaining ms u t ≡ false
  unfolding remaining remains
  remaining_within h = rw h refl

  pub remaining_free : remaining ms u t ≡ true → u t ≡ true
  remaining_free h = ⊎_elim (λ y. y) (λ n. absurd (omega (arith, ap bool_byte (sym h ∙ remaining_within n)))) (truth (u t))

  -- all of it where no entry is read
  pub none_read : ms.count ≡ 0 → remaining ms u t ≡ u t
  unfolding remaining
  none_read e =
      unread_remains ms 4 ms.s4 (after3 ms u) (ap (leb 4) e) t ∙ unread_remains ms 3 ms.s3 (after2 ms u) (ap (leb 3) e) t
      ∙ unread_remains ms 2 ms.s2 (after1 ms u) (ap (leb 2) e) t ∙ unread_remains ms 1 ms.s1 u (ap (leb 1) e) t

  -- what is free and no message takes, remains
  pub remaining_is : (u t && not (is_message ms u t)) ≡ remaining ms u t
  unfolding is_message
  remaining_is = by (u t) (remaining ms u t) remaining_within
    where
      by : (x y : Bool) → (x ≡ false → y ≡ false) → (x && not (x && not y)) ≡ y
      by true true h = refl
      by true false h = refl
      by false y h = sym (h refl)

-- ---- messages that change nothing

pub silent_parts : (ms : Messages) → is_silent ms ≡ true → (ms.count ≡ 0) × (are_listed ms ≡ true)
unfolding is_silent are_listed
silent_parts ms h =
    let a = both_parts (eqb ms.count 0) (leb ms.offset 15 && is_one_of windows ms.window) h in
    let b = both_parts (leb ms.offset 15) (is_one_of windows ms.window) a.1 in
    let z = eqb-true ms.count 0 a.0 in
    (z, rw (b.0, b.1, z) refl)
