-- What remains after an entry is what 02's sentence says.
use mathlib.Core.Bool.{Bool, true}
use mathlib.Core.Path.{◌≡◌, sym, ap, ◌∙◌, fun_ext}
use mathlib.Core.Logic.{⊎_elim}
use Prim.Native.Nat.{ℕ, ◌+◌, ◌-◌, ◌*◌, ◌/◌, ◌%◌, ◌≤◌, ◌<◌}
use native.Mathlib.Nat.{mod-lt, div-add-mod', mul-add, mul_assoc, mul_comm, add-mul-mod_self_right, mod-mod}
use native.Mathlib.Omega.{arith}
use lib.Arith.{digits_mod}
use borrow.Author.Tests.{lt-ltb, le-ltb}
use Rattle.counting.specs.Listed.{is_one_of}
use Rattle.counting.proofs.Facts.{order}
use Rattle.counting.proofs.Range.{and_none}
use Rattle.messages.specs.declared.Schedule.{Schedule}
use Rattle.messages.specs.declared.Messages.{Messages}
use Rattle.messages.specs.Messages.{windows, window_frames, all_periods, opens_at, since, in_window, is_listed, is_read, are_listed, remains, after1, after2, after3}
use Rattle.messages.specs.Meaning.{still_free, InWindow, Meant, LaidBy, AllLaid}
use Rattle.messages.proofs.Listing.{Window, window, Numbers, numbers, listed}
use Rattle.messages.proofs.Queue.{and_true}
use Rattle.messages.proofs.Copies.{laid_as_queue}
use Rattle.messages.proofs.Timing.{unread_remains}
use Rattle.messages.proofs.Repeating.{again1, again2, again3, sound, turns}

module _ (ms : Messages) (j : ℕ) (s : Schedule) (w : is_one_of windows ms.window ≡ true) (l : is_listed (window_frames ms) s ≡ true) (read : is_read ms j ≡ true)
    (u : ℕ → Bool) (again : (t : ℕ) → u (t + all_periods) ≡ u t) where
  W : Window ms.window
  W = window ms.window w

  N : Numbers (window_frames ms) s
  N = numbers (window_frames ms) s l

  abbrev M : ℕ
  M = 10 * s.period

  abbrev step : ℕ
  step = 10 * s.every

  ten_out : (a b : ℕ) → a * (10 * b) ≡ 10 * (a * b)
  ten_out a b = sym (mul_assoc a 10 b) ∙ ap (λ (x : ℕ). x * b) (mul_comm a 10) ∙ mul_assoc 10 a b

  -- the window that is open is the last that opened
  since_is : (t o x : ℕ) → InWindow ms j s t o x → since ms j s t ≡ x
  unfolding since
  since_is t o x h =
      let q : ℕ = o / 10 / s.period in
      let e : t + all_periods - 10 * opens_at ms j s ≡ q * M + x =
      omega (arith, h.place, h.opens.begins, h.opens.there, div-add-mod' (o / 10) s.period, ten_out q s.period) in
      ap (λ (z : ℕ). z % M) e ∙ digits_mod q (omega (arith, h.inside, W.frames, N.window_to))

  window_is : (t o x : ℕ) → InWindow ms j s t o x → in_window ms j s u t ≡ (λ (y : ℕ). u (o + y))
  unfolding in_window
  window_is t o x h = fun_ext λ y.
      let e : t + all_periods - since ms j s t + y ≡ o + y = omega (arith, since_is t o x h, h.place) in
      ap u e

  in_window_lem : (t o x : ℕ) → InWindow ms j s t o x → remains ms j s u t ≡ still_free ms.window step s.size (λ y. u (o + y)) (ms.window / step) x
  unfolding remains
  in_window_lem t o x h =
      let here : u t ≡ u (o + x) = sym (again t) ∙ ap u (sym h.place) in
      let whole : ms.window / step * step ≡ ms.window = omega (arith, div-add-mod' ms.window step, W.copies s.every N.in_distances) in
      rw (read, window_is t o x h, since_is t o x h, lt-ltb x ms.window h.inside, here)
      (sym (laid_as_queue step s.size (λ y. u (o + y)) (omega (arith, N.every_from)) ms.window (ms.window / step) x h.inside (omega (arith, whole, h.inside))))

  -- where a window is open, it is the one that opened last
  window_at_lem : (t : ℕ) → since ms j s t < ms.window → InWindow ms j s t (t + all_periods - since ms j s t) (since ms j s t)
  unfolding since
  window_at_lem t h =
      let a : ℕ = opens_at ms j s in
      let z : ℕ = t + all_periods - 10 * a in
      let q : ℕ = z / M in
      let k : ℕ = a + q * s.period in
      let some : 0 < s.period = omega (arith, N.period_from) in
      let early : 10 * a ≤ all_periods = omega (arith, N.period_to, mod-lt ((j - 1) * window_frames ms + ms.offset) some) in
      let e : t + all_periods - z % M ≡ 10 * k =
      omega (arith, early, div-add-mod' z M, ten_out q s.period, mul-add 10 a (q * s.period)) in
      let tens : (10 * k % 10 ≡ 0) × (10 * k / 10 ≡ k) = (omega arith, omega arith) in
      record {
        opens = record {
          begins = ap (λ (x : ℕ). x % 10) e ∙ tens.0;
          there =
              ap (λ (x : ℕ). x / 10 % s.period) e ∙ ap (λ (x : ℕ). x % s.period) tens.1 ∙ add-mul-mod_self_right a q s.period
              ∙ mod-mod ((j - 1) * window_frames ms + ms.offset) s.period;
        };
        inside = h;
        place = omega (arith, div-add-mod' z M, early);
      }

  elsewhere : (t : ℕ) → ((o x : ℕ) → InWindow ms j s t o x → ⊥) → remains ms j s u t ≡ u t
  unfolding remains
  elsewhere t h = ⊎_elim (λ o. absurd (h _ _ (window_at_lem t o))) (λ o. rw (le-ltb (since ms j s t) ms.window o, and_none (is_read ms j)) (and_true (u t))) (order (since ms j s t) ms.window)

  -- an entry that is read and listed, over what repeats after 4,096 frames
  pub meant : Meant ms j s u
  meant = record { in_window = in_window_lem; elsewhere = elsewhere }

-- ---- all entries of listed messages

laid_by : (ms : Messages) (j : ℕ) (s : Schedule) → is_one_of windows ms.window ≡ true → (is_read ms j ≡ true → is_listed (window_frames ms) s ≡ true)
    → (u : ℕ → Bool) → ((t : ℕ) → u (t + all_periods) ≡ u t) → LaidBy ms j s u
laid_by ms j s w l u again = record { read = λ r. meant ms j s w (l r) r u again; unread = λ r t. unread_remains ms j s u r t }

pub all_laid : (ms : Messages) → are_listed ms ≡ true → (u : ℕ → Bool) → ((t : ℕ) → u (t + all_periods) ≡ u t) → AllLaid ms u
all_laid ms ok u again =
    let L = listed ms ok in
    let Z = sound ms ok in
    let T = turns ms ok in
    record {
      first = laid_by ms 1 ms.s1 L.is_window L.l1 u again;
      second = laid_by ms 2 ms.s2 L.is_window L.l2 (after1 ms u) (again1 ms Z u all_periods T again);
      third = laid_by ms 3 ms.s3 L.is_window L.l3 (after2 ms u) (again2 ms Z u all_periods T again);
      fourth = laid_by ms 4 ms.s4 L.is_window L.l4 (after3 ms u) (again3 ms Z u all_periods T again);
    }
