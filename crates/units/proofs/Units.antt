-- A unit: n subframes from t on, in which no window opens or closes and no copy begins but at t.
use mathlib.Core.Bool.{Bool, true, false, cond, ◌&&◌}
use mathlib.Core.Path.{◌≡◌, refl, sym, ap, ◌∙◌}
use mathlib.Core.Logic.{◌⊎◌, inl, inr, ⊎_elim}
use Prim.Native.Nat.{ℕ, suc, ◌+◌, ◌-◌, ◌*◌, ◌/◌, ◌%◌, ◌≤◌, ◌<◌}
use native.Mathlib.Nat.{mod-mod_of_dvd, mod-eq_of_lt, dvd_of_mod-eq-zero, mod-add-mod, zero-add, zero-mod, mul-le-mul_right, suc-mul, div-add-mod'}
use native.Mathlib.Omega.{arith}
use lib.Dec.{ltb}
use borrow.Author.Tests.{lt-ltb, le-ltb, ne_eqb}
use Rattle.counting.specs.Counting.{count}
use Rattle.counting.proofs.Facts.{order, truth}
use Rattle.counting.proofs.Range.{and_none}
use Rattle.messages.specs.declared.Schedule.{Schedule}
use Rattle.messages.specs.declared.Messages.{Messages}
use Rattle.messages.specs.Messages.{begun, wants, all_periods, since, in_window, is_read, remains}
use Rattle.units.specs.Quick.{is_window_open, wants_at, needs_at}
use Rattle.messages.proofs.Timing.{Whole, since_below, since_on, since_wrap, closed_count_lem, open_count, open_wants, unread_count}

-- x is a multiple of n
abbrev pub Of : ℕ → ℕ → Type 0
Of n x = x % n ≡ 0

-- two multiples of n, one below the other, are n apart
pub apart : (n a b : ℕ) → Of n a → Of n b → a < b → a + n ≤ b
apart n a b ha hb l =
    let qa : ℕ = a / n in
    let qb : ℕ = b / n in
    let ea : qa * n ≡ a = omega (arith, div-add-mod' a n) in
    let eb : qb * n ≡ b = omega (arith, div-add-mod' b n) in
    ⊎_elim (λ (h : qa < qb). omega (arith, mul-le-mul_right {m = suc qa} {n = qb} n h, suc-mul qa n))
    (λ (h : qb ≤ qa). absurd (omega (arith, mul-le-mul_right {m = qb} {n = qa} n h))) (order qa qb)

-- what an entry's numbers have to do with a unit
pub record Fits (ms : Messages) (s : Schedule) (n : ℕ) : Type 0 where
  pub some : 0 < n
  pub copies : Of n (10 * s.every)
  pub windows : Of n ms.window
  pub periods : Of n (10 * s.period)
  pub long : ms.window ≤ 10 * s.period

module _ (n step size ago : ℕ) (h : Of n step) (at : Of n ago) where
  within : (i : ℕ) → i < n → (ago + i) % n ≡ i
  within i l = sym (mod-add-mod ago n i) ∙ ap (λ (x : ℕ). (x + i) % n) at ∙ ap (λ (x : ℕ). x % n) (zero-add i) ∙ mod-eq_of_lt {n = i} {m = n} l

  -- no copy begins inside a unit
  pub calm : (i : ℕ) → 0 < i → i < n → begun step size (ago + i) ≡ 0
  calm i p l = ap (λ (b : Bool). cond b size 0) (ne_eqb ((ago + i) % step) 0 differs)
    where
      differs : (ago + i) % step ≡ 0 → ⊥
      differs e =
          omega (arith, sym (within i l) ∙ sym (mod-mod_of_dvd n {b = step} (ago + i) (dvd_of_mod-eq-zero n {n = step} h)) ∙ ap (λ (x : ℕ). x % n) e ∙ zero-mod n)

-- outside its windows an entry needs nothing
module _ (ms : Messages) (j : ℕ) (s : Schedule) (u : ℕ → Bool) (t : ℕ) where
  pub needs_shut : is_window_open ms j s t ≡ false → needs_at ms j s u t ≡ 0
  unfolding needs_at
  needs_shut e = rw e refl

  pub wants_shut : is_window_open ms j s t ≡ false → wants_at ms j s u t ≡ 0
  unfolding wants_at
  wants_shut e = rw e refl

  pub wants_begin : since ms j s t ≡ 0 → wants_at ms j s u t ≡ 0
  unfolding wants_at wants
  wants_begin e = ap (λ (x : ℕ). cond (is_read ms j && ltb x ms.window) (wants (10 * s.every) s.size (in_window ms j s u t) x) 0) e ∙ none_either (is_read ms j && ltb 0 ms.window)
    where
      none_either : (b : Bool) → ◌≡◌ {A = ℕ} (cond b 0 0) 0
      none_either true = refl
      none_either false = refl

  pub shut_unread : is_read ms j ≡ false → is_window_open ms j s t ≡ false
  shut_unread r = rw r refl

module _ (ms : Messages) (j : ℕ) (s : Schedule) (ok : Whole s) (n : ℕ) (fit : Fits ms s n)
    (u : ℕ → Bool) (again : (t : ℕ) → u (t + all_periods) ≡ u t) (t : ℕ) (on : Of n (since ms j s t)) where
  abbrev ago : ℕ
  ago = since ms j s t

  abbrev step : ℕ
  step = 10 * s.every

  inside : ago + n ≤ 10 * s.period
  inside = apart n ago (10 * s.period) on fit.periods (since_below ms j s ok t)

  needs_open : is_read ms j ≡ true → ago < ms.window → needs_at ms j s u t ≡ wants step s.size (in_window ms j s u t) ago + begun step s.size ago
  unfolding needs_at wants_at
  needs_open r l = rw (r, lt-ltb ago ms.window l) refl

  shut_late : ms.window ≤ ago → is_window_open ms j s t ≡ false
  shut_late l = rw (le-ltb ago ms.window l) (and_none (is_read ms j))

  -- of the first y subframes of a unit the first that the entry needs go, and the rest is remaining
  pub unit_count : (y : ℕ) → y ≤ n → count (remains ms j s u) t y ≡ count u t y - needs_at ms j s u t
  unit_count y l = by (truth (is_read ms j)) (order ago ms.window)
    where
      none : is_window_open ms j s t ≡ false → count (remains ms j s u) t y ≡ count u t y → count (remains ms j s u) t y ≡ count u t y - needs_at ms j s u t
      none e c = omega (arith, needs_shut ms j s u t e)

      by : (is_read ms j ≡ true) ⊎ (is_read ms j ≡ false) → (ago < ms.window) ⊎ (ms.window ≤ ago) → count (remains ms j s u) t y ≡ count u t y - needs_at ms j s u t
      by (inl r) (inl h) =
          omega (
            arith,
            needs_open r h,
            open_count ms j s ok u again t n inside r (apart n ago ms.window on fit.windows h) (calm n step s.size ago fit.copies on) y l,
          )
      by (inl r) (inr h) = none (shut_late h) (closed_count_lem ms j s ok u again t n inside h y l)
      by (inr r) h = none (shut_unread ms j s u t r) (unread_count ms j s u t y r)

  -- what it wants at the next unit: the rest, while the window lasts
  pub unit_wants : is_read ms j ≡ true → ago + n < ms.window → wants_at ms j s u (t + n) ≡ needs_at ms j s u t - count u t n
  unfolding wants_at
  unit_wants r l =
      let e = since_on ms j s ok t n (omega (arith, fit.long)) in
      rw (r, ap (λ (x : ℕ). ltb x ms.window) e ∙ lt-ltb (ago + n) ms.window l)
      (omega (
        arith,
        needs_open r (omega arith),
        open_wants ms j s ok u again t n inside r (omega arith) (calm n step s.size ago fit.copies on) fit.some (omega (arith, fit.long)),
      ))

  -- and nothing where the window ends, or where another opens
  pub unit_ends : ms.window ≤ ago + n → wants_at ms j s u (t + n) ≡ 0
  unit_ends l = by (order (ago + n) (10 * s.period))
    where
      opened : since ms j s (t + n) ≡ 0 → wants_at ms j s u (t + n) ≡ 0
      opened e = wants_begin ms j s u (t + n) e

      by : (ago + n < 10 * s.period) ⊎ (10 * s.period ≤ ago + n) → wants_at ms j s u (t + n) ≡ 0
      by (inl h) =
          wants_shut ms j s u (t + n)
          (ap (λ (x : ℕ). is_read ms j && ltb x ms.window) (since_on ms j s ok t n h) ∙ ap (λ (b : Bool). is_read ms j && b) (le-ltb (ago + n) ms.window l)
          ∙ and_none (is_read ms j))
      by (inr h) = opened (since_wrap ms j s ok t n (omega (arith, inside)))
