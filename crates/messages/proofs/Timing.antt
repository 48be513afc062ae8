-- One entry in time: where its windows stand, that what it leaves repeats, and what it leaves of a stretch in which nothing of it begins or ends.
use mathlib.Core.Bool.{Bool, true, false}
use mathlib.Core.Path.{◌≡◌, refl, sym, ap, ap₂, ◌∙◌, fun_ext}
use Prim.Native.Nat.{ℕ, ◌+◌, ◌-◌, ◌*◌, ◌/◌, ◌%◌, ◌≤◌, ◌<◌}
use native.Mathlib.Nat.{mod-lt, add-mul-mod_self_right, div-add-mod', add-mul, zero-mod}
use native.Mathlib.Omega.{arith}
use lib.Arith.{digits_mod}
use lib.Dec.{ltb}
use borrow.Author.Tests.{lt-ltb, le-ltb}
use Rattle.counting.specs.Counting.{count}
use Rattle.counting.proofs.Rank.{rank_count, count_same}
use Rattle.counting.proofs.Range.{and_none}
use Rattle.messages.specs.declared.Schedule.{Schedule}
use Rattle.messages.specs.declared.Messages.{Messages}
use Rattle.messages.specs.Messages.{begun, wants, all_periods, opens_at, since, in_window, is_read, remains}
use Rattle.messages.proofs.Queue.{and_true, untaken, wants_then, untaken_on}

-- whole periods of the entry make 4,096 frames
pub record Whole (s : Schedule) : Type 0 where
  pub some : 0 < s.period
  pub turns : ℕ
  pub whole : turns * (10 * s.period) ≡ all_periods
  pub within : 10 * s.period ≤ all_periods

-- an entry that is not read takes nothing
module _ (ms : Messages) (j : ℕ) (s : Schedule) (u : ℕ → Bool) where
  pub unread_remains : is_read ms j ≡ false → (t : ℕ) → remains ms j s u t ≡ u t
  unfolding remains
  unread_remains r t = rw r (and_true (u t))

  pub unread_count : (t y : ℕ) → is_read ms j ≡ false → count (remains ms j s u) t y ≡ count u t y
  unread_count t y r = count_same (remains ms j s u) u y t t (λ i h. unread_remains r (t + i))

module _ (ms : Messages) (j : ℕ) (s : Schedule) (ok : Whole s) where
  opens_early : 10 * opens_at ms j s ≤ all_periods
  opens_early = omega (arith, ok.within, mod-lt ((j - 1) * (ms.window / 10) + ms.offset) ok.some)

  pub since_below : (t : ℕ) → since ms j s t < 10 * s.period
  unfolding since
  since_below t = mod-lt (t + all_periods - 10 * opens_at ms j s) (omega (arith, ok.some))

  -- it repeats after whole periods of the entry
  pub since_again : (q t : ℕ) → since ms j s (t + q * (10 * s.period)) ≡ since ms j s t
  unfolding since
  since_again q t =
      let e : t + q * (10 * s.period) + all_periods - 10 * opens_at ms j s ≡ t + all_periods - 10 * opens_at ms j s + q * (10 * s.period) = omega (arith, opens_early) in
      ap (λ (x : ℕ). x % (10 * s.period)) e ∙ add-mul-mod_self_right (t + all_periods - 10 * opens_at ms j s) q (10 * s.period)

  -- and goes on by ones up to the next opening
  pub since_on : (t y : ℕ) → since ms j s t + y < 10 * s.period → since ms j s (t + y) ≡ since ms j s t + y
  unfolding since
  since_on t y h =
      let z : ℕ = t + all_periods - 10 * opens_at ms j s in
      let e : t + y + all_periods - 10 * opens_at ms j s ≡ z / (10 * s.period) * (10 * s.period) + (z % (10 * s.period) + y) =
      omega (arith, opens_early, div-add-mod' z (10 * s.period)) in
      ap (λ (x : ℕ). x % (10 * s.period)) e ∙ digits_mod (z / (10 * s.period)) h

  -- where the next window opens
  pub since_wrap : (t n : ℕ) → since ms j s t + n ≡ 10 * s.period → since ms j s (t + n) ≡ 0
  unfolding since
  since_wrap t n h =
      let z : ℕ = t + all_periods - 10 * opens_at ms j s in
      let M : ℕ = 10 * s.period in
      let e : t + n + all_periods - 10 * opens_at ms j s ≡ 0 + (z / M + 1) * M =
      omega (arith, opens_early, div-add-mod' z M, add-mul (z / M) 1 M, h) in
      ap (λ (x : ℕ). x % M) e ∙ add-mul-mod_self_right 0 (z / M + 1) M ∙ zero-mod M

  module _ (u : ℕ → Bool) where
    -- ---- what an entry leaves repeats wherever u does

    module _ (P q : ℕ) (turns : q * (10 * s.period) ≡ P) (again : (t : ℕ) → u (t + P) ≡ u t) where
      since_repeats : (t : ℕ) → since ms j s (t + P) ≡ since ms j s t
      since_repeats t = ap (λ (x : ℕ). since ms j s (t + x)) (sym turns) ∙ since_again q t

      window_repeats : (t : ℕ) → in_window ms j s u (t + P) ≡ in_window ms j s u t
      unfolding in_window
      window_repeats t = fun_ext λ x.
          let ago : ℕ = since ms j s t in
          let e : t + P + all_periods - ago + x ≡ t + all_periods - ago + x + P = omega (arith, since_below t, ok.within) in
          ap (λ (y : ℕ). u (t + P + all_periods - y + x)) (since_repeats t) ∙ ap u e ∙ again (t + all_periods - ago + x)

      pub remains_repeats : (t : ℕ) → remains ms j s u (t + P) ≡ remains ms j s u t
      unfolding remains
      remains_repeats t = rw (again t, since_repeats t, window_repeats t) refl

    -- ---- a stretch of n subframes from t on, inside one window or outside

    module _ (again : (t : ℕ) → u (t + all_periods) ≡ u t) (t n : ℕ) where
      abbrev ago : ℕ
      ago = since ms j s t

      abbrev step : ℕ
      step = 10 * s.every

      abbrev free : ℕ → Bool
      free = in_window ms j s u t

      same_window : (y : ℕ) → ago + y < 10 * s.period → in_window ms j s u (t + y) ≡ free
      unfolding in_window
      same_window y h = fun_ext λ x.
          let e : t + y + all_periods - (ago + y) + x ≡ t + all_periods - ago + x = omega (arith, since_below t, ok.within) in
          ap (λ (z : ℕ). u (t + y + all_periods - z + x)) (since_on t y h) ∙ ap u e

      at_free : (y : ℕ) → free (ago + y) ≡ u (t + y)
      unfolding in_window
      at_free y =
          let e : t + all_periods - ago + (ago + y) ≡ t + y + all_periods = omega (arith, since_below t, ok.within) in
          ap u e ∙ again (t + y)

      count_free : (y : ℕ) → count free ago y ≡ count u t y
      count_free y = count_same free u y ago t (λ i l. at_free i)

      module _ (fits : ago + n ≤ 10 * s.period) where
        -- outside its windows an entry takes nothing
        closed_at : ms.window ≤ ago → (y : ℕ) → y < n → remains ms j s u (t + y) ≡ u (t + y)
        unfolding remains
        closed_at c y l =
            let e = since_on t y (omega arith) in
            let f : ltb (ago + y) ms.window ≡ false = le-ltb (ago + y) ms.window (omega arith) in
            rw (e, f, and_none (is_read ms j)) (and_true (u (t + y)))

        pub closed_count_lem : ms.window ≤ ago → (y : ℕ) → y ≤ n → count (remains ms j s u) t y ≡ count u t y
        closed_count_lem c y l = count_same (remains ms j s u) u y t t (λ i h. closed_at c i (omega arith))

        -- inside one, what no copy wants
        module _ (read : is_read ms j ≡ true) (inside : ago + n ≤ ms.window) where
          open_at : (y : ℕ) → y < n → remains ms j s u (t + y) ≡ untaken step s.size free (ago + y)
          unfolding remains
          open_at y l =
              let e = since_on t y (omega arith) in
              let f : ltb (ago + y) ms.window ≡ true = lt-ltb (ago + y) ms.window (omega arith) in
              rw (read, same_window y (omega arith), e, f, ← at_free y) refl

          pub open_untaken : (y : ℕ) → y ≤ n → count (remains ms j s u) t y ≡ count (untaken step s.size free) ago y
          open_untaken y l = count_same (remains ms j s u) (untaken step s.size free) y t ago (λ i h. open_at i (omega arith))

          module _ (calm : (i : ℕ) → 0 < i → i < n → begun step s.size (ago + i) ≡ 0) where
            -- what it needs here, with the copy that begins here
            abbrev pub needs : ℕ
            needs = wants step s.size free ago + begun step s.size ago

            -- the first so many free ones go, the rest is remaining
            pub open_count : (y : ℕ) → y ≤ n → count (remains ms j s u) t y ≡ count u t y - needs
            open_count y l =
                open_untaken y l
                ∙ omega (
                  arith,
                  rank_count (untaken step s.size free) y ago,
                  untaken_on step s.size free ago n calm y l,
                  rank_count free y ago,
                  count_free y,
                )

            -- and what it needs after the stretch, before another copy begins
            pub open_wants : 0 < n → ago + n < 10 * s.period
                → wants step s.size (in_window ms j s u (t + n)) (since ms j s (t + n)) ≡ needs - count u t n
            open_wants h l =
                ap₂ (wants step s.size) (same_window n l) (since_on t n l)
                ∙ omega (arith, wants_then step s.size free ago n calm h, rank_count free n ago, count_free n)
