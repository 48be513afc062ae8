-- The closures of windows: they close exactly the groups that overlap a window, and repeat after 2,560 ms.
use mathlib.Core.Bool.{Bool, true, false, cond, not, ◌&&◌}
use mathlib.Core.Path.{◌≡◌, refl, sym, ap, ap₂, ◌∙◌}
use mathlib.Core.Logic.{◌⊎◌, inl, inr, ⊎_elim}
use Prim.Native.Nat.{ℕ, ◌+◌, ◌-◌, ◌*◌, ◌/◌, ◌%◌, ◌≤◌, ◌<◌}
use native.Mathlib.Nat.{zero-add, mul-zero, div-one}
use native.Mathlib.Omega.{arith}
use lib.Arith.{mod-mul}
use lib.Dec.{ltb, lit<}
use borrow.Author.Tests.{lt-ltb, le-ltb, lt-leb}
use Rattle.counting.specs.Counting.{rank}
use Rattle.counting.proofs.Facts.{order, both_parts}
use Rattle.counting.proofs.Rank.{rank_zero, rank_mono, rank_same}
use Rattle.counting.proofs.Range.{rank_all}
use Rattle.counting.proofs.Period.{rank_split}
use Rattle.closures.specs.declared.Closure.{Closure}
use Rattle.closures.specs.Closures.{is_closed, leaves_open, clear}
use Rattle.closures.specs.declared.Nested.{Nested}
use Rattle.closures.specs.Quick.{Usable, AllUsable, OneOfTheirs, Chained, NestedOf}
use Rattle.closures.proofs.Nesting.{idle_leaves, leaves_again, clear_repeats}
use Rattle.nprach.specs.declared.Window.{Window}
use Rattle.nprach.specs.declared.Windows.{Windows}
use Rattle.nprach.specs.Windows.{is_one_of, units_of_ms, all_periods, is_listed, is_read, are_listed, shares_tone, since_begin, overlaps, meets, is_clear, windows_refusal}
use Rattle.nprach.specs.Scaffold.{reach}
use Rattle.nprach.specs.Quick.{resting, closure_of, closures_of, steps, NestedFor}
use Rattle.nprach.proofs.Listing.{step_divides, whole_periods, Numbers, numbers, listed_1, listed_2, listed_3, listed_4}

-- the closure of a window that concerns the tones
abbrev closing : ℕ → Window → Closure
closing ms w = record {
  period = w.period / ms;
  phase = (all_periods - w.start) / ms;
  closed = (w.length + (units_of_ms * ms - 1)) / (units_of_ms * ms);
}

-- ---- a group is closed exactly if it overlaps the window

-- two tests of one number
same_test : (a b c d : ℕ) → (a < b → c < d) → (c < d → a < b) → ltb a b ≡ ltb c d
same_test a b c d f g =
    ⊎_elim (λ h. lt-ltb a b h ∙ sym (lt-ltb c d (f h)))
    (λ h. le-ltb a b h ∙ sym (le-ltb c d (⊎_elim (λ k. absurd (omega (arith, g k))) (λ k. k) (order c d)))) (order a b)

module _ (w : Window) (n : Numbers w) (u : ℕ) where
  closes_one : is_closed (closing 1 w) u ≡ overlaps 1 w u
  unfolding is_closed overlaps
  closes_one =
      let r : ℕ = (u + (all_periods - w.start)) % w.period in
      let a : (u + (all_periods - w.start) / 1) % (w.period / 1) ≡ r =
      ap₂ (λ (x y : ℕ). (u + x) % y) (div-one (all_periods - w.start)) (div-one w.period) in
      let e : 1 * u + 1 + all_periods - 1 - w.start ≡ u + (all_periods - w.start) = omega (arith, n.start_to) in
      let b : since_begin w (1 * u + 1) ≡ r + 1 = ap (λ (x : ℕ). x % w.period + 1) e in
      same_test ((u + (all_periods - w.start) / 1) % (w.period / 1)) ((w.length + (units_of_ms * 1 - 1)) / (units_of_ms * 1))
      (units_of_ms * since_begin w (1 * u + 1)) (reach 1 w) (λ h. omega (arith, a, b)) (λ h. omega (arith, a, b))

  closes_two : is_closed (closing 2 w) u ≡ overlaps 2 w u
  unfolding is_closed overlaps
  closes_two =
      let x : ℕ = u + (all_periods - w.start) / 2 in
      let p : ℕ = w.period / 2 in
      let ep : w.period ≡ p * 2 = omega (arith, n.even_period) in
      let e : 2 * u + 2 + all_periods - 1 - w.start ≡ 2 * x + 1 = omega (arith, n.start_to, n.even_start) in
      let hp : 0 < p = omega (arith, n.period_from) in
      let d : (2 * x + 1) / 2 ≡ x = omega arith in
      let m : (2 * x + 1) % 2 ≡ 1 = omega arith in
      let b : since_begin w (2 * u + 2) ≡ x % p * 2 + 1 + 1 =
      ap₂ (λ (y z : ℕ). y % z + 1) e ep
      ∙ ap (λ (y : ℕ). y + 1) (mod-mul (2 * x + 1) hp (lit< tt) ∙ ap₂ (λ (y z : ℕ). y % p * 2 + z) d m) in
      same_test (x % p) ((w.length + (units_of_ms * 2 - 1)) / (units_of_ms * 2))
      (units_of_ms * since_begin w (2 * u + 2)) (reach 2 w) (λ h. omega (arith, b)) (λ h. omega (arith, b))

module _ (ms : ℕ) (from : 1 ≤ ms) (to : ms ≤ 2) where
  one_or_two : (ms ≡ 1) ⊎ (ms ≡ 2)
  one_or_two = ⊎_elim (λ h. inl (omega arith)) (λ h. inr (omega arith)) (order ms 2)

  closes : (w : Window) → Numbers w → (u : ℕ) → is_closed (closing ms w) u ≡ overlaps ms w u
  closes w n u =
      ⊎_elim (λ e. rw e (closes_one w n u)) (λ e. rw e (closes_two w n u)) one_or_two

  module _ (a n : ℕ) (read : Bool) (w : Window) (l : read ≡ true → is_listed w ≡ true) where
    concerned : (read && shares_tone a n w) ≡ true → Numbers w
    concerned e = numbers w (l (both_parts read (shares_tone a n w) e).0)

    -- what holds of a closure that closes nothing and of a listed window's holds of every closure
    closure_by : (P : Closure → Type 0) → P (resting ms) → (Numbers w → P (closing ms w)) → P (closure_of ms a n read w)
    unfolding closure_of
    closure_by P i c = by (read && shares_tone a n w) refl
      where
        by : (b : Bool) → (read && shares_tone a n w) ≡ b → P (cond b (closing ms w) (resting ms))
        by true e = c (concerned e)
        by false e = i

    pub closure_usable : Usable (closure_of ms a n read w)
    closure_usable =
        closure_by Usable (⊎_elim (λ e. rw e (record { some = lit< tt; period_small = lit< tt; phase_small = lit< tt; closed_small = lit< tt })) (λ e. rw e (record { some = lit< tt; period_small = lit< tt; phase_small = lit< tt; closed_small = lit< tt })) one_or_two)
        (λ m. ⊎_elim (λ e. rw e (usable_one m)) (λ e. rw e (usable_two m)) one_or_two)
      where
        usable_one : Numbers w → Usable (closing 1 w)
        usable_one m = record {
          some = omega (arith, m.period_from);
          period_small = omega (arith, m.period_to);
          phase_small = omega arith;
          closed_small = omega (arith, m.length_to);
        }

        usable_two : Numbers w → Usable (closing 2 w)
        usable_two m = record {
          some = omega (arith, m.period_from);
          period_small = omega (arith, m.period_to);
          phase_small = omega arith;
          closed_small = omega (arith, m.length_to);
        }

    pub closure_divides : all_periods / ms % (closure_of ms a n read w).period ≡ 0
    closure_divides =
        closure_by (λ b. all_periods / ms % b.period ≡ 0) (⊎_elim (λ e. rw e refl) (λ e. rw e refl) one_or_two)
        (λ m. ⊎_elim (λ e. rw e (ap (λ (x : ℕ). 2560 % x) (div-one w.period) ∙ m.period_all)) (λ e. rw e m.period_half) one_or_two)

    -- so many groups of 8 ms
    pub closure_step : is_one_of (steps (8 / ms)) (closure_of ms a n read w).period ≡ true
    closure_step =
        closure_by (λ b. is_one_of (steps (8 / ms)) b.period ≡ true) (⊎_elim (λ e. rw e refl) (λ e. rw e refl) one_or_two)
        (λ m. ⊎_elim (λ e. rw e m.whole) (λ e. rw e m.half) one_or_two)

    pub closure_leaves : (u : ℕ) → leaves_open (closure_of ms a n read w) u ≡ not (meets ms a n read w u)
    unfolding closure_of leaves_open
    closure_leaves u = by (read && shares_tone a n w) refl
      where
        by : (b : Bool) → (read && shares_tone a n w) ≡ b → not (is_closed (cond b (closing ms w) (resting ms)) u) ≡ not (b && overlaps ms w u)
        by true e = ap not (closes w (concerned e) u)
        by false e = idle_leaves (resting ms) refl u

  -- ---- all four

  module _ (a n : ℕ) (ws : Windows) (l : are_listed ws ≡ true) where
    pub clear_is : (u : ℕ) → clear (closures_of ms a n ws) u ≡ is_clear ms a n ws u
    unfolding clear closures_of is_clear
    clear_is u =
        ap₂ ◌&&◌
        (ap₂ ◌&&◌ (closure_leaves a n (is_read ws 1) ws.w1 (listed_1 ws l) u) (closure_leaves a n (is_read ws 2) ws.w2 (listed_2 ws l) u))
        (ap₂ ◌&&◌ (closure_leaves a n (is_read ws 3) ws.w3 (listed_3 ws l) u) (closure_leaves a n (is_read ws 4) ws.w4 (listed_4 ws l) u))

    pub closures_usable : AllUsable (closures_of ms a n ws)
    unfolding closures_of
    closures_usable = record {
      u1 = closure_usable a n (is_read ws 1) ws.w1 (listed_1 ws l);
      u2 = closure_usable a n (is_read ws 2) ws.w2 (listed_2 ws l);
      u3 = closure_usable a n (is_read ws 3) ws.w3 (listed_3 ws l);
      u4 = closure_usable a n (is_read ws 4) ws.w4 (listed_4 ws l);
    }

    closures_again : (u : ℕ) → clear (closures_of ms a n ws) (u + all_periods / ms) ≡ clear (closures_of ms a n ws) u
    unfolding clear closures_of
    closures_again u =
        ap₂ ◌&&◌
        (ap₂ ◌&&◌ (leaves_again _ _ (closure_divides a n (is_read ws 1) ws.w1 (listed_1 ws l)) u)
        (leaves_again _ _ (closure_divides a n (is_read ws 2) ws.w2 (listed_2 ws l)) u))
        (ap₂ ◌&&◌ (leaves_again _ _ (closure_divides a n (is_read ws 3) ws.w3 (listed_3 ws l)) u)
        (leaves_again _ _ (closure_divides a n (is_read ws 4) ws.w4 (listed_4 ws l)) u))

    -- so what is clear repeats
    pub clear_again : (u : ℕ) → is_clear ms a n ws (u + all_periods / ms) ≡ is_clear ms a n ws u
    clear_again u = sym (clear_is (u + all_periods / ms)) ∙ closures_again u ∙ clear_is u

    -- what the longest of their periods is
    pub closures_longest : (p : ℕ) → OneOfTheirs (closures_of ms a n ws) p → is_one_of (steps (8 / ms)) p ≡ true
    unfolding closures_of
    closures_longest p o =
        o (is_one_of (steps (8 / ms))) (closure_step a n (is_read ws 1) ws.w1 (listed_1 ws l)) (closure_step a n (is_read ws 2) ws.w2 (listed_2 ws l))
        (closure_step a n (is_read ws 3) ws.w3 (listed_3 ws l)) (closure_step a n (is_read ws 4) ws.w4 (listed_4 ws l))

    -- of two of their periods the smaller divides the larger
    pub closures_chained : Chained (closures_of ms a n ws)
    unfolding closures_of
    closures_chained = record {
      listed = is_one_of (steps (8 / ms));
      divides = step_divides (8 / ms) (⊎_elim (λ e. rw e (lit< tt)) (λ e. rw e (lit< tt)) one_or_two);
      p1 = closure_step a n (is_read ws 1) ws.w1 (listed_1 ws l);
      p2 = closure_step a n (is_read ws 2) ws.w2 (listed_2 ws l);
      p3 = closure_step a n (is_read ws 3) ws.w3 (listed_3 ws l);
      p4 = closure_step a n (is_read ws 4) ws.w4 (listed_4 ws l);
    }

    -- the closures nested: some group of the longest period is clear exactly if one of 2,560 ms is
    module _ (nested : Nested) (of : NestedOf (closures_of ms a n ws) nested) where
      abbrev longest : ℕ
      longest = nested.closures.b4.period

      listed : is_one_of (steps (8 / ms)) longest ≡ true
      listed = closures_longest longest of.longest

      same : (u : ℕ) → clear nested.closures u ≡ is_clear ms a n ws u
      same u = of.same u ∙ clear_is u

      whole : rank (is_clear ms a n ws) (all_periods / ms) ≡ all_periods / ms / longest * rank (clear nested.closures) longest
      whole =
          rank_same _ _ (all_periods / ms) (λ i h. sym (same i))
          ∙ omega (
            arith,
            rank_split (clear nested.closures) longest (clear_repeats nested.closures of.nesting.sorted) (all_periods / ms),
            ap (rank (clear nested.closures)) (whole_periods ms longest one_or_two listed).0,
            rank_zero (clear nested.closures),
          )

      some : ltb 0 nested.clear ≡ ltb 0 (rank (is_clear ms a n ws) (all_periods / ms))
      some =
          ⊎_elim
          (λ (h : 0 < nested.clear). lt-ltb 0 nested.clear h
          ∙ sym (lt-ltb 0 (rank (is_clear ms a n ws) (all_periods / ms)) (omega (arith, of.counted, all))))
          (λ (h : nested.clear ≤ 0). le-ltb 0 nested.clear h
          ∙ sym (le-ltb 0 (rank (is_clear ms a n ws) (all_periods / ms))
          (omega (arith, whole, ap (λ (x : ℕ). all_periods / ms / longest * x) (none h), mul-zero (all_periods / ms / longest)))))
          (order 0 nested.clear)
        where
          none : nested.clear ≤ 0 → rank (clear nested.closures) longest ≡ 0
          none h = omega (arith, of.counted)

          all : rank (clear nested.closures) longest ≤ rank (is_clear ms a n ws) (all_periods / ms)
          all =
              omega (
                arith,
                rank_mono (clear nested.closures) longest (all_periods / ms) (whole_periods ms longest one_or_two listed).1,
                rank_same (clear nested.closures) (is_clear ms a n ws) (all_periods / ms) (λ i h. same i),
              )

      pub leveled : NestedFor ms (is_clear ms a n ws) nested
      leveled = record { same = same; nesting = of.nesting; longest = listed; counted = of.counted; some = some }

-- ---- no window

module _ (ms a n : ℕ) (ws : Windows) (z : ws.count ≡ 0) where
  unread : (j : ℕ) → 0 < j → is_read ws j ≡ false
  unread j h = lt-leb j ws.count (omega (arith, z))

  pub none_listed : are_listed ws ≡ true
  unfolding are_listed
  none_listed = rw (unread 1 (lit< tt), unread 2 (lit< tt), unread 3 (lit< tt), unread 4 (lit< tt), z) refl

  pub none_clear : (u : ℕ) → is_clear ms a n ws u ≡ true
  unfolding is_clear
  none_clear u = rw (unread 1 (lit< tt), unread 2 (lit< tt), unread 3 (lit< tt), unread 4 (lit< tt)) refl

  pub none_refused : 1 ≤ ms → ms ≤ 2 → windows_refusal ms a n ws ≡ 0
  unfolding windows_refusal
  none_refused from to = rw (none_listed, lt-ltb 0 (rank (is_clear ms a n ws) (all_periods / ms)) some) refl
    where
      some : 0 < rank (is_clear ms a n ws) (all_periods / ms)
      some =
          let e : 0 + all_periods / ms ≡ all_periods / ms = zero-add (all_periods / ms) in
          let d : 1280 ≤ all_periods / ms = ⊎_elim (λ e. rw e (omega arith)) (λ e. rw e (omega arith)) (one_or_two ms from to) in
          omega (
            arith,
            rank_all (is_clear ms a n ws) 0 (all_periods / ms) (λ i p q. none_clear i),
            ap (rank (is_clear ms a n ws)) e,
          )
