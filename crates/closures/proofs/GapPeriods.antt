-- A period of the fifth closure from where it is open: first all that is clear is free, then nothing is.
use mathlib.Core.Bool.{Bool, true, false}
use mathlib.Core.Path.{◌≡◌, refl, sym, ap, ◌∙◌}
use Prim.Native.Nat.{ℕ, ◌+◌, ◌-◌, ◌%◌, min, ◌^◌, ◌≤◌, ◌<◌}
use native.Mathlib.Nat.{mod-lt, mod-eq_of_lt, mod-add-mod, add-mod_right}
use native.Mathlib.Omega.{arith}
use borrow.Author.Tests.{lt-ltb, le-ltb}
use Rattle.counting.specs.Counting.{rank, select}
use Rattle.counting.specs.Scaffold.{Nth}
use Rattle.counting.proofs.Rank.{rank_count, count_same, rank_none, rank_later}
use Rattle.counting.proofs.Select.{select_within, nth_of}
use Rattle.closures.specs.declared.Closure.{Closure}
use Rattle.closures.specs.declared.Nested.{Nested}
use Rattle.closures.specs.Closures.{is_closed, leaves_open, clear, is_free}
use Rattle.closures.specs.Quick.{WellNested, count_before, Begins, Held, GapPeriodAt}
use Rattle.closures.proofs.Nesting.{counted, before_counts, count_slow}

module _ (gap : Closure) (nested : Nested) (st : WellNested nested) (some : 0 < gap.period) (at : ℕ) (h : Begins gap at) where
  abbrev p : ℕ
  p = gap.period

  abbrev c : ℕ
  c = gap.closed

  abbrev free : ℕ → Bool
  free = is_free gap nested.closures

  abbrev v : ℕ → Bool
  v = clear nested.closures

  abbrev before : ℕ → ℕ
  before = count_before nested

  pub closed_below : c < p
  closed_below = omega (arith, mod-lt (at + gap.phase) some)

  place : (i : ℕ) → (at + i + gap.phase) % p ≡ (c + i) % p
  place i =
      let e : at + i + gap.phase ≡ at + gap.phase + i = omega arith in
      ap (λ (x : ℕ). x % p) e ∙ sym (mod-add-mod (at + gap.phase) p i) ∙ ap (λ (x : ℕ). (x + i) % p) h

  open_in : (i : ℕ) → i + c < p → leaves_open gap (at + i) ≡ true
  unfolding leaves_open is_closed
  open_in i l =
      rw (le-ltb ((at + i + gap.phase) % p) c (omega (arith, place i, mod-eq_of_lt {n = c + i} {m = p} (omega arith)))) refl

  shut_in : (i : ℕ) → p ≤ i + c → i < p → leaves_open gap (at + i) ≡ false
  unfolding leaves_open is_closed
  shut_in i l m =
      let e : c + i ≡ c + i - p + p = omega arith in
      let d : (c + i) % p ≡ c + i - p =
      ap (λ (x : ℕ). x % p) e ∙ add-mod_right (c + i - p) p ∙ mod-eq_of_lt {n = c + i - p} {m = p} (omega (arith, closed_below)) in
      rw (lt-ltb ((at + i + gap.phase) % p) c (omega (arith, place i, d))) refl

  open_free : (i : ℕ) → i + c < p → free (at + i) ≡ v (at + i)
  unfolding is_free
  open_free i l = rw (open_in i l) refl

  shut_free : (i : ℕ) → p ≤ i + c → i < p → free (at + i) ≡ false
  unfolding is_free
  shut_free i l m = rw (shut_in i l m) refl

  -- the first m, while the gap is open
  block_passed : (m : ℕ) → m + c ≤ p → rank free at + before (at + m) ≡ rank free (at + m) + before at
  block_passed m l =
      omega (
        arith,
        rank_count free m at,
        rank_count v m at,
        count_same free v m at at (λ i w. open_free i (omega arith)),
        counted v before (before_counts nested st) at,
        counted v before (before_counts nested st) (at + m),
      )

  -- and the rest of the period
  period_passed : (m len : ℕ) → m ≤ len → len ≤ p → m + c ≤ p → (m < len → m + c ≡ p) → rank free (at + len) ≡ rank free (at + m)
  period_passed m len a b d w =
      let e : at + m + (len - m) ≡ at + len = omega arith in
      ap (rank free) (sym e)
      ∙ rank_none free (at + m) (len - m) (λ i x y.
      let f : at + (i - at) ≡ i = omega arith in
      ap free (sym f) ∙ shut_free (i - at) (omega (arith, w (omega arith))) (omega arith))

  module _ (m len j from : ℕ) (hm : m ≤ len) (hc : m + c ≤ p) (hf : from ≡ before at) (hj : before at + j < before (at + m)) where
    x : ℕ
    x = select v m at j

    within : Nth v at j x
    unfolding x
    within =
        select_within v at m j
        (omega (arith, counted v before (before_counts nested st) at, counted v before (before_counts nested st) (at + m)))

    below : x < at + m
    below =
        rank_later v x (at + m)
        (omega (arith, within.before, counted v before (before_counts nested st) at, counted v before (before_counts nested st) (at + m)))

    on : at + (x - at) ≡ x
    on = omega (arith, within.late)

    pub is_held : Held gap nested at (at + len) j (from + j)
    unfolding is_free
    is_held = record {
      x = x;
      inside = omega (arith, below);
      passes = within.passes;
      count = omega (arith, within.before, counted v before (before_counts nested st) at, counted v before (before_counts nested st) x);
      nth = nth_of free at j x (ap free (sym on) ∙ open_free (x - at) (omega (arith, below, within.late)) ∙ ap v on ∙ within.passes)
          (omega (
            arith,
            block_passed (x - at) (omega (arith, below, within.late)),
            ap (rank free) on,
            ap before on,
            within.before,
            counted v before (before_counts nested st) at,
            counted v before (before_counts nested st) x,
          ));
    }

  -- what the code makes of it
  module _ (end m len from to : ℕ) (le : at < end) (hm : m ≡ min (p - c) (end - at)) (hn : len ≡ min p (end - at)) (hf : from ≡ before at) (ht : to ≡ before (at + m)) (sm : from < 2 ^ 56) where
    fits : (m ≤ len) × (m + c ≤ p) × (len ≤ p) × (m < len → m + c ≡ p)
    fits = (omega (arith, closed_below), omega (arith, closed_below), omega arith, λ w. omega (arith, closed_below))

    pub from_to : from ≤ to
    from_to = omega (arith, (count_slow v before (before_counts nested st)).rises at m)

    pub rounded : GapPeriodAt gap nested at end (record { from = from; here = to - from; length = len })
    rounded = record {
      some = omega (arith, some);
      within = omega arith;
      next = λ w.
          let e : len ≡ p = omega arith in
          let d : at + len + gap.phase ≡ at + gap.phase + p = omega arith in
          ap (λ (y : ℕ). y % p) d ∙ add-mod_right (at + gap.phase) p ∙ h;
      small = sm;
      counted = omega (arith, from_to, block_passed m fits.1, period_passed m len fits.0 fits.2 fits.1 fits.3);
      held = λ j w. is_held m len j from fits.0 fits.1 hf (omega (arith, from_to));
    }
