-- How many subcarriers of the first rows are used, in closed form: by tests computed at the listed ports.
use mathlib.Core.Bool.{Bool, true, false, cond, ◌&&◌}
use mathlib.Core.Path.{◌≡◌, refl, sym, ap, subst, ◌∙◌}
use mathlib.Core.Logic.{◌⊎◌, inl, inr, ⊎_elim}
use Prim.Native.Nat.{ℕ, zero, suc, ◌+◌, ◌-◌, ◌*◌, ◌/◌, ◌%◌, ◌^◌, ◌≤◌, ◌<◌}
use native.Mathlib.Nat.{mul-add, mul_comm, div-lt_iff_lt-mul}
use native.Mathlib.Numerals.{add-one}
use native.Mathlib.Omega.{arith}
use lib.Bits.{bit_and}
use lib.Dec.{T, eqb, ltb, leb, eqb→eq, leb→le, ltb→lt}
use mir.Val.{bool_byte}
use borrow.Author.Tests.{lt-ltb, le-ltb, ltb-false, lt-leb, le-leb}
use Rattle.counting.proofs.Facts.{order}
use Rattle.counting.proofs.Rank.{rank_zero}
use Rattle.grid.specs.Grid.{subcarriers, symbols, slots, element_of}
use Rattle.elements.specs.Elements.{ncce_width}
use Rattle.references.specs.Quick.{closed_count}
use Rattle.elements.specs.declared.Layout.{Layout}
use Rattle.elements.specs.declared.Spot.{Spot}
use Rattle.elements.specs.Elements.{control_region, used, number_of}
use Rattle.elements.specs.Scaffold.{Valid, Part}
use Rattle.elements.specs.Quick.{rows, sums_of, byte_of, six_before, free_of, six_in_rows, SpotOf}
use Rattle.elements.proofs.Marked.{listed, listed_at, free_some, row_all}
use Rattle.elements.proofs.Rows.{shut_whole, open_part}

-- ---- one symbol

abbrev few : ℕ → ℕ → ℕ → Bool
few a b l = leb (six_before a b l) 42

few_table : T (listed 8 few)
unfolding six_before sums_of
few_table = tt

abbrev starts : ℕ → ℕ → ℕ → Bool
starts a b l = eqb (six_before a b 0) 0

starts_table : T (listed 1 starts)
unfolding six_before sums_of
starts_table = tt

-- E by two slots and the control region, and in closed form
abbrev closes : ℕ → ℕ → ℕ → Bool
closes a b l = eqb (2 * six_before a b symbols - six_before a b l) (closed_count a b l)

closes_table : T (listed 4 closes)
unfolding six_before sums_of
closes_table = tt

pub six_at : (a b s l : ℕ) → s ≡ sums_of a b → byte_of s l ≡ six_before a b l
unfolding six_before
six_at a b s l e = ap (λ (x : ℕ). byte_of x l) e

module _ (g : Layout) (v : Valid g) where
  abbrev pub six : ℕ → ℕ
  six l = six_before g.nports g.cports l

  abbrev pub free_in : ℕ → ℕ
  free_in l = free_of g.nports g.cports l

  pub six_grows : (l : ℕ) → l < symbols → six (l + 1) ≡ six l + free_in l
  six_grows l h = omega (arith, (free_some g v l h).0)

  pub six_few : (l : ℕ) → l ≤ symbols → six l ≤ 42
  six_few l h = leb→le (six l) 42 (listed_at 8 few few_table g v l (omega arith))

  pub six_none : six 0 ≡ 0
  six_none = eqb→eq (six 0) 0 (listed_at 1 starts starts_table g v 0 (omega arith))

  pub closed : 2 * six symbols - six g.control ≡ closed_count g.nports g.cports g.control
  closed = eqb→eq _ _ (listed_at 4 closes closes_table g v g.control (omega (arith, v.region)))

  pub six_mono : (l m : ℕ) → l ≤ m → m ≤ symbols → six l ≤ six m
  six_mono l zero h k = let e : l ≡ 0 = omega arith in omega (arith, ap six e)
  six_mono l (suc m) h k =
      ⊎_elim (λ a. omega (arith, six_mono l m (omega arith) (omega arith), six_grows m (omega arith), ap six (add-one m)))
      (λ a. let e : l ≡ suc m = omega arith in omega (arith, ap six e)) (order l (suc m))

  -- ---- rows: those of the control region, the rest of the first slot, and the second

  pub rows_none : (n : ℕ) → n < g.control → six_in_rows g n ≡ 0
  unfolding six_in_rows
  rows_none n h = rw (lt-ltb n g.control h) refl

  rows_early : (n : ℕ) → g.control ≤ n → n < symbols → six_in_rows g n ≡ six n - six g.control
  unfolding six_in_rows
  rows_early n h k = rw (le-ltb n g.control h, lt-ltb n symbols k) refl

  pub rows_second : (n : ℕ) → symbols ≤ n → six_in_rows g n ≡ six symbols + six (n - symbols) - six g.control
  unfolding six_in_rows
  rows_second n h = rw (le-ltb n g.control (omega (arith, v.region)), le-ltb n symbols h) refl

  pub rows_first : (n : ℕ) → g.control ≤ n → n ≤ symbols → six_in_rows g n ≡ six n - six g.control
  rows_first n h k =
      ⊎_elim (λ a. rows_early n h a)
      (λ a.
      let e : n ≡ symbols = omega arith in
      let z : n - symbols ≡ 0 = omega arith in
      omega (arith, rows_second n a, ap six e, ap six z, six_none))
      (order n symbols)

  pub rows_zero : six_in_rows g 0 ≡ 0
  rows_zero = ⊎_elim (λ a. rows_none 0 a) (λ a. omega (arith, rows_first 0 a (omega arith), six_none)) (order 0 g.control)

  -- a row that is no control region
  pub row_six : (slot l : ℕ) → slot < slots → l < symbols → control_region g slot l ≡ false
      → (six g.control ≤ slot * six symbols + six l) × (slot * six symbols + six l - six g.control ≡ six_in_rows g (slot * symbols + l))
  row_six zero l hs hl e =
      let c = ltb-false l g.control e in
      let i : 0 * symbols + l ≡ l = omega arith in
      (omega (arith, six_mono g.control l c (omega arith)), omega (arith, rows_first l c (omega arith), ap (six_in_rows g) i))
  row_six (suc zero) l hs hl e =
      let i : 1 * symbols + l - symbols ≡ l = omega arith in (
        omega (arith, six_mono g.control symbols (omega (arith, v.region)) (omega arith)),
        omega (arith, rows_second (1 * symbols + l) (omega arith), ap six i),
      )
  row_six (suc (suc n)) l hs hl e = absurd (omega arith)

  abbrev row_free : ℕ → ℕ
  row_free n = cond (control_region g (n / symbols) (n % symbols)) 0 (free_in (n % symbols))

  rows_step : (n : ℕ) → n < rows → six_in_rows g (n + 1) ≡ six_in_rows g n + row_free n
  rows_step n h = ⊎_elim (λ a. ⊎_elim (closed a) (started a) (order n g.control)) second (order n symbols)
    where
      closed : n < symbols → n < g.control → six_in_rows g (n + 1) ≡ six_in_rows g n + row_free n
      closed a b =
          let s : n / symbols ≡ 0 = omega arith in
          let m : n % symbols ≡ n = omega arith in
          let z : row_free n ≡ 0 = rw (s, m, lt-ltb n g.control b) refl in
          ⊎_elim (λ k. omega (arith, rows_none n b, rows_none (n + 1) k))
          (λ k. let e : n + 1 ≡ g.control = omega arith in omega (arith, rows_none n b, rows_first (n + 1) k (omega arith), ap six e))
          (order (n + 1) g.control)

      started : n < symbols → g.control ≤ n → six_in_rows g (n + 1) ≡ six_in_rows g n + row_free n
      started a b =
          let s : n / symbols ≡ 0 = omega arith in
          let m : n % symbols ≡ n = omega arith in
          let z : row_free n ≡ free_in n = rw (s, m, le-ltb n g.control b) refl in
          omega (arith, rows_first n b (omega arith), rows_first (n + 1) (omega arith) (omega arith), six_grows n a, six_mono g.control n b (omega arith))

      second : symbols ≤ n → six_in_rows g (n + 1) ≡ six_in_rows g n + row_free n
      second a =
          let s : n / symbols ≡ 1 = omega arith in
          let m : n % symbols ≡ n - symbols = omega arith in
          let e : n + 1 - symbols ≡ n - symbols + 1 = omega arith in
          let z : row_free n ≡ free_in (n - symbols) = rw (s, m) refl in
          omega (
            arith,
            rows_second n a,
            rows_second (n + 1) (omega arith),
            ap six e,
            six_grows (n - symbols) (omega arith),
            six_mono g.control symbols (omega (arith, v.region)) (omega arith),
          )

-- ---- the used elements of the first rows

module _ (g : Layout) (v : Valid g) (from width : ℕ) (p : Part from width) where
  row_count : (n : ℕ) → n < rows → number_of g from width (subcarriers * (n + 1)) ≡ number_of g from width (subcarriers * n) + width / ncce_width * row_free g v n
  row_count n h = sym (ap (number_of g from width) next) ∙ by (control_region g (n / symbols) (n % symbols)) refl ∙ ap (λ (x : ℕ). number_of g from width x + width / ncce_width * row_free g v n) this
    where
      hs : n / symbols < slots
      hs = omega arith

      hl : n % symbols < symbols
      hl = omega arith

      this : element_of (n / symbols) (n % symbols) 0 ≡ subcarriers * n
      this = omega arith

      next : element_of (n / symbols) (n % symbols) subcarriers ≡ subcarriers * (n + 1)
      next = omega arith

      by : (r : Bool) → control_region g (n / symbols) (n % symbols) ≡ r
          → number_of g from width (element_of (n / symbols) (n % symbols) subcarriers)
          ≡ number_of g from width (element_of (n / symbols) (n % symbols) 0) + width / ncce_width * cond r 0 (free_in g v (n % symbols))
      by true e = omega (arith, shut_whole g from width (n / symbols) (n % symbols) hs hl e)
      by false e =
          let f = free_some g v (n % symbols) hl in
          omega (
            arith,
            open_part g from width (n / symbols) (n % symbols) hs hl v e subcarriers (omega arith),
            row_all from width p g.v (n % symbols) (free_in g v (n % symbols)) v.shift f.0 f.1,
          )

  pub rows_counted : (n : ℕ) → n ≤ rows → number_of g from width (subcarriers * n) ≡ width / ncce_width * six_in_rows g n
  rows_counted zero h = omega (arith, rank_zero (used g from width), ap (λ (x : ℕ). width / ncce_width * x) (rows_zero g v))
  rows_counted (suc n) h =
      omega (
        arith,
        rows_counted n (omega arith),
        row_count n (omega arith),
        ap (λ (x : ℕ). width / ncce_width * x) (rows_step g v n (omega arith)),
        mul-add (width / ncce_width) (six_in_rows g n) (row_free g v n),
        ap (λ (x : ℕ). width / ncce_width * six_in_rows g x) (add-one n),
        ap (λ (x : ℕ). number_of g from width (subcarriers * x)) (add-one n),
      )

-- ---- finding the row

-- a number in bytes 1 to 6, and their highest digits
abbrev pub once : ℕ
once = 0x0001010101010100

abbrev pub highest : ℕ
highest = 0x0080808080808000

abbrev pub passed_of : ℕ → ℕ → ℕ
passed_of s y = bit_and (y * once + highest - s % 2 ^ 56) highest / 2 ^ 15

abbrev pub two_of : ℕ → ℕ
two_of p = p + p / 2 ^ 24

abbrev pub symbol_with : ℕ → ℕ → ℕ
symbol_with s y = (two_of (passed_of s y) + two_of (passed_of s y) / 2 ^ 8 + two_of (passed_of s y) / 2 ^ 16) % 8

abbrev lies : ℕ → ℕ → ℕ → ℕ → Bool
lies a b y l = ltb l symbols && (leb (six_before a b l) y && ltb y (six_before a b (l + 1)))

abbrev found : ℕ → ℕ → ℕ → Bool
found a b y = cond (ltb y (six_before a b symbols)) (lies a b y (symbol_with (sums_of a b) y)) true

found_table : T (listed 42 found)
unfolding six_before sums_of
found_table = tt

abbrev low : ℕ → ℕ → ℕ → Bool
low a b i = leb (sums_of a b % 2 ^ 56) highest

low_table : T (listed 1 low)
unfolding sums_of
low_table = tt

pub bytes_low : (g : Layout) → Valid g → sums_of g.nports g.cports % 2 ^ 56 ≤ highest
bytes_low g v = leb→le (sums_of g.nports g.cports % 2 ^ 56) highest (listed_at 1 low low_table g v 0 (omega arith))

three : (a b c : Bool) → T (a && (b && c)) → T a × T b × T c
three true true true t = (tt, tt, tt)
three true true false t = absurd t
three true false c t = absurd t
three false b c t = absurd t

pub record Lies (g : Layout) (y l : ℕ) : Type 0 where
  pub inside : l < symbols
  pub from : six_before g.nports g.cports l ≤ y
  pub below : y < six_before g.nports g.cports (l + 1)

pub symbol_found : (g : Layout) → Valid g → (y : ℕ) → y < six_before g.nports g.cports symbols → Lies g y (symbol_with (sums_of g.nports g.cports) y)
symbol_found g v y h =
    let a = g.nports in
    let b = g.cports in
    let l = symbol_with (sums_of a b) y in
    let t : T (found a b y) = listed_at 42 found found_table g v y (omega (arith, six_few g v symbols (omega arith))) in
    let s : T (lies a b y l) = subst (λ (x : Bool). T (cond x (lies a b y l) true)) (lt-ltb y (six_before a b symbols) h) t in
    let r = three (ltb l symbols) (leb (six_before a b l) y) (ltb y (six_before a b (l + 1))) s in
    record {
      inside = ltb→lt l symbols r.0;
      from = leb→le (six_before a b l) y r.1;
      below = ltb→lt y (six_before a b (l + 1)) r.2;
    }

module _ (g : Layout) (v : Valid g) (q slot l y whole z start : ℕ) (hy : y ≡ q + six g v g.control) (hw : whole ≡ six g v symbols)
    (hs : slot ≡ bool_byte (leb whole y)) (hz : z ≡ y - whole * slot) where
  -- q lies in the first slot, or in the second
  halves : ((y < whole) × (slot ≡ 0) × (z ≡ y)) ⊎ ((whole ≤ y) × (slot ≡ 1) × (z ≡ y - whole))
  halves =
      ⊎_elim
      (λ h.
      let e : slot ≡ 0 = hs ∙ ap bool_byte (lt-leb whole y h) in
      inl (h, e, omega (arith, hz, ap (λ (x : ℕ). whole * x) e)))
      (λ h.
      let e : slot ≡ 1 = hs ∙ ap bool_byte (le-leb whole y h) in
      inr (h, e, omega (arith, hz, ap (λ (x : ℕ). whole * x) e)))
      (order y whole)

  pub past_first : q < six_in_rows g rows → z < six g v symbols
  past_first h = ⊎_elim (λ a. omega (arith, a.0, a.2)) (λ a. omega (arith, a.2, rows_second g v rows (omega arith))) halves

  pub spot : start ≡ six g v l → Lies g z l → SpotOf g q (record { slot = slot; l = l; rest = z - start })
  spot ht s = ⊎_elim first second halves
    where
      late : z ≡ y → g.control ≤ l
      late e =
          ⊎_elim (λ a. absurd (omega (arith, s.below, six_mono g v (l + 1) g.control (omega arith) (omega (arith, v.region))))) (λ a. a)
          (order l g.control)

      first : (y < whole) × (slot ≡ 0) × (z ≡ y) → SpotOf g q (record { slot = slot; l = l; rest = z - start })
      first a =
          let e = a.1 in
          let i = s.inside in
          let f = s.from in
          let c = late a.2 in
          let m : slot * symbols + l ≡ l = omega arith in
          let n : slot * symbols + l + 1 ≡ l + 1 = omega arith in
          record {
            slot = omega arith;
            symbol = i;
            reached = omega (arith, a.2, ap (six_in_rows g) m, rows_first g v l c (omega arith), six_mono g v g.control l c (omega arith));
            below = omega (arith, a.2, s.below, ap (six_in_rows g) n, rows_first g v (l + 1) (omega arith) (omega arith));
          }

      second : (whole ≤ y) × (slot ≡ 1) × (z ≡ y - whole) → SpotOf g q (record { slot = slot; l = l; rest = z - start })
      second a =
          let e = a.1 in
          let i = s.inside in
          let f = s.from in
          let m : slot * symbols + l - symbols ≡ l = omega arith in
          let n : slot * symbols + l + 1 - symbols ≡ l + 1 = omega arith in
          let c = six_mono g v g.control symbols (omega (arith, v.region)) (omega arith) in
          record {
            slot = omega arith;
            symbol = i;
            reached = omega (arith, a.0, a.2, rows_second g v (slot * symbols + l) (omega arith), ap (six g v) m);
            below = omega (arith, a.0, a.2, s.below, rows_second g v (slot * symbols + l + 1) (omega arith), ap (six g v) n);
          }

-- such a row is no control region
module _ (g : Layout) (v : Valid g) (q : ℕ) (s : Spot) (r : SpotOf g q s) where
  pub spot_open : (control_region g s.slot s.l ≡ false) × (s.rest < free_in g v s.l)
  spot_open = by (control_region g s.slot s.l) refl
    where
      m : (s.slot * symbols + s.l) / symbols ≡ s.slot
      m = omega (arith, r.symbol)

      n : (s.slot * symbols + s.l) % symbols ≡ s.l
      n = omega (arith, r.symbol)

      step : six_in_rows g (s.slot * symbols + s.l + 1) ≡ six_in_rows g (s.slot * symbols + s.l) + cond (control_region g s.slot s.l) 0 (free_in g v s.l)
      step = rows_step g v (s.slot * symbols + s.l) (omega (arith, r.slot, r.symbol)) ∙ (rw (m, n) refl)

      by : (b : Bool) → control_region g s.slot s.l ≡ b → (control_region g s.slot s.l ≡ false) × (s.rest < free_in g v s.l)
      by true e =
          let t : cond (control_region g s.slot s.l) 0 (free_in g v s.l) ≡ 0 = rw e refl in
          absurd (omega (arith, step, r.reached, r.below))
      by false e =
          let t : cond (control_region g s.slot s.l) 0 (free_in g v s.l) ≡ free_in g v s.l = rw e refl in
          (e, omega (arith, step, r.reached, r.below))

-- ---- over one NCCE or two

pub record Over (n q e base rest free j : ℕ) : Type 0 where
  pub fits : n * q ≤ e
  pub reached : n * base + j ≡ e
  pub below : j < n * free

pub over : (n q e base rest free j : ℕ) → 0 < n → n ≤ 2 → q ≡ e / n → base + rest ≡ q → rest < free → j ≡ n * rest + (e - n * q) → Over n q e base rest free j
over zero q e base rest free j h k d r l f = absurd (omega arith)
over (suc zero) q e base rest free j h k d r l f = record { fits = omega arith; reached = omega arith; below = omega arith }
over (suc (suc zero)) q e base rest free j h k d r l f = record { fits = omega arith; reached = omega arith; below = omega arith }
over (suc (suc (suc n))) q e base rest free j h k d r l f = absurd (omega arith)

pub under : (k b e q : ℕ) → 0 < k → q ≡ e / k → e < k * b → q < b
under k b e q h f l = omega (arith, (div-lt_iff_lt-mul {k = k} {x = e} {y = b} h).1 (omega (arith, mul_comm b k)))

pub some_ncces : (from width : ℕ) → Part from width → 0 < width / ncce_width
some_ncces from width p = omega (arith, p.whole, p.some)
