-- Counting closure over closure: where N counts what the closures below leave, `count_over` counts what the next closure leaves of that; and back from a count to its number.
use mathlib.Core.Bool.{Bool, true, false, not, cond, ◌&&◌}
use Rattle.closures.specs.Quick.{count_at}
use mathlib.Core.Path.{◌≡◌, refl, sym, ap, ap₂, ◌∙◌}
use mathlib.Core.Logic.{⊎_elim}
use Prim.Native.Nat.{ℕ, zero, suc, ◌+◌, ◌-◌, ◌*◌, ◌/◌, ◌%◌, max, ◌^◌, ◌≤◌, ◌<◌}
use native.Mathlib.Nat.{one-mul, add-mul, mod-lt, div-add-mod', add-mul-mod_self_right, mod_self}
use native.Mathlib.Numerals.{add-one}
use native.Mathlib.Omega.{arith}
use lib.Dec.{eqb, ltb, lit<}
use lib.Arith.{digits_div, digits_mod}
use borrow.Author.Tests.{lt-ltb, le-ltb, eq-eqb, ne_eqb}
use mir.Val.{bool_byte}
use Rattle.counting.specs.Counting.{rank}
use Rattle.counting.proofs.Facts.{order, truth, both_parts}
use Rattle.counting.proofs.Rank.{rank_zero, rank_yes, rank_no, rank_mono, rank_strict, rank_not}
use Rattle.counting.proofs.Period.{repeats_times}
use Rattle.closures.specs.declared.Closure.{Closure}
use Rattle.closures.specs.declared.Closures.{Closures}
use Rattle.closures.specs.declared.PeriodCount.{PeriodCount}
use Rattle.closures.specs.declared.Nested.{Nested}
use Rattle.closures.specs.declared.Descent.{Descent}
use Rattle.closures.specs.declared.Ascent.{Ascent}
use Rattle.closures.specs.Closures.{is_closed, leaves_open, clear, idle}
use Rattle.closures.specs.Quick.{count_over, Tracks, Slow, CountsOver, Ranged, Sorted, WellNested, first, second, third, count_before, descend_of, ascend_of, CanAscend}

-- ---- a count and ranks

module _ (u : ℕ → Bool) (N : ℕ → ℕ) (k : Tracks u N) where
  pub counted : (t : ℕ) → N t ≡ N 0 + rank u t
  counted zero = omega (arith, rank_zero u)
  counted (suc t) =
      ⊎_elim
      (λ (h : u t ≡ true). ap N (sym (add-one t)) ∙ omega (arith, k.yes t h, counted t, rank_yes u t h))
      (λ (h : u t ≡ false). ap N (sym (add-one t)) ∙ omega (arith, k.no t h, counted t, rank_no u t h))
      (truth (u t))

  pub count_slow : Slow N
  count_slow = record {
    rises = λ t n. omega (arith, counted t, counted (t + n), rank_mono u t (t + n) (omega arith));
    near = λ t n.
        omega (
          arith,
          counted t,
          counted (t + n),
          rank_not u t,
          rank_not u (t + n),
          rank_mono (λ i. not (u i)) t (t + n) (omega arith),
        );
  }

  -- a number that passes raises the count
  pub count_strict : (s t : ℕ) → u s ≡ true → s < t → N s < N t
  count_strict s t h l = omega (arith, counted s, counted t, rank_strict u s t h l)

-- ---- a closure, and what repeats beside it

pub leaves_again : (b : Closure) (n : ℕ) → n % b.period ≡ 0 → (t : ℕ) → leaves_open b (t + n) ≡ leaves_open b t
unfolding leaves_open is_closed
leaves_again b n h t =
    let q : ℕ = n / b.period in
    let e : t + n + b.phase ≡ t + b.phase + q * b.period = omega (arith, div-add-mod' n b.period) in
    ap (λ (x : ℕ). not (ltb x b.closed)) (ap (λ (x : ℕ). x % b.period) e ∙ add-mul-mod_self_right (t + b.phase) q b.period)

pub idle_leaves : (b : Closure) → b.closed ≡ 0 → (t : ℕ) → leaves_open b t ≡ true
unfolding leaves_open is_closed
idle_leaves b z t = rw (le-ltb ((t + b.phase) % b.period) b.closed (omega arith)) refl

abbrev pub under : (ℕ → Bool) → Closure → ℕ → Bool
under u b t = u t && leaves_open b t

pub whole_again : (u : ℕ → Bool) (p n : ℕ) → ((t : ℕ) → u (t + p) ≡ u t) → n % p ≡ 0 → (t : ℕ) → u (t + n) ≡ u t
whole_again u p n again h t =
    let e : t + n ≡ t + n / p * p = omega (arith, div-add-mod' n p) in
    ap u e ∙ repeats_times u p again (n / p) t

pub under_again : (u : ℕ → Bool) (b : Closure) (n : ℕ) → ((t : ℕ) → u (t + b.period) ≡ u t) → n % b.period ≡ 0 → (t : ℕ) → under u b (t + n) ≡ under u b t
under_again u b n again h t = ap₂ ◌&&◌ (whole_again u b.period n again h t) (leaves_again b n h t)

and_all : (a : Bool) → (a && true) ≡ a
and_all true = refl
and_all false = refl

-- ---- one count-over

module _ (u : ℕ → Bool) (N : ℕ → ℕ) (k : Tracks u N) (b : Closure) (c : PeriodCount) (some : 0 < b.period) (capped : b.closed ≤ b.period)
    (again : (t : ℕ) → u (t + b.period) ≡ u t) where
  raised_idle : b.closed ≡ 0 → (t : ℕ) → count_over b c N t ≡ N t
  unfolding count_over
  raised_idle z t = rw (eq-eqb b.closed 0 z) refl

  module _ (pos : 0 < b.closed) (o : CountsOver b N c) where
    -- where t stands: in period q, at r
    abbrev q : ℕ → ℕ
    q t = (t + b.phase) / b.period

    abbrev r : ℕ → ℕ
    r t = (t + b.phase) % b.period

    abbrev held : ℕ → ℕ → ℕ
    held i j = i * c.per + N (max j b.closed + c.shift)

    pub raised_is : (t : ℕ) → count_over b c N t ≡ held (q t) (r t)
    unfolding count_over
    raised_is t = rw (ne_eqb b.closed 0 (λ e. omega (arith, pos))) refl

    parts : (t : ℕ) → (t + b.phase ≡ q t * b.period + r t) × (r t < b.period)
    parts t = (omega (arith, div-add-mod' (t + b.phase) b.period), mod-lt (t + b.phase) some)

    at_digits : (x i j : ℕ) → x ≡ i * b.period + j → j < b.period → (x / b.period ≡ i) × (x % b.period ≡ j)
    at_digits x i j e h = (ap (λ (y : ℕ). y / b.period) e ∙ digits_div i h, ap (λ (y : ℕ). y % b.period) e ∙ digits_mod i h)

    -- the next number: one further in the period, or at the begin of the next
    on : (t : ℕ) → r t + 1 < b.period → (q (t + 1) ≡ q t) × (r (t + 1) ≡ r t + 1)
    on t h = at_digits (t + 1 + b.phase) (q t) (r t + 1) (omega (arith, (parts t).0)) h

    over : (t : ℕ) → r t + 1 ≡ b.period → (q (t + 1) ≡ q t + 1) × (r (t + 1) ≡ 0)
    over t h = at_digits (t + 1 + b.phase) (q t + 1) 0 (omega (arith, (parts t).0, add-mul (q t) 1 b.period, one-mul b.period)) some

    value : (t i j : ℕ) → q t ≡ i → r t ≡ j → count_over b c N t ≡ held i j
    value t i j hq hr = raised_is t ∙ ap₂ held hq hr

    -- there those below leave what they leave at t
    like : (t : ℕ) → u (r t + c.shift) ≡ u t
    like t =
        let m : ℕ = (c.shift + b.phase) / b.period in
        let e : r t + c.shift + q t * b.period ≡ t + m * b.period =
        omega (arith, (parts t).0, div-add-mod' (c.shift + b.phase) b.period, o.shifted) in
        sym (repeats_times u b.period again (q t) (r t + c.shift)) ∙ ap u e ∙ repeats_times u b.period again m t

    -- the count at j within a period, and where it is full
    at_open : (j : ℕ) → b.closed ≤ j → max j b.closed + c.shift ≡ j + c.shift
    at_open j h = omega arith

    held_open : (i j : ℕ) → b.closed ≤ j → held i j ≡ i * c.per + N (j + c.shift)
    held_open i j h = ap (λ (x : ℕ). i * c.per + N x) (at_open j h)

    held_shut : (i j : ℕ) → j ≤ b.closed → held i j ≡ i * c.per + c.least
    held_shut i j h =
        let e : max j b.closed + c.shift ≡ b.closed + c.shift = omega arith in
        ap (λ (x : ℕ). i * c.per + N x) e ∙ omega (arith, o.least)

    held_next : (i : ℕ) → held (i + 1) 0 ≡ i * c.per + N (b.period + c.shift)
    held_next i = held_shut (i + 1) 0 (omega arith) ∙ omega (arith, o.per, add-mul i 1 c.per, one-mul c.per)

    shut_at : (t : ℕ) → r t < b.closed → leaves_open b t ≡ false
    unfolding leaves_open is_closed
    shut_at t h = rw (lt-ltb (r t) b.closed h) refl

    open_at : (t : ℕ) → b.closed ≤ r t → leaves_open b t ≡ true
    unfolding leaves_open is_closed
    open_at t h = rw (le-ltb (r t) b.closed h) refl

    pub left_open : (t : ℕ) → leaves_open b t ≡ true → b.closed ≤ r t
    left_open t e =
        ⊎_elim (λ (h : r t < b.closed). absurd (omega (arith, ap bool_byte (sym e ∙ shut_at t h)))) (λ (h : b.closed ≤ r t). h) (order (r t) b.closed)

    -- one further on, whichever way: the count at r t + 1 of the same period
    next_value : (t : ℕ) → count_over b c N (t + 1) ≡ q t * c.per + N (max (r t + 1) b.closed + c.shift)
    next_value t =
        ⊎_elim
        (λ (h : r t + 1 < b.period). let n = on t h in value (t + 1) (q t) (r t + 1) n.0 n.1)
        (λ (h : b.period ≤ r t + 1).
        let z : r t + 1 ≡ b.period = omega (arith, (parts t).1) in
        let n = over t z in
        let e : b.period + c.shift ≡ max (r t + 1) b.closed + c.shift = omega arith in
        value (t + 1) (q t + 1) 0 n.0 n.1 ∙ held_next (q t) ∙ ap (λ (x : ℕ). q t * c.per + N x) e)
        (order (r t + 1) b.period)

    open_step : (t : ℕ) → b.closed ≤ r t
        → (count_over b c N t ≡ q t * c.per + N (r t + c.shift)) × (count_over b c N (t + 1) ≡ q t * c.per + N (r t + c.shift + 1))
    open_step t h =
        let e : max (r t + 1) b.closed + c.shift ≡ r t + c.shift + 1 = omega arith in
        (raised_is t ∙ held_open (q t) (r t) h, next_value t ∙ ap (λ (x : ℕ). q t * c.per + N x) e)

    shut_step : (t : ℕ) → r t < b.closed → count_over b c N (t + 1) ≡ count_over b c N t
    shut_step t h =
        let e : max (r t + 1) b.closed + c.shift ≡ max (r t) b.closed + c.shift = omega arith in
        next_value t ∙ ap (λ (x : ℕ). q t * c.per + N x) e ∙ sym (raised_is t)

    busy_yes : (t : ℕ) → under u b t ≡ true → count_over b c N (t + 1) ≡ count_over b c N t + 1
    busy_yes t e =
        let p = both_parts (u t) (leaves_open b t) e in
        let s = open_step t (left_open t p.1) in
        omega (arith, s.0, s.1, k.yes (r t + c.shift) (like t ∙ p.0))

    busy_no : (t : ℕ) → under u b t ≡ false → count_over b c N (t + 1) ≡ count_over b c N t
    busy_no t e =
        ⊎_elim
        (λ (h : r t < b.closed). shut_step t h)
        (λ (h : b.closed ≤ r t).
        let s = open_step t h in
        let v : u t ≡ false = sym (and_all (u t)) ∙ ap (λ (x : Bool). u t && x) (sym (open_at t h)) ∙ e in
        omega (arith, s.0, s.1, k.no (r t + c.shift) (like t ∙ v)))
        (order (r t) b.closed)

    -- ---- back: a number that passes, from its count

    module _ (t : ℕ) (e : under u b t ≡ true) where
      abbrev z : ℕ
      z = r t + c.shift

      is_open_lem : b.closed ≤ r t
      is_open_lem = left_open t (both_parts (u t) (leaves_open b t) e).1

      passes_below : u z ≡ true
      passes_below = like t ∙ (both_parts (u t) (leaves_open b t) e).0

      is_value : count_over b c N t ≡ q t * c.per + N z
      is_value = (open_step t is_open_lem).0

      within : (c.least ≤ N z) × (N z < c.least + c.per)
      within =
          let a : b.closed + c.shift + (r t - b.closed) ≡ z = omega (arith, is_open_lem) in (
            omega (arith, o.least, (count_slow u N k).rises (b.closed + c.shift) (r t - b.closed), ap N a),
            omega (arith, o.per, count_strict u N k z (b.period + c.shift) passes_below (omega (arith, (parts t).1))),
          )

      some_per : 0 < c.per
      some_per = omega (arith, within)

      pub quotient : (count_over b c N t - c.least) / c.per ≡ q t
      quotient =
          let h : N z - c.least < c.per = omega (arith, within) in
          let d : count_over b c N t - c.least ≡ q t * c.per + (N z - c.least) = omega (arith, is_value, within) in
          ap (λ (x : ℕ). x / c.per) d ∙ digits_div (q t) h

  module _ (o : 0 < b.closed → CountsOver b N c) where
    pub raised_counts : Tracks (under u b) (count_over b c N)
    raised_counts =
        ⊎_elim
        (λ (pos : 0 < b.closed). record { yes = busy_yes pos (o pos); no = busy_no pos (o pos) })
        (λ (h : b.closed ≤ 0).
        let n : b.closed ≡ 0 = omega arith in
        let same : (t : ℕ) → under u b t ≡ u t = λ t. ap (λ (x : Bool). u t && x) (idle_leaves b n t) ∙ and_all (u t) in
        record {
          yes = λ t e. raised_idle n (t + 1) ∙ k.yes t (sym (same t) ∙ e) ∙ ap (λ (x : ℕ). x + 1) (sym (raised_idle n t));
          no = λ t e. raised_idle n (t + 1) ∙ k.no t (sym (same t) ∙ e) ∙ sym (raised_idle n t);
        })
        (order 0 b.closed)

-- ---- one step of the way down, of counting and of finding

pub passed : (b : Closure) (c : PeriodCount) (N : ℕ → ℕ) (m : Descent) → (descend_of b c m).sum + N (descend_of b c m).at ≡ m.sum + count_over b c N m.at
unfolding descend_of count_over
passed b c N m = by (eqb b.closed 0)
  where
    by : (x : Bool)
        → (cond x m (record {
          at = max ((m.at + b.phase) % b.period) b.closed + c.shift;
          sum = m.sum + (m.at + b.phase) / b.period * c.per;
        })).sum
        + N (cond x m (record {
          at = max ((m.at + b.phase) % b.period) b.closed + c.shift;
          sum = m.sum + (m.at + b.phase) / b.period * c.per;
        })).at
        ≡ m.sum
        + cond x (N m.at) ((m.at + b.phase) / b.period * c.per + N (max ((m.at + b.phase) % b.period) b.closed + c.shift))
    by true = refl
    by false = omega arith

-- what a step keeps: a number that the closures below leave, with its count, as far off as what was added and taken off says
pub record Lifted (u : ℕ → Bool) (N : ℕ → ℕ) (b : Closure) (c : PeriodCount) (t : ℕ) (g : Ascent) : Type 0 where
  pub at : ℕ
  pub passes : u at ≡ true
  pub count : (ascend_of b c g).n ≡ N at
  pub moved : t + (ascend_of b c g).back + g.add ≡ at + (ascend_of b c g).add + g.back
  pub lifts : g.add < 2 ^ 60 → g.back < 2 ^ 60 → t < 2 ^ 48 → CanAscend b c g
  pub near : t < 2 ^ 48 → at < 2 ^ 48
  pub add_near : t < 2 ^ 48 → (ascend_of b c g).add < g.add + 2 ^ 49
  pub back_near : (ascend_of b c g).back < g.back + 2 ^ 34

module _ (u : ℕ → Bool) (N : ℕ → ℕ) (k : Tracks u N) (b : Closure) (c : PeriodCount) (rg : Ranged b c)
    (again : (t : ℕ) → u (t + b.period) ≡ u t) (t : ℕ) (e : under u b t ≡ true) (g : Ascent) (hg : g.n ≡ count_over b c N t) where
  module _ (pos : 0 < b.closed) (o : CountsOver b N c) where
    abbrev k' : ℕ
    k' = (g.n - c.least) / c.per

    abbrev from : ℕ
    from = (t + b.phase) % b.period + c.shift

    turns : k' ≡ (t + b.phase) / b.period
    turns =
        ap (λ (x : ℕ). (x - c.least) / c.per) hg
        ∙ quotient u N k b c rg.usable.some rg.capped again pos o t e

    lift_is : ascend_of b c g ≡ record { n = g.n - k' * c.per; add = g.add + k' * b.period; back = g.back + (c.shift + b.phase) }
    unfolding ascend_of
    lift_is = rw (ne_eqb b.closed 0 (λ z. omega (arith, pos))) refl

    value_is : g.n ≡ k' * c.per + N from
    value_is =
        hg ∙ is_value u N k b c rg.usable.some rg.capped again pos o t e
        ∙ ap (λ (x : ℕ). x * c.per + N from) (sym turns)

    whole : k' * b.period + (t + b.phase) % b.period ≡ t + b.phase
    whole = ap (λ (x : ℕ). x * b.period + (t + b.phase) % b.period) turns ∙ div-add-mod' (t + b.phase) b.period

    held_within : (c.least ≤ N from) × (N from < c.least + c.per)
    held_within = within u N k b c rg.usable.some rg.capped again pos o t e

    busy : Lifted u N b c t g
    busy = record {
      at = from;
      passes = passes_below u N k b c rg.usable.some rg.capped again pos o t e;
      count = ap (λ (x : Ascent). x.n) lift_is ∙ omega (arith, value_is);
      moved = rw lift_is (omega (arith, whole));
      lifts = λ a d h. record {
        some = λ p. omega (arith, held_within);
        least = λ p. omega (arith, held_within, value_is);
        add_small = λ p. omega (arith, whole, rg.usable.phase_small);
        so_far = a;
        back_small = d;
      };
      near = λ h. omega (arith, mod-lt (t + b.phase) rg.usable.some, rg.usable.period_small, rg.shift_small);
      add_near = λ h. rw lift_is (omega (arith, whole, rg.usable.phase_small));
      back_near = rw lift_is (omega (arith, rg.usable.phase_small, rg.usable.period_small, rg.shift_small));
    }

  module _ (n : b.closed ≡ 0) where
    stays : ascend_of b c g ≡ g
    unfolding ascend_of
    stays = rw (eq-eqb b.closed 0 n) refl

    unlifted : Lifted u N b c t g
    unlifted = record {
      at = t;
      passes = (both_parts (u t) (leaves_open b t) e).0;
      count = ap (λ (x : Ascent). x.n) stays ∙ hg ∙ raised_idle u N k b c rg.usable.some rg.capped again n t;
      moved = rw stays (omega arith);
      lifts = λ a d h. record {
        some = λ p. absurd (omega (arith, n));
        least = λ p. absurd (omega (arith, n));
        add_small = λ p. absurd (omega (arith, n));
        so_far = a;
        back_small = d;
      };
      near = λ h. h;
      add_near = λ h. rw stays (omega arith);
      back_near = rw stays (omega arith);
    }

  pub lifted : (0 < b.closed → CountsOver b N c) → Lifted u N b c t g
  lifted o = ⊎_elim (λ (pos : 0 < b.closed). busy pos (o pos)) (λ (h : b.closed ≤ 0). unlifted (omega arith)) (order 0 b.closed)

-- a closure that closes nothing has nothing to count
pub idle_ranged : Ranged idle (record { shift = 0; per = 0; least = 0 })
idle_ranged = record {
  usable = record { some = lit< tt; period_small = lit< tt; phase_small = lit< tt; closed_small = lit< tt };
  capped = omega arith;
  shift_small = omega arith;
  per_small = omega arith;
}

-- ---- four closures

abbrev pub all : ℕ → Bool
all t = true

pub counts_all : Tracks all (λ t. t)
counts_all = record { yes = λ t e. refl; no = λ t e. absurd (omega (arith, ap bool_byte e)) }

module _ (b : Closures) (so : Sorted b) where
  abbrev pub u1 : ℕ → Bool
  u1 = under all b.b1

  abbrev pub u2 : ℕ → Bool
  u2 = under u1 b.b2

  abbrev pub u3 : ℕ → Bool
  u3 = under u2 b.b3

  abbrev pub u4 : ℕ → Bool
  u4 = under u3 b.b4

  pub again1 : (t : ℕ) → all (t + b.b1.period) ≡ all t
  again1 t = refl

  pub again2 : (t : ℕ) → u1 (t + b.b2.period) ≡ u1 t
  again2 = under_again all b.b1 b.b2.period again1 so.d2

  pub again3 : (t : ℕ) → u2 (t + b.b3.period) ≡ u2 t
  again3 = under_again u1 b.b2 b.b3.period again2 so.d3

  pub again4 : (t : ℕ) → u3 (t + b.b4.period) ≡ u3 t
  again4 = under_again u2 b.b3 b.b4.period again3 so.d4

  module _ (c1 : PeriodCount) (o1 : 0 < b.b1.closed → CountsOver b.b1 (λ t. t) c1) where
    abbrev n1 : ℕ → ℕ
    n1 = count_over b.b1 c1 (λ t. t)

    pub counts1 : Tracks u1 n1
    counts1 = raised_counts all (λ t. t) counts_all b.b1 c1 so.usable.u1.some so.c1 again1 o1

    module _ (c2 : PeriodCount) (o2 : 0 < b.b2.closed → CountsOver b.b2 n1 c2) where
      abbrev n2 : ℕ → ℕ
      n2 = count_over b.b2 c2 n1

      pub counts2 : Tracks u2 n2
      counts2 = raised_counts u1 n1 counts1 b.b2 c2 so.usable.u2.some so.c2 again2 o2

      module _ (c3 : PeriodCount) (o3 : 0 < b.b3.closed → CountsOver b.b3 n2 c3) where
        abbrev n3 : ℕ → ℕ
        n3 = count_over b.b3 c3 n2

        pub counts3 : Tracks u3 n3
        counts3 = raised_counts u2 n2 counts2 b.b3 c3 so.usable.u3.some so.c3 again3 o3

        pub counts4 : (c4 : PeriodCount) → (0 < b.b4.closed → CountsOver b.b4 n3 c4) → Tracks u4 (count_over b.b4 c4 n3)
        counts4 c4 o4 = raised_counts u3 n3 counts3 b.b4 c4 so.usable.u4.some so.c4 again4 o4

  pub clear_four : (t : ℕ) → clear b t ≡ u4 t
  unfolding clear
  clear_four t = grouped (leaves_open b.b1 t && leaves_open b.b2 t) (leaves_open b.b3 t) (leaves_open b.b4 t)
    where
      grouped : (x y z : Bool) → (x && (y && z)) ≡ ((x && y) && z)
      grouped true y z = refl
      grouped false y z = refl

  -- what four closures leave repeats with the longest period
  pub clear_repeats : (t : ℕ) → clear b (t + b.b4.period) ≡ clear b t
  clear_repeats t =
      clear_four (t + b.b4.period)
      ∙ ap₂ ◌&&◌ (again4 t) (leaves_again b.b4 b.b4.period (mod_self b.b4.period) t)
      ∙ sym (clear_four t)

module _ (nested : Nested) (st : WellNested nested) where
  pub before_counts : Tracks (clear nested.closures) (count_before nested)
  before_counts =
      let k = counts4 nested.closures st.sorted (count_at nested 0) st.o1 (count_at nested 1) st.o2 (count_at nested 2) st.o3 (count_at nested 3) st.o4 in
      record {
        yes = λ t e. k.yes t (sym (clear_four nested.closures st.sorted t) ∙ e);
        no = λ t e. k.no t (sym (clear_four nested.closures st.sorted t) ∙ e);
      }

  -- the way from a clear number's count to the number, count-over by count-over
  module _ (t n : ℕ) (e : clear nested.closures t ≡ true) (h : count_before nested t ≡ n) (small : t < 2 ^ 48) where
    abbrev b : Closures
    b = nested.closures

    abbrev so : Sorted nested.closures
    so = st.sorted

    pub lifted4 : Lifted (u3 b so) (third nested) b.b4 (count_at nested 3) t (record { n = n; add = 0; back = 0 })
    lifted4 =
        lifted (u3 b so) (third nested) (counts3 b so (count_at nested 0) st.o1 (count_at nested 1) st.o2 (count_at nested 2) st.o3) b.b4 (count_at nested 3) st.ranged.r4 (again4 b so) t
        (sym (clear_four b so t) ∙ e) _ (sym h) st.o4

    pub ready4 : CanAscend b.b4 (count_at nested 3) (record { n = n; add = 0; back = 0 })
    ready4 = lifted4.lifts (omega arith) (omega arith) small

    module _ (g4 : Ascent) (h4 : g4 ≡ ascend_of b.b4 (count_at nested 3) (record { n = n; add = 0; back = 0 })) where
      near4 : (lifted4.at < 2 ^ 48) × (g4.add < 2 ^ 50) × (g4.back < 2 ^ 35)
      near4 = (
        lifted4.near small,
        omega (arith, ap (λ (g : Ascent). g.add) h4, lifted4.add_near small),
        omega (arith, ap (λ (g : Ascent). g.back) h4, lifted4.back_near),
      )

      pub lifted3 : Lifted (u2 b so) (second nested) b.b3 (count_at nested 2) lifted4.at g4
      lifted3 =
          lifted (u2 b so) (second nested) (counts2 b so (count_at nested 0) st.o1 (count_at nested 1) st.o2) b.b3 (count_at nested 2) st.ranged.r3 (again3 b so) lifted4.at
          lifted4.passes g4 (ap (λ (g : Ascent). g.n) h4 ∙ lifted4.count) st.o3

      pub ready3 : CanAscend b.b3 (count_at nested 2) g4
      ready3 = lifted3.lifts (omega (arith, near4)) (omega (arith, near4)) near4.0

      module _ (g3 : Ascent) (h3 : g3 ≡ ascend_of b.b3 (count_at nested 2) g4) where
        near3 : (lifted3.at < 2 ^ 48) × (g3.add < 2 ^ 51) × (g3.back < 2 ^ 36)
        near3 = (
          lifted3.near near4.0,
          omega (arith, ap (λ (g : Ascent). g.add) h3, lifted3.add_near near4.0, near4),
          omega (arith, ap (λ (g : Ascent). g.back) h3, lifted3.back_near, near4),
        )

        pub lifted2 : Lifted (u1 b so) (first nested) b.b2 (count_at nested 1) lifted3.at g3
        lifted2 =
            lifted (u1 b so) (first nested) (counts1 b so (count_at nested 0) st.o1) b.b2 (count_at nested 1) st.ranged.r2 (again2 b so) lifted3.at
            lifted3.passes g3 (ap (λ (g : Ascent). g.n) h3 ∙ lifted3.count) st.o2

        pub ready2 : CanAscend b.b2 (count_at nested 1) g3
        ready2 = lifted2.lifts (omega (arith, near3)) (omega (arith, near3)) near3.0

        module _ (g2 : Ascent) (h2 : g2 ≡ ascend_of b.b2 (count_at nested 1) g3) where
          near2 : (lifted2.at < 2 ^ 48) × (g2.add < 2 ^ 52) × (g2.back < 2 ^ 37)
          near2 = (
            lifted2.near near3.0,
            omega (arith, ap (λ (g : Ascent). g.add) h2, lifted2.add_near near3.0, near3),
            omega (arith, ap (λ (g : Ascent). g.back) h2, lifted2.back_near, near3),
          )

          pub lifted1 : Lifted all (λ x. x) b.b1 (count_at nested 0) lifted2.at g2
          lifted1 =
              lifted all (λ x. x) counts_all b.b1 (count_at nested 0) st.ranged.r1 (again1 b so) lifted2.at
              lifted2.passes g2 (ap (λ (g : Ascent). g.n) h2 ∙ lifted2.count) st.o1

          pub ready1 : CanAscend b.b1 (count_at nested 0) g2
          ready1 = lifted1.lifts (omega (arith, near2)) (omega (arith, near2)) near2.0

          pub taken_small : (g1 : Ascent) → g1 ≡ ascend_of b.b1 (count_at nested 0) g2 → g1.back < 2 ^ 38
          taken_small g1 h1 = omega (arith, ap (λ (g : Ascent). g.back) h1, lifted1.back_near, near2)

          -- what was added is as far off as what is to be taken off
          pub landed : (g1 : Ascent) → g1 ≡ ascend_of b.b1 (count_at nested 0) g2 → g1.n + g1.add ≡ t + g1.back
          landed g1 h1 =
              omega (
                arith,
                ap (λ (g : Ascent). g.n) h1,
                ap (λ (g : Ascent). g.add) h1,
                ap (λ (g : Ascent). g.back) h1,
                ap (λ (g : Ascent). g.add) h2,
                ap (λ (g : Ascent). g.back) h2,
                ap (λ (g : Ascent). g.add) h3,
                ap (λ (g : Ascent). g.back) h3,
                ap (λ (g : Ascent). g.add) h4,
                ap (λ (g : Ascent). g.back) h4,
                lifted1.count,
                lifted1.moved,
                lifted2.moved,
                lifted3.moved,
                lifted4.moved,
              )
