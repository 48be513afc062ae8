-- For the code alone. What the quick code works out on the way.
use Rattle.std.specs.Prelude.{Bool, true, false, cond, ◌≡◌}
use Rattle.std.specs.Prelude.{get_or, ℕ, ◌+◌, ◌-◌, ◌*◌, ◌/◌, ◌%◌, ◌^◌, min, max, ◌<◌, ◌≤◌, eqb, leb}
use Rattle.counting.specs.Counting.{rank}
use Rattle.counting.specs.Scaffold.{Nth}
use Rattle.closures.specs.declared.Closure.{Closure}
use Rattle.closures.specs.declared.Closures.{Closures}
use Rattle.closures.specs.declared.PeriodCount.{PeriodCount}
use Rattle.closures.specs.declared.Nested.{Nested}
use Rattle.closures.specs.declared.Descent.{Descent}
use Rattle.closures.specs.declared.Ascent.{Ascent}
use Rattle.closures.specs.declared.GapPeriod.{GapPeriod}
use Rattle.closures.specs.declared.SearchResult.{SearchResult}
use Rattle.closures.specs.declared.Cycle.{Cycle}
use Rattle.closures.specs.declared.FreeIndex.{FreeIndex}
use Rattle.closures.specs.Closures.{clear, is_free}

-- ---- numbers with which the search can work

pub record Usable (b : Closure) : Type 0 where
  pub some : 0 < b.period
  pub period_small : b.period < 2 ^ 20
  pub phase_small : b.phase < 2 ^ 32
  pub closed_small : b.closed < 2 ^ 32

pub record AllUsable (b : Closures) : Type 0 where
  pub u1 : Usable b.b1
  pub u2 : Usable b.b2
  pub u3 : Usable b.b3
  pub u4 : Usable b.b4

-- of two periods the smaller divides the larger
pub record Chained (b : Closures) : Type 0 where
  pub listed : ℕ → Bool
  pub divides : (p q : ℕ) → listed p ≡ true → listed q ≡ true → p ≤ q → q % p ≡ 0
  pub p1 : listed b.b1.period ≡ true
  pub p2 : listed b.b2.period ≡ true
  pub p3 : listed b.b3.period ≡ true
  pub p4 : listed b.b4.period ≡ true

-- ---- the closures by their periods

-- a closure closes no more than all
abbrev pub capped_of : Closure → Closure
capped_of b = record { period = b.period; phase = b.phase; closed = min b.closed b.period }

unfoldable pub lower_of : Closure → Closure → Closure
lower_of a b = cond (leb a.period b.period) a b

unfoldable pub upper_of : Closure → Closure → Closure
upper_of a b = cond (leb a.period b.period) b a

-- pairs put in order, then their lower and their upper ones, then the two between
unfoldable pub network_of : Closure → Closure → Closure → Closure → Closures
network_of a b c d = record {
  b1 = lower_of (lower_of a b) (lower_of c d);
  b2 = lower_of (upper_of (lower_of a b) (lower_of c d)) (lower_of (upper_of a b) (upper_of c d));
  b3 = upper_of (upper_of (lower_of a b) (lower_of c d)) (lower_of (upper_of a b) (upper_of c d));
  b4 = upper_of (upper_of a b) (upper_of c d);
}

abbrev pub ordered_of : Closures → Closures
ordered_of b = network_of (capped_of b.b1) (capped_of b.b2) (capped_of b.b3) (capped_of b.b4)

-- a period that has what all four have
abbrev pub OneOfTheirs : Closures → ℕ → Type 0
OneOfTheirs b p =
    (test : ℕ → Bool) → test b.b1.period ≡ true → test b.b2.period ≡ true → test b.b3.period ≡ true
    → test b.b4.period ≡ true
    → test p ≡ true

-- each period divides the next one's
pub record Sorted (b : Closures) : Type 0 where
  pub usable : AllUsable b
  pub c1 : b.b1.closed ≤ b.b1.period
  pub c2 : b.b2.closed ≤ b.b2.period
  pub c3 : b.b3.closed ≤ b.b3.period
  pub c4 : b.b4.closed ≤ b.b4.period
  pub d2 : b.b2.period % b.b1.period ≡ 0
  pub d3 : b.b3.period % b.b2.period ≡ 0
  pub d4 : b.b4.period % b.b3.period ≡ 0

-- what each counts, the first one's at 0
abbrev pub count_at : Nested → ℕ → PeriodCount
count_at nested i = get_or nested.counts i (record { shift = 0; per = 0; least = 0 })

-- ---- counting, closure over closure: N counts what the closures below leave, up to a number that does not matter

-- a period has `per` that this closure leaves too; before the period's first of them N is `least`, and N goes on from
-- there
unfoldable pub count_over : Closure → PeriodCount → (ℕ → ℕ) → ℕ → ℕ
count_over b c N t =
    cond (eqb b.closed 0)
    (N t)
    ((t + b.phase) / b.period * c.per + N (max ((t + b.phase) % b.period) b.closed + c.shift))

abbrev pub first : Nested → ℕ → ℕ
first nested = count_over nested.closures.b1 (count_at nested 0) (λ t. t)

abbrev pub second : Nested → ℕ → ℕ
second nested = count_over nested.closures.b2 (count_at nested 1) (first nested)

abbrev pub third : Nested → ℕ → ℕ
third nested = count_over nested.closures.b3 (count_at nested 2) (second nested)

-- how many numbers before t are clear, and a number that does not matter
abbrev pub count_before : Nested → ℕ → ℕ
count_before nested = count_over nested.closures.b4 (count_at nested 3) (third nested)

-- N goes up by one where u passes, and nowhere else
pub record Tracks (u : ℕ → Bool) (N : ℕ → ℕ) : Type 0 where
  pub yes : (t : ℕ) → u t ≡ true → N (t + 1) ≡ N t + 1
  pub no : (t : ℕ) → u t ≡ false → N (t + 1) ≡ N t

-- N goes up by one at most
pub record Slow (N : ℕ → ℕ) : Type 0 where
  pub rises : (t n : ℕ) → N t ≤ N (t + n)
  pub near : (t n : ℕ) → N (t + n) ≤ N t + n

-- what a closure has over N
pub record CountsOver (b : Closure) (N : ℕ → ℕ) (c : PeriodCount) : Type 0 where
  pub shifted : (c.shift + b.phase) % b.period ≡ 0
  pub least : c.least ≡ N (b.closed + c.shift)
  pub per : N (b.period + c.shift) ≡ c.least + c.per

pub record Ranged (b : Closure) (c : PeriodCount) : Type 0 where
  pub usable : Usable b
  pub capped : b.closed ≤ b.period
  pub shift_small : c.shift ≤ b.period
  pub per_small : c.per ≤ b.period

pub record AllRanged (nested : Nested) : Type 0 where
  pub r1 : Ranged nested.closures.b1 (count_at nested 0)
  pub r2 : Ranged nested.closures.b2 (count_at nested 1)
  pub r3 : Ranged nested.closures.b3 (count_at nested 2)
  pub r4 : Ranged nested.closures.b4 (count_at nested 3)

pub record WellNested (nested : Nested) : Type 0 where
  pub sorted : Sorted nested.closures
  pub ranged : AllRanged nested
  pub o1 : 0 < nested.closures.b1.closed → CountsOver nested.closures.b1 (λ t. t) (count_at nested 0)
  pub o2 : 0 < nested.closures.b2.closed → CountsOver nested.closures.b2 (first nested) (count_at nested 1)
  pub o3 : 0 < nested.closures.b3.closed → CountsOver nested.closures.b3 (second nested) (count_at nested 2)
  pub o4 : 0 < nested.closures.b4.closed → CountsOver nested.closures.b4 (third nested) (count_at nested 3)

-- closures nested: they close the same numbers, the longest period is one of theirs, and its clear numbers are counted
pub record NestedOf (b : Closures) (nested : Nested) : Type 0 where
  pub nesting : WellNested nested
  pub same : (t : ℕ) → clear nested.closures t ≡ clear b t
  pub longest : OneOfTheirs b nested.closures.b4.period
  pub counted : nested.clear ≡ rank (clear nested.closures) nested.closures.b4.period

-- one closure on the way down to the first: what it counts, and where N goes on
unfoldable pub descend_of : Closure → PeriodCount → Descent → Descent
descend_of b c m =
    cond (eqb b.closed 0)
    m
    (record {
      at = max ((m.at + b.phase) % b.period) b.closed + c.shift;
      sum = m.sum + (m.at + b.phase) / b.period * c.per;
    })

-- ---- the number at which so many are counted, closure by closure

unfoldable pub ascend_of : Closure → PeriodCount → Ascent → Ascent
ascend_of b c g =
    cond (eqb b.closed 0)
    g
    (record {
      n = g.n - (g.n - c.least) / c.per * c.per;
      add = g.add + (g.n - c.least) / c.per * b.period;
      back = g.back + (c.shift + b.phase);
    })

-- what a step of it needs
pub record CanAscend (b : Closure) (c : PeriodCount) (g : Ascent) : Type 0 where
  pub some : 0 < b.closed → 0 < c.per
  pub least : 0 < b.closed → c.least ≤ g.n
  pub add_small : 0 < b.closed → (g.n - c.least) / c.per * b.period < 2 ^ 50
  pub so_far : g.add < 2 ^ 60
  pub back_small : g.back < 2 ^ 60

-- there is such a number
pub record Reached (nested : Nested) (n : ℕ) : Type 0 where
  pub at : ℕ
  pub small : at < 2 ^ 48
  pub passes : clear nested.closures at ≡ true
  pub here : count_before nested at ≡ n

-- ---- the search

-- a period of a closure begins at t after what it closes
abbrev pub Begins : Closure → ℕ → Type 0
Begins gap t = (t + gap.phase) % gap.period ≡ gap.closed

-- the j-th free number from `at` on lies before `end`, and n is its count
pub record Held (gap : Closure) (nested : Nested) (at end j n : ℕ) : Type 0 where
  pub x : ℕ
  pub inside : x < end
  pub passes : clear nested.closures x ≡ true
  pub count : count_before nested x ≡ n
  pub nth : Nth (is_free gap nested.closures) at j x

-- a period of the gap, or what is left of it before `end`: it is counted as a whole, and each free number of it can
-- be found
pub record GapPeriodAt (gap : Closure) (nested : Nested) (at end : ℕ) (r : GapPeriod) : Type 0 where
  pub some : 0 < r.length
  pub within : at + r.length ≤ end
  pub next : at + r.length < end → Begins gap (at + r.length)
  pub small : r.from < 2 ^ 56
  pub counted : rank (is_free gap nested.closures) at + r.here
      ≡ rank (is_free gap nested.closures) (at + r.length)
  pub held : (j : ℕ) → j < r.here → Held gap nested at (at + r.length) j (r.from + j)

-- among the n numbers from t on: the count of the first free one and the j-th one, if there are so many; else how
-- many are left of the j
pub record Scanned (gap : Closure) (nested : Nested) (t n j : ℕ) (r : SearchResult) : Type 0 where
  pub first : rank (is_free gap nested.closures) t + j < rank (is_free gap nested.closures) (t + n)
      → Held gap nested t (t + n) 0 r.first
  pub found : rank (is_free gap nested.closures) t + j < rank (is_free gap nested.closures) (t + n)
      → Nth (is_free gap nested.closures) t j r.at × (r.at < t + n)
  pub missed : rank (is_free gap nested.closures) (t + n) ≤ rank (is_free gap nested.closures) t + j
      → rank (is_free gap nested.closures) t + j ≡ rank (is_free gap nested.closures) (t + n) + r.left

-- the test repeats with the cycle, whose numbers are counted, and something passes
pub record Repeats (u : ℕ → Bool) (c : Cycle) : Type 0 where
  pub again : (t : ℕ) → u (t + c.length) ≡ u t
  pub free : c.free ≡ rank u c.length
  pub some : 0 < rank u c.length
  pub small : c.length < 2 ^ 27

-- whether t + y passes, and how many from t on do before it
pub record FreeIndexAt (u : ℕ → Bool) (t y : ℕ) (r : FreeIndex) : Type 0 where
  pub says : r.free ≡ u (t + y)
  pub index : rank u t + r.index ≡ rank u (t + y)
