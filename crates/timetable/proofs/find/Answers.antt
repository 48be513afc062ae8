use mathlib.Core.Bool.{true}
use mathlib.Core.Path.{◌≡◌, refl, sym, ap, subst, ◌∙◌}
use Prim.Native.Nat.{ℕ, ◌+◌, ◌-◌, ◌*◌, ◌/◌, ◌^◌, ◌≤◌, ◌<◌}
use native.Mathlib.Nat.{mul-le-mul, mul-le-mul_left, zero-mul}
use native.Mathlib.Omega.{arith}
use Rattle.counting.specs.Counting.{rank}
use Rattle.counting.proofs.Rank.{rank_le}
use Rattle.spans.specs.Pattern.{allows, Regular}
use Rattle.messages.specs.declared.Messages.{Messages}
use Rattle.messages.specs.Messages.{remaining}
use Rattle.units.specs.declared.Sight.{Sight}
use Rattle.units.specs.Quick.{Sized, Serves, Exact}
use Rattle.units.specs.declared.Timetable.{Timetable}
use Rattle.spans.specs.declared.Pattern.{Pattern}
use Rattle.timetable.specs.Quick.{moved, Scanned, Sighted}
use Rattle.timetable.proofs.Searching.{passed, found_early, whole_again}
use Rattle.timetable.proofs.find.Goals.{After-reach}
use Rattle.timetable.proofs.find.Goals as goal

-- ---- in one period

pub returns-then-once-end : goal.returns-then-once-end
returns-then-once-end c =
    let a = c.args in
    let e = c.reach-once.ensures in (
      e.1,
      c.if-once-end.true,
      e.3 c.if-once-end.true,
      omega arith,
      (λ ms S X.
          let C = e.4 ms S X in
          let Q : ℕ = a.table.unit * a.table.units in
          let R : ℕ = rank (remaining ms (allows a.p)) Q in
          record {
            exact = C.exact;
            here = C.here refl c.if-once-end.true;
            turns = 0;
            later = sym (zero-mul Q);
            same = omega (arith, C.same, zero-mul R);
          }),
      e.5,
    )

-- ---- a whole period was passed

module _ (table : Timetable) (p : Pattern) (reg : Regular p) (Z : Sized table) (s once : Sight) (j : ℕ) (ends : once.n ≡ s.n + table.units)
    (scanned : (ms : Messages) → Serves ms table → Exact ms (allows p) table s.n s.wants → Scanned ms (allows p) table (moved s j) (s.n + table.units) true once) where
  -- the difference is what a period has, for any messages that have the table
  whole : (ms : Messages) (S : Serves ms table) → Exact ms (allows p) table s.n s.wants → s.k + j ≡ rank (remaining ms (allows p)) (table.unit * table.units) + once.k
  whole ms S X = passed ms p reg table S (moved s j) once (s.n + table.units) (scanned ms S X) ends

  known : Sighted table (allows p) s.n s.wants → (0 < s.k + j - once.k) × (s.k + j - once.k ≤ 40960)
  known F =
      let e = whole F.ms F.serves F.exact in
      (omega (arith, e, F.some), omega (arith, e, rank_le (remaining F.ms (allows p)) (table.unit * table.units), Z.all))

pub quotient-whole-requires : goal.quotient-whole-requires
quotient-whole-requires c =
    let a = c.args in
    let e = c.reach-once.ensures in
    let k = known a.table a.p c.requires.1.regular c.requires.0 a.s c.reach-once.result a.j (omega (arith, e.0, c.if-once-end.false)) e.4 c.requires.6 in
    (omega (arith, e.2, c.requires.4, c.requires.5), k.0, omega (arith, k.1))

module _ (c : After-reach) where
  abbrev k : ℕ
  k = c.args.s.k + c.args.j

  abbrev left : ℕ
  left = c.reach-once.result.k

  abbrev q : ℕ
  q = c.quotient-whole.result

  ends : c.reach-once.result.n ≡ c.args.s.n + c.args.table.units
  ends = omega (arith, c.reach-once.ensures.0, c.if-once-end.false)

  some : (0 < k - left) × (k - left ≤ 40960)
  some = known c.args.table c.args.p c.requires.1.regular c.requires.0 c.args.s c.reach-once.result c.args.j ends c.reach-once.ensures.4 c.requires.6

  module _ (ms : Messages) (S : Serves ms c.args.table) (X : Exact ms (allows c.args.p) c.args.table c.args.s.n c.args.s.wants) where
    abbrev R : ℕ
    R = rank (remaining ms (allows c.args.p)) (c.args.table.unit * c.args.table.units)

    both : k ≡ R + left
    both = whole c.args.table c.args.p c.requires.1.regular c.requires.0 c.args.s c.reach-once.result c.args.j ends c.reach-once.ensures.4 ms S X

    period_is : k - left ≡ R
    period_is = omega (arith, both)

    -- what remains of the count
    divided : (q * (k - left) ≤ left) × (left - q * (k - left) < k - left) × (left - q * (k - left) + (q + 1) * R ≡ k)
    divided =
        let w =
        whole_again ms c.args.p c.requires.1.regular c.args.table S k left q both (omega (arith, period_is, some.0))
        (c.quotient-whole.ensures ∙ ap (λ (x : ℕ). left / x) period_is) in
        subst (λ (x : ℕ). (q * x ≤ left) × (left - q * x < x) × (left - q * x + (q + 1) * R ≡ k)) (sym period_is) w

  once : (q * (k - left) ≤ left) × (left - q * (k - left) < k - left)
  once = let F = c.requires.6 in let d = divided F.ms F.serves F.exact in (d.0, d.1)

  -- so many periods fit
  few : (q + 1) * (c.args.table.unit * c.args.table.units) ≤ 2 ^ 49
  few =
      let h : q + 1 ≤ 2 ^ 33 = omega (arith, once.0, mul-le-mul_left q some.0, c.reach-once.ensures.2, c.requires.4, c.requires.5) in
      let a : c.args.table.unit * c.args.table.units ≤ 40960 = c.requires.0.all in
      omega (arith, mul-le-mul h a)

  early : (ms : Messages) (S : Serves ms c.args.table) (X : Exact ms (allows c.args.p) c.args.table c.args.s.n c.args.s.wants)
      → c.reach.result.n < c.args.s.n + c.args.table.units
  early ms S X =
      found_early ms c.args.p c.requires.1.regular c.args.table S
      (record { n = c.args.s.n; wants = c.args.s.wants; free = c.args.s.free; k = left - q * (k - left) }) c.reach.result c.reach.ensures.0
      (c.reach.ensures.4 ms S X) (omega (arith, once.1, period_is ms S X))

  soon : c.reach.result.n < c.args.s.n + c.args.table.units
  soon = let F = c.requires.6 in early F.ms F.serves F.exact

pub returns : goal.returns
returns c =
    let g = (goal.at.returns c).After-reach in
    let r = c.reach.ensures in (
      r.1,
      soon g,
      r.3 (soon g),
      few g,
      (λ ms S X.
          let C = r.4 ms S X in
          record {
            exact = C.exact;
            here = C.here refl (early g ms S X);
            turns = q g + 1;
            later = refl;
            same = omega (arith, C.same, (divided g ms S X).2);
          }),
      r.5,
    )
