-- The three stretches of a period: before the four spans with SIB1, those, and after them.
use Prim.Native.Nat.{ℕ, ◌+◌, ◌-◌, ◌*◌, ◌^◌, ◌≤◌, ◌<◌}
use mathlib.Core.Path.{◌≡◌, ap, subst}
use native.Mathlib.Omega.{arith}
use lib.Count.{ones}
use Rattle.counting.specs.Counting.{rank}
use Rattle.spans.specs.declared.Pattern.{Pattern}
use Rattle.spans.specs.Pattern.{allows, period_of, Regular, OnesOf}
use Rattle.spans.proofs.Laws.{Stretch, few_of_period, in_lead, in_sib1, in_tail, ready, landed}
use Rattle.spans.proofs.Counted.pick.Goals as goal

module _ (p : Pattern) (ok : Regular p) (a b : ℕ) (is : OnesOf p a b) (k : ℕ) where
  lead : k < p.first * b → Stretch p ok p.usual 0 k k
  lead h = in_lead p ok k (subst (λ (n : ℕ). k < p.first * n) is.usual h)

  sib1 : p.first * b ≤ k → k - p.first * b < 4 * a → Stretch p ok p.sib1 p.first (k - p.first * b) k
  sib1 h l =
      let j : ℕ = k - p.first * b in
      let few : j < 4 * ones p.sib1 = omega (arith, is.sib1) in
      let e : p.first * ones p.usual + j ≡ k = omega (arith, ap (λ (n : ℕ). p.first * n) is.usual) in
      subst (λ (n : ℕ). Stretch p ok p.sib1 p.first j n) e (in_sib1 p ok j few)

  tail : p.first * b ≤ k → 4 * a ≤ k - p.first * b → k < rank (allows p) (period_of p)
      → Stretch p ok p.usual (p.first + 4) (k - p.first * b - 4 * a) k
  tail h l w =
      let j : ℕ = k - p.first * b - 4 * a in
      let e : p.first * ones p.usual + 4 * ones p.sib1 + j ≡ k = omega (arith, ap (λ (n : ℕ). p.first * n) is.usual, is.sib1) in
      subst (λ (n : ℕ). Stretch p ok p.usual (p.first + 4) j n) e (in_tail p ok j (omega arith))

  short : k < rank (allows p) (period_of p) → k < 2 ^ 32
  short h = omega (arith, few_of_period p ok)

pub in_stretch-requires : goal.in_stretch-requires
in_stretch-requires c =
    let s = c.args.self in
    ready s.pattern s.regular _ _ _ _ _ s.counts.usual s.regular.usual_small (short s.pattern s.regular s.sib1_ones s.usual_ones s.counts c.args.k c.requires)
    (lead s.pattern s.regular s.sib1_ones s.usual_ones s.counts c.args.k c.if-k-lead.true)

pub returns-then-k-lead : goal.returns-then-k-lead
returns-then-k-lead c =
    let s = c.args.self in
    landed s.pattern s.regular _ _ _ _ _ _ s.counts.usual s.regular.usual_small
    (lead s.pattern s.regular s.sib1_ones s.usual_ones s.counts c.args.k c.if-k-lead.true) c.in_stretch.ensures

pub in_stretch-requires-then-j-a : goal.in_stretch-requires-then-j-a
in_stretch-requires-then-j-a c =
    let s = c.args.self in
    ready s.pattern s.regular _ _ _ _ _ s.counts.sib1 s.regular.sib1_small
    (omega (arith, short s.pattern s.regular s.sib1_ones s.usual_ones s.counts c.args.k c.requires))
    (sib1 s.pattern s.regular s.sib1_ones s.usual_ones s.counts c.args.k c.if-k-lead.false c.if-j-a.true)

pub returns-then-j-a : goal.returns-then-j-a
returns-then-j-a c =
    let s = c.args.self in
    landed s.pattern s.regular _ _ _ _ _ _ s.counts.sib1 s.regular.sib1_small
    (sib1 s.pattern s.regular s.sib1_ones s.usual_ones s.counts c.args.k c.if-k-lead.false c.if-j-a.true) c.in_stretch-then-j-a.ensures

pub in_stretch-requires-else-j-a : goal.in_stretch-requires-else-j-a
in_stretch-requires-else-j-a c =
    let s = c.args.self in
    ready s.pattern s.regular _ _ _ _ _ s.counts.usual s.regular.usual_small
    (omega (arith, short s.pattern s.regular s.sib1_ones s.usual_ones s.counts c.args.k c.requires))
    (tail s.pattern s.regular s.sib1_ones s.usual_ones s.counts c.args.k c.if-k-lead.false c.if-j-a.false c.requires)

pub returns-else-j-a : goal.returns-else-j-a
returns-else-j-a c =
    let s = c.args.self in
    landed s.pattern s.regular _ _ _ _ _ _ s.counts.usual s.regular.usual_small
    (tail s.pattern s.regular s.sib1_ones s.usual_ones s.counts c.args.k c.if-k-lead.false c.if-j-a.false c.requires) c.in_stretch-else-j-a.ensures
