use mathlib.Core.Bool.{Bool}
use mathlib.Core.Path.{◌≡◌, refl, sym, subst}
use Prim.Native.Nat.{ℕ, ◌+◌, ◌^◌, ◌<◌}
use native.Mathlib.Omega.{arith}
use Rattle.counting.specs.Counting.{rank}
use Rattle.counting.specs.Scaffold.{Nth}
use Rattle.counting.proofs.Rank.{rank_le, rank_strict}
use Rattle.counting.proofs.Select.{nth_of}
use Rattle.closures.specs.Closures.{is_free}
use Rattle.closures.specs.Quick.{Held}
use Rattle.closures.proofs.scan.Goals.{then-left-j, else-left-j, Joined-left-j}
use Rattle.closures.proofs.scan.Goals as goal

-- in the period at hand
module _ (c : Joined-left-j) where
  abbrev free : ℕ → Bool
  free = is_free c.args.gap c.args.nested.closures

  abbrev HeldAt : ℕ → ℕ → Type 0
  HeldAt j m = Held c.args.gap c.args.nested c.args.t (c.args.t + c.args.n) j m

  -- the i-th of it, as one of all n
  held : (i j m : ℕ) → i < c.gap_period_at-gap_period.result.here → rank free c.loop-at.at + i ≡ rank free c.args.t + j → m ≡ c.gap_period_at-gap_period.result.from + i
      → HeldAt j m
  held i j m h e f =
      let r = c.gap_period_at-gap_period.ensures in
      let g = r.held i h in
      record {
        x = g.x;
        inside = omega (arith, g.inside, r.within, c.loop-at.invariant.0);
        passes = g.passes;
        count = omega (arith, g.count);
        nth = nth_of free c.args.t j g.x g.nth.passes (omega (arith, g.nth.before));
      }

  -- the first of all: in this period if all j are left, else in one before
  first : c.loop-at.left < c.args.j + c.gap_period_at-gap_period.result.here → HeldAt 0 c.if-left-j.first
  first h =
      elim c.if-left-j.branch [
        | then-left-j w ↦ held 0 0 c.if-left-j.first (omega (arith, w.if-left-j.true)) (omega (arith, w.if-left-j.true, c.loop-at.invariant.3)) (omega (arith, w.first-is))
        | else-left-j w ↦
            subst (λ (m : ℕ). HeldAt 0 m) (sym w.first-is)
            (c.loop-at.invariant.5 (omega (arith, w.if-left-j.false, c.loop-at.invariant.2)))
      ]

  -- the number that is found there
  last : c.loop-at.left < c.gap_period_at-gap_period.result.here → HeldAt c.args.j (c.gap_period_at-gap_period.result.from + c.loop-at.left)
  last h = held c.loop-at.left c.args.j _ h c.loop-at.invariant.3 refl

  small : (j m : ℕ) (h : HeldAt j m) → h.x < 2 ^ 48
  small j m h = omega (arith, h.inside, c.requires.3, c.requires.4)

pub overflow_add-gap_period : goal.overflow_add-gap_period
overflow_add-gap_period c =
    let r = c.gap_period_at-gap_period in
    let free = is_free c.args.gap c.args.nested.closures in
    omega (
      arith,
      c.if-left-gap_period.true,
      r.ensures.small,
      r.ensures.counted,
      rank_le free (c.loop-at.at + r.result.length),
      r.ensures.within,
      c.loop-at.invariant.0,
      c.requires.3,
      c.requires.4,
    )

pub find-requires : goal.find-requires
find-requires c =
    let b = (goal.at.find-requires c).Joined-left-j in
    let h = last b c.if-left-gap_period.true in
    (c.requires.2, record { at = h.x; small = small b _ _ h; passes = h.passes; here = h.count })

pub returns-then-left-gap_period : goal.returns-then-left-gap_period
returns-then-left-gap_period c =
    let b = (goal.at.returns-then-left-gap_period c).Joined-left-j in
    let h = last b c.if-left-gap_period.true in
    let e = c.find.ensures h.x h.passes h.count (small b _ _ h) in
    record {
      first = λ w. first b (omega (arith, c.if-left-gap_period.true));
      found = λ w. (subst (λ (x : ℕ). Nth (free b) c.args.t c.args.j x) (sym e) h.nth, omega (arith, e, h.inside));
      missed = λ w. absurd (omega (arith, w, h.nth.before, rank_strict (free b) h.x (c.args.t + c.args.n) h.nth.passes h.inside));
    }

pub loop-at-preserved : goal.loop-at-preserved
loop-at-preserved c =
    let b = (goal.at.loop-at-preserved c).Joined-left-j in
    let r = c.gap_period_at-gap_period.ensures in
    let i = c.loop-at.invariant in
    (refl, r.within, omega (arith, i.2), omega (arith, r.counted, i.3, c.if-left-gap_period.false), r.next, λ h. first b (omega (arith, h, c.if-left-gap_period.false)))
