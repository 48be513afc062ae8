use Rattle.std.specs.Prelude.{List}
use mathlib.Core.Path.{◌≡◌, sym, ap, ap₂, ◌∙◌}
use Prim.Native.Nat.{ℕ, suc, ◌+◌, ◌-◌}
use native.Mathlib.Omega.{arith}
use Rattle.counting.specs.Counting.{rank, count}
use Rattle.spans.specs.Pattern.{allows}
use Rattle.units.specs.declared.UnitStep.{UnitStep}
use Rattle.units.specs.Quick.{begin_of, unit_step_of, wants_from, rest_from}
use Rattle.units.proofs.Lanes.{run_none, run_on, unit_free}
use Rattle.units.proofs.run.Goals.{After-free_before-next, After-pass-r}
use Rattle.units.proofs.run.Goals as goal

pub loop-n-init : goal.loop-n-init
loop-n-init c =
    let a = c.args in
    let u = allows a.p in
    let none = run_none a.table u a.s.n a.s.wants in
    let e : 0 ≡ a.s.n - a.s.n = omega arith in
    record {
      small = c.requires.2.small;
      free = c.requires.2.free;
      wanted = sym none.0 ∙ ap (wants_from a.table u a.s.n a.s.wants) e;
      counted = omega (arith, none.1, ap (rest_from a.table u a.s.n a.s.wants) e);
    }

-- a unit's free subframes
module _ (c : After-free_before-next) where
  next_is : c.free_before-next.result ≡ rank (allows c.args.p) (begin_of c.args.table (c.loop-n.n + 1))
  next_is = c.free_before-next.ensures ∙ ap (rank (allows c.args.p)) c.begin.ensures.0

  counted : c.free_before-next.result ≡ c.loop-n.free + count (allows c.args.p) (begin_of c.args.table c.loop-n.n) c.args.table.unit
  counted = omega (arith, next_is, unit_free c.args.table (allows c.args.p) c.loop-n.n, c.loop-n.invariant.free)

-- the unit's step
step_is : (c : After-pass-r) → c.pass-r.result ≡ unit_step_of c.args.table c.loop-n.n c.loop-n.wants (count (allows c.args.p) (begin_of c.args.table c.loop-n.n) c.args.table.unit)
step_is c = c.pass-r.ensures.0 ∙ ap (unit_step_of c.args.table c.loop-n.n c.loop-n.wants) (omega (arith, counted c.before))

pub returns-then-k-r : goal.returns-then-k-r
returns-then-k-r c =
    let v = c.loop-n.invariant in
    record {
      from = omega arith;
      most = omega arith;
      seen = record { small = v.small; free = v.free };
      wanted = v.wanted;
      counted = v.counted;
      stops = λ h. omega (arith, c.if-k-r.true, ap (λ (r : UnitStep). r.remaining) (step_is (goal.at.returns-then-k-r c).After-pass-r));
    }

pub loop-n-preserved : goal.loop-n-preserved
loop-n-preserved c =
    let q = (goal.at.loop-n-preserved c).After-pass-r in
    let a = c.args in
    let n = c.loop-n.n in
    let v = c.loop-n.invariant in
    let i : ℕ = n - a.s.n in
    let u = allows a.p in
    let e : a.s.n + i ≡ n = omega arith in
    let j : suc i ≡ n + 1 - a.s.n = omega arith in
    let o = run_on a.table u a.s.n a.s.wants i in
    let there : c.pass-r.result ≡ unit_step_of a.table (a.s.n + i) (wants_from a.table u a.s.n a.s.wants i) (count u (begin_of a.table (a.s.n + i)) a.table.unit) =
    step_is q ∙ ap₂ (λ (w : List ℕ) (m : ℕ). unit_step_of a.table m w (count u (begin_of a.table m) a.table.unit)) v.wanted (sym e) in
    record {
      small = c.pass-r.ensures.1;
      free = next_is q.before;
      wanted = ap (λ (r : UnitStep). r.wants) there ∙ sym o.0 ∙ ap (wants_from a.table u a.s.n a.s.wants) j;
      counted = omega (
        arith,
        v.counted,
        c.if-k-r.false,
        ap (λ (r : UnitStep). r.remaining) there,
        o.1,
        ap (rest_from a.table u a.s.n a.s.wants) j,
      );
    }

pub returns : goal.returns
returns c =
    let a = c.args in
    let v = c.loop-n.invariant in
    let e : c.loop-n.n ≡ a.to = omega arith in
    record {
      from = omega arith;
      most = omega arith;
      seen = record { small = rw e at v.small; free = rw e at v.free };
      wanted = rw e at v.wanted;
      counted = rw e at v.counted;
      stops = λ h. absurd (omega arith);
    }

pub overflow_sub-next : goal.overflow_sub-next
overflow_sub-next c = omega (arith, counted c)
