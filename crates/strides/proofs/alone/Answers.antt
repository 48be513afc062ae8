use mathlib.Core.Path.{◌≡◌, sym, ap, ap₂, subst, ◌∙◌}
use Prim.Native.Nat.{ℕ, suc, ◌+◌, ◌*◌, ◌^◌, ◌≤◌, ◌<◌}
use native.Mathlib.Nat.{add-zero}
use native.Mathlib.Omega.{arith}
use Rattle.counting.specs.Counting.{rank, count}
use Rattle.counting.proofs.Rank.{rank_le}
use Rattle.spans.specs.Pattern.{allows}
use mathlib.Core.Bool.{Bool}
use Rattle.units.specs.declared.Timetable.{Timetable}
use Rattle.units.specs.declared.LaneStep.{LaneStep}
use Rattle.units.specs.Quick.{begin_of, place_of, lane_step_of}
use Rattle.strides.specs.Quick.{lone_want, lone_rest}
use Rattle.units.proofs.Lanes.{unit_free}
use Rattle.strides.proofs.Apart.{lone_on, lone_none, lone_most}
use Rattle.strides.proofs.alone.Goals.{After-lay-r}
use Rattle.strides.proofs.alone.Goals as goal

pub loop-i-init : goal.loop-i-init
loop-i-init c =
    let a = c.args in
    let u = allows a.p in
    let none = lone_none u a.table a.l c.requires.2 a.l.start in
    record {
      wanted = sym none.0;
      rested = sym none.1;
      small = omega arith;
      free = c.free_before-free.ensures ∙ ap (rank u) c.begin.ensures.0 ∙ ap (λ (n : ℕ). rank u (begin_of a.table n)) (sym (add-zero a.l.start));
      few = omega arith;
    }

-- a unit's free subframes
counted : (table : Timetable) (u : ℕ → Bool) (m free next : ℕ) → next ≡ rank u (begin_of table (m + 1)) → free ≡ rank u (begin_of table m)
    → next ≡ free + count u (begin_of table m) table.unit
counted table u m free next e f = omega (arith, e, f, unit_free table u m)

module _ (c : After-lay-r) where
  abbrev at : ℕ
  at = c.args.l.start + c.loop-i.i

  next_is : c.free_before-next.result ≡ rank (allows c.args.p) (begin_of c.args.table (at + 1))
  next_is = c.free_before-next.ensures ∙ ap (rank (allows c.args.p)) c.begin-in-loop-i.ensures.0

  -- the lane's step
  step_is : c.lay-r.result ≡ lane_step_of c.args.l at (lone_want (allows c.args.p) c.args.table c.args.l c.args.l.start c.loop-i.i)
      (count (allows c.args.p) (begin_of c.args.table at) c.args.table.unit)
  step_is = c.lay-r.ensures.0 ∙ ap₂ (lane_step_of c.args.l at) c.loop-i.invariant.wanted (omega (arith, counted c.args.table (allows c.args.p) at _ _ next_is c.loop-i.invariant.free))

  on : (lone_want (allows c.args.p) c.args.table c.args.l c.args.l.start (suc c.loop-i.i) ≡ c.lay-r.result.want)
      × (lone_rest (allows c.args.p) c.args.table c.args.l c.args.l.start (suc c.loop-i.i) ≡ c.loop-i.rest + c.lay-r.result.free)
  on =
      let o = lone_on (allows c.args.p) c.args.table c.args.l c.requires.2 c.args.l.start c.loop-i.i in (
        o.0 ∙ ap (λ (r : LaneStep). r.want) (sym step_is),
        o.1 ∙ ap₂ (λ (x y : ℕ). x + y) (sym c.loop-i.invariant.rested) (ap (λ (r : LaneStep). r.free) (sym step_is)),
      )

  -- no more than there are subframes
  most : c.loop-i.rest + c.lay-r.result.free < 2 ^ 29
  most =
      let u = allows c.args.p in
      let i : ℕ = suc c.loop-i.i in
      let e : c.args.l.start + i ≡ at + 1 = omega arith in
      omega (
        arith,
        on.1,
        lone_most u c.args.table c.args.l c.requires.2 c.args.l.start i,
        ap (λ (n : ℕ). rank u (begin_of c.args.table n)) e,
        rank_le u (begin_of c.args.table (at + 1)),
        c.begin-in-loop-i.ensures.0,
        c.begin-in-loop-i.ensures.1,
      )

pub overflow_sub-next : goal.overflow_sub-next
overflow_sub-next c =
    let u = allows c.args.p in
    let e = c.free_before-next.ensures ∙ ap (rank u) c.begin-in-loop-i.ensures.0 in
    omega (arith, counted c.args.table u (c.args.l.start + c.loop-i.i) _ _ e c.loop-i.invariant.free)

pub overflow_add-rest : goal.overflow_add-rest
overflow_add-rest c = omega (arith, most (goal.at.overflow_add-rest c).After-lay-r)

pub loop-i-preserved : goal.loop-i-preserved
loop-i-preserved c =
    let r = (goal.at.loop-i-preserved c).After-lay-r in
    let s = c.args in
    let i : ℕ = c.loop-i.i in
    let e : suc i ≡ i + 1 = omega arith in
    let there : at r + 1 ≡ s.l.start + (i + 1) = omega arith in
    let u = allows s.p in
    record {
      wanted = sym (on r).0 ∙ ap (lone_want u s.table s.l s.l.start) e;
      rested = sym (on r).1 ∙ ap (lone_rest u s.table s.l s.l.start) e;
      small = subst (λ (n : ℕ). c.lay-r.result.want ≤ 8 * place_of s.l n) there c.lay-r.ensures.1;
      free = next_is r ∙ ap (λ (n : ℕ). rank u (begin_of s.table n)) there;
      few = most r;
    }
