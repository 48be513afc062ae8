use Rattle.units.specs.Quick.{lane_at}
use mathlib.Core.Path.{◌≡◌, sym, ap, ◌∙◌}
use mathlib.Core.Logic.{⊎_elim}
use Prim.Native.Nat.{ℕ, ◌+◌, ◌-◌, ◌^◌, ◌≤◌, ◌<◌}
use native.Mathlib.Nat.{mul-le-mul}
use native.Mathlib.Omega.{arith}
use Rattle.counting.specs.Counting.{rank, count}
use Rattle.counting.proofs.Facts.{order}
use Rattle.counting.proofs.Rank.{rank_le}
use Rattle.spans.specs.Pattern.{allows}
use Rattle.units.specs.Quick.{begin_of, Seen, no_wants, opened_of, walk_from, wants_from, wants_in}
use Rattle.units.proofs.Lanes.{none_small, run_none, count_most, unit_most, rest_most}
use Rattle.units.proofs.sight_at.Goals.{After-opened-a1, After-free_before, After-run}
use Rattle.units.proofs.sight_at.Goals as goal

-- where the walk begins
from_is : (c : After-opened-a1) → c.opened-a1.result ≡ walk_from c.args.table c.args.n
unfolding walk_from
from_is c =
    let t = c.args.table in
    c.opened-a1.ensures.0
    ∙ ap (opened_of (lane_at t 0)) (c.opened-a2.ensures.0 ∙ ap (opened_of (lane_at t 1)) (c.opened-a3.ensures.0 ∙ ap (opened_of (lane_at t 2)) c.opened-a4.ensures.0))

begun : (c : After-free_before) → Seen c.args.table (allows c.args.p)
    (record { n = c.opened-a1.result; wants = no_wants; free = c.free_before.result; k = 2 ^ 31 })
begun c = record {
  small = none_small c.args.table c.opened-a1.result;
  free = c.free_before.ensures ∙ ap (rank (allows c.args.p)) c.begin.ensures.0;
}

-- nothing to walk
pub returns-then-a1-n : goal.returns-then-a1-n
unfolding wants_in
returns-then-a1-n c =
    let a = c.args in
    let u = allows a.p in
    let w = walk_from a.table a.n in
    let e : 0 ≡ a.n - w = omega (arith, from_is (goal.at.returns-then-a1-n c).After-opened-a1, c.if-a1-n.true) in
    (c.if-a1-n.true, sym (run_none a.table u w no_wants).0 ∙ ap (wants_from a.table u w no_wants) e, begun (goal.at.returns-then-a1-n c).After-free_before)

-- the walk goes to its end: so many never remain
ends : (c : After-run) → c.run.result.n ≡ c.args.n
ends c =
    let a = c.args in
    let u = allows a.p in
    let r = c.run.result in
    let R = c.run.ensures in
    let m : ℕ = c.opened-a1.result in
    let e : m + (r.n - m) ≡ r.n = omega (arith, R.from) in
    let fits : r.n ≤ 2 ^ 19 = omega (arith, R.most, c.requires.3) in
    let few : begin_of a.table r.n < 2 ^ 29 = omega (arith, mul-le-mul c.requires.0.unit fits, c.requires.0.first) in
    ⊎_elim
    (λ h. absurd (omega (
      arith,
      R.stops h,
      unit_most a.table r.n (count u (begin_of a.table r.n) a.table.unit) r.wants,
      count_most u a.table.unit (begin_of a.table r.n),
      c.requires.0.unit,
      R.counted,
      rest_most a.table u m no_wants (r.n - m),
      ap (λ (n : ℕ). rank u (begin_of a.table n)) e,
      rank_le u (begin_of a.table r.n),
      few,
    )))
    (λ h. omega (arith, R.most, h)) (order r.n a.n)

pub returns-else-a1-n : goal.returns-else-a1-n
unfolding wants_in
returns-else-a1-n c =
    let a = c.args in
    let u = allows a.p in
    let m : ℕ = c.opened-a1.result in (
      ends c,
      c.run.ensures.wanted
          ∙ ap (λ (n : ℕ). wants_from a.table u m no_wants (n - m)) (ends c)
          ∙ ap (λ (x : ℕ). wants_from a.table u x no_wants (a.n - x)) (from_is (goal.at.returns-else-a1-n c).After-opened-a1),
      c.run.ensures.seen,
    )
