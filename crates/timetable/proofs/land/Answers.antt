use Prim.Native.Nat.{ℕ, ◌+◌, ◌^◌, ◌≤◌, ◌<◌}
use native.Mathlib.Omega.{arith}
use native.Mathlib.Nat.{mul-le-mul}
use Rattle.counting.proofs.Rank.{rank_zero, rank_le}
use Rattle.counting.proofs.Select.{nth_of}
use Rattle.counting.proofs.Period.{is_select, select_below}
use Rattle.spans.specs.Pattern.{allows, period_of}
use Rattle.spans.proofs.Laws.{repeats, few_spans}
use Rattle.units.specs.Quick.{begin_of}
use Rattle.units.proofs.Finding.{far}
use Rattle.strides.proofs.Striding.{lands}
use Rattle.timetable.proofs.land.Goals.{After-all_need}
use Rattle.timetable.proofs.land.Goals as goal

-- how many allowed ones lie before it
before_small : (c : After-all_need) → c.args.s.free + c.all_need.result + c.args.s.k < 2 ^ 31
before_small c =
    let a = c.args in
    let h : a.s.n ≤ 2 ^ 19 = omega (arith, c.requires.3) in
    omega (
      arith,
      c.requires.2.free,
      rank_le (allows a.p) (begin_of a.table a.s.n),
      mul-le-mul c.requires.0.unit h,
      c.requires.0.first,
      c.all_need.ensures.1,
      c.requires.4,
    )

pub overflow_add-s : goal.overflow_add-s
overflow_add-s c = omega (arith, before_small (goal.at.overflow_add-s c).After-all_need)

pub overflow_add-s-2 : goal.overflow_add-s-2
overflow_add-s-2 c = omega (arith, before_small (goal.at.overflow_add-s-2 c).After-all_need)

pub at-requires : goal.at-requires
at-requires c = (
  rw c.new.ensures c.requires.1.some,
  omega (arith, before_small (goal.at.at-requires c).After-all_need),
)

pub returns : goal.returns
returns c =
    let p = c.args.p in
    let u = allows p in
    let g = c.args.s in
    let P : ℕ = period_of p in
    let j : ℕ = g.free + c.all_need.result + g.k in
    let e = rw c.new.ensures at c.at.ensures in
    let again = repeats p c.requires.1.regular in
    let few : j + 1 ≤ 2 ^ 31 = omega (arith, before_small (goal.at.returns c).After-all_need) in
    let short : P ≤ 640 = omega (arith, few_spans p c.requires.1.regular) in
    let there = is_select u P again c.requires.1.some 0 j c.at.result (nth_of u 0 j c.at.result e.0 (omega (arith, e.1, rank_zero u))) in (
      omega (arith, there, select_below u P again c.requires.1.some 0 j, mul-le-mul few short),
      λ ms S X H.
          lands ms u (far p c.requires.1.regular) c.args.table S g.n g.k g.wants H c.at.result e.0 (omega (arith, e.1, c.requires.2.free, c.all_need.ensures.0)),
    )
