use mathlib.Core.Path.{◌≡◌, ap, ◌∙◌}
use Prim.Native.Nat.{ℕ, ◌*◌, ◌/◌, ◌≤◌, ◌^◌}
use native.Mathlib.Nat.{mul-le-mul}
use native.Mathlib.Omega.{arith}
use Rattle.counting.specs.Counting.{next}
use Rattle.search_space.specs.Starts.{hyperframe, is_start, part_of, start_of}
use Rattle.search_space.proofs.Accepting.{Timed, timed, part_below, monitored_is}
use Rattle.search_space.proofs.monitored.Goals.{Start, After-struct_known-1, After-start_from-start}
use Rattle.search_space.proofs.monitored.Goals as goal

accepted : (s : Start) → Timed s.args.s
accepted s = timed _ s.requires.1

-- T and the offset's part of it
module _ (c : After-struct_known-1) where
  abbrev start : Start
  start = c.before.before

  abbrev period : ℕ
  period = c.doubled_period-period.result / 2

  small : start.args.s.alpha * period ≤ 3 * 2 ^ 17
  small = mul-le-mul {n₂ = 3} {m₂ = 2 ^ 17} (accepted start).fields.alpha (omega (arith, c.doubled_period-period.ensures.1))

  part_is : start.args.s.alpha * period / 8 ≡ part_of start.args.s
  part_is = ap (λ (x : ℕ). start.args.s.alpha * (x / 2) / 8) c.doubled_period-period.ensures.0

start_is : (c : After-start_from-start) → c.start_from-start.result ≡ start_of c.args.s
unfolding start_of
start_is c =
    let s = c.args.s in
    c.start_from-start.ensures.0
    ∙ ap (λ (x : ℕ). next (is_start (x / 2) (s.alpha * (x / 2) / 8)) hyperframe s.n) c.doubled_period-period.ensures.0

pub doubled_period-period-requires : goal.doubled_period-period-requires
doubled_period-period-requires c = let f = (accepted c).fields in (f.rmax, f.g)

pub overflow_mul-s : goal.overflow_mul-s
overflow_mul-s c = omega (arith, small c)

pub start_from-start-requires : goal.start_from-start-requires
start_from-start-requires c =
    let a = accepted (start c) in
    let d = c.doubled_period-period.ensures in (
      a.fields.n,
      part_below (start c).args.s.alpha (period c) a.fields.alpha (omega (arith, d.0, a.long)),
      omega (arith, d.1),
      omega (arith, part_is c, a.inside),
    )

pub cut_of-x-requires : goal.cut_of-x-requires
cut_of-x-requires c = (accepted c.before.before.before).fields.rmax

pub returns : goal.returns
returns c =
    let x = c in
    monitored_is _ _ (accepted x.before.before.before.before.before.before).fields.rmax _ x.cut_of-x.result c.all_blocks.result
    c.listed-list.result (start_is x.before.before.before) x.cut_of-x.ensures.0 c.all_blocks.ensures c.listed-list.ensures.0 c.listed-list.ensures.1
