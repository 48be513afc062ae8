use mathlib.Core.Path.{◌≡◌}
use Prim.Native.Nat.{ℕ, ◌+◌, ◌-◌, ◌*◌, ◌^◌, ◌<◌}
use native.Mathlib.Nat.{div-le_self}
use native.Mathlib.Omega.{arith}
use Rattle.closures.specs.Closures.{clear}
use Rattle.uplink.specs.Timing.{slot_at}
use Rattle.uplink.proofs.Grouped.{usable, begins, cycles, first_group_small, first_found, slot_found, slot_small}
use Rattle.uplink.proofs.timing.open_ends.Goals.{After-first_and_last-ends, Start}
use Rattle.uplink.proofs.timing.open_ends.Goals as goal

module _ (c : After-first_and_last-ends) where
  abbrev s : Start
  s = c.before.before.before.before

  first : c.first_and_last-ends.result.first * s.args.s.group ≡ slot_at s.args.s (clear s.args.nested.closures) 0
  first = first_found s.args.s s.requires.0 s.args.nested s.requires.1 _ s.requires.3 _ c.first_and_last-ends.ensures.0

  last : c.first_and_last-ends.result.last * s.args.s.group + (s.args.i - c.over_group-j.result * s.args.s.group) ≡ slot_at s.args.s (clear s.args.nested.closures) s.args.i
  last = slot_found s.args.s s.requires.0 s.args.nested s.requires.1 _ s.requires.3 s.args.i _ _ c.over_group-j.ensures c.first_and_last-ends.ensures.1

  small : (i : ℕ) → i < 2 ^ 32 → slot_at s.args.s (clear s.args.nested.closures) i < 2 ^ 60
  small = slot_small s.args.s s.requires.0 s.args.nested.closures s.requires.1

pub first_and_last-ends-requires : goal.first_and_last-ends-requires
first_and_last-ends-requires c =
    let a = c in
    let s = a.args.s in (
      usable s a.requires.0 a.args.nested a.requires.1 _ a.requires.3,
      begins s a.requires.0 a.args.nested a.requires.1 _ a.requires.3,
      a.requires.2.nesting,
      cycles s a.requires.0 a.args.nested a.requires.1 _ a.requires.3,
      omega (arith, first_group_small s a.requires.0 a.args.nested a.requires.1 _ a.requires.3),
      omega (arith, div-le_self a.args.i s.group, a.requires.4, c.over_group-j.ensures),
    )

pub overflow_mul-result : goal.overflow_mul-result
overflow_mul-result c = let b = c in omega (arith, first b.before, small b.before 0 (omega arith))

pub overflow_mul-result-2 : goal.overflow_mul-result-2
overflow_mul-result-2 c = let b = c in omega (arith, last b.before.before, small b.before.before (s b.before.before).args.i (s b.before.before).requires.4)

pub overflow_add-result : goal.overflow_add-result
overflow_add-result c = let b = c in omega (arith, last b.before.before, small b.before.before (s b.before.before).args.i (s b.before.before).requires.4)

pub returns : goal.returns
returns c = let b = c in (first b.before.before, last b.before.before)
