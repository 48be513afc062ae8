use mathlib.Core.Path.{◌≡◌}
use Prim.Native.Nat.{◌+◌, ◌-◌, ◌*◌, ◌^◌, ◌<◌}
use native.Mathlib.Nat.{div-le_self}
use native.Mathlib.Omega.{arith}
use Rattle.closures.specs.Closures.{clear}
use Rattle.uplink.specs.Timing.{slot_at}
use Rattle.uplink.proofs.Grouped.{usable, begins, cycles, first_group_small, slot_found, slot_small}
use Rattle.uplink.proofs.timing.open_slot_at.Goals.{After-nth-at, Start}
use Rattle.uplink.proofs.timing.open_slot_at.Goals as goal

module _ (c : After-nth-at) where
  abbrev s : Start
  s = c.before.before.before.before

  found : c.nth-at.result * s.args.s.group + (s.args.i - c.over_group-j.result * s.args.s.group) ≡ slot_at s.args.s (clear s.args.nested.closures) s.args.i
  found = slot_found s.args.s s.requires.0 s.args.nested s.requires.1 _ s.requires.3 s.args.i _ _ c.over_group-j.ensures c.nth-at.ensures

  small : slot_at s.args.s (clear s.args.nested.closures) s.args.i < 2 ^ 60
  small = slot_small s.args.s s.requires.0 s.args.nested.closures s.requires.1 s.args.i s.requires.4

pub nth-at-requires : goal.nth-at-requires
nth-at-requires c =
    let a = c in
    let s = a.args.s in (
      usable s a.requires.0 a.args.nested a.requires.1 _ a.requires.3,
      begins s a.requires.0 a.args.nested a.requires.1 _ a.requires.3,
      a.requires.2.nesting,
      cycles s a.requires.0 a.args.nested a.requires.1 _ a.requires.3,
      omega (arith, first_group_small s a.requires.0 a.args.nested a.requires.1 _ a.requires.3),
      omega (arith, div-le_self a.args.i s.group, a.requires.4, c.over_group-j.ensures),
    )

pub overflow_mul-result : goal.overflow_mul-result
overflow_mul-result c = omega (arith, found c, small c)

pub overflow_add-result : goal.overflow_add-result
overflow_add-result c = omega (arith, found c, small c)

pub returns : goal.returns
returns c = found c
