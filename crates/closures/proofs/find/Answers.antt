use mathlib.Core.Path.{◌≡◌}
use Prim.Native.Nat.{◌+◌, ◌^◌, ◌<◌}
use native.Mathlib.Omega.{arith}
use Rattle.closures.proofs.Nesting.{ready4, ready3, ready2, ready1, taken_small, landed}
use Rattle.closures.proofs.find.Goals.{After-ascend-g1, Start}
use Rattle.closures.proofs.find.Goals as goal

-- where the count was reached
module _ (c : After-ascend-g1) where
  abbrev s : Start
  s = c.before.before.before.before.before.before.before.before.before.before.before.before

  lands : c.ascend-g1.result.n + c.ascend-g1.result.add ≡ s.requires.1.at + c.ascend-g1.result.back
  lands =
      let w = s.requires.1 in
      landed s.args.nested s.requires.0 w.at s.args.n w.passes w.here w.small _ c.ascend-g4.ensures _ c.ascend-g3.ensures _
      c.ascend-g2.ensures _ c.ascend-g1.ensures

  small : c.ascend-g1.result.back < 2 ^ 38
  small =
      let w = s.requires.1 in
      taken_small s.args.nested s.requires.0 w.at s.args.n w.passes w.here w.small _ c.ascend-g4.ensures _ c.ascend-g3.ensures _
      c.ascend-g2.ensures _ c.ascend-g1.ensures

pub ascend-g4-requires : goal.ascend-g4-requires
ascend-g4-requires c =
    let p = c.requires in
    let w = p.1 in
    (p.0.ranged.r4, ready4 c.args.nested p.0 w.at c.args.n w.passes w.here w.small)

pub ascend-g3-requires : goal.ascend-g3-requires
ascend-g3-requires c =
    let s = c in
    let w = s.requires.1 in
    (s.requires.0.ranged.r3, ready3 s.args.nested s.requires.0 w.at s.args.n w.passes w.here w.small _ c.ascend-g4.ensures)

pub ascend-g2-requires : goal.ascend-g2-requires
ascend-g2-requires c =
    let s = c in
    let w = s.requires.1 in
    (s.requires.0.ranged.r2, ready2 s.args.nested s.requires.0 w.at s.args.n w.passes w.here w.small _ c.ascend-g4.ensures _ c.ascend-g3.ensures)

pub ascend-g1-requires : goal.ascend-g1-requires
ascend-g1-requires c =
    let s = c in
    let w = s.requires.1 in (
      s.requires.0.ranged.r1,
      ready1 s.args.nested s.requires.0 w.at s.args.n w.passes w.here w.small _ c.ascend-g4.ensures _ c.ascend-g3.ensures _ c.ascend-g2.ensures,
    )

pub overflow_add-result : goal.overflow_add-result
overflow_add-result c = omega (arith, lands c.before, small c.before, (s c.before).requires.1.small)

pub overflow_sub-result : goal.overflow_sub-result
overflow_sub-result c = omega (arith, lands c.before.before)

pub returns : goal.returns
returns c =
    λ t e h l.
    let b = c in
    let g = s b.before.before in
    omega (
      arith,
      landed g.args.nested g.requires.0 t g.args.n e h l _ b.ascend-g4.ensures _ b.ascend-g3.ensures _ b.ascend-g2.ensures _
          b.ascend-g1.ensures,
    )
