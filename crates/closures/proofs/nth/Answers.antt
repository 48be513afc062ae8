use native.Mathlib.Omega.{arith}
use Rattle.closures.proofs.Cycles.{jump_small, last_near, last_is}
use Rattle.closures.proofs.nth.Goals as goal

pub overflow_add-result : goal.overflow_add-result
overflow_add-result c =
    let s = c in
    omega (
      arith,
      jump_small _ _ s.requires.3 s.args.t s.args.j s.requires.5,
      last_near _ _ _ s.requires.3 _ s.args.j _ c.scan.ensures,
      s.requires.3.small,
      s.requires.4,
    )

pub returns : goal.returns
returns c = let s = c in last_is _ _ _ s.requires.3 _ s.args.j _ c.scan.ensures
