use native.Mathlib.Omega.{arith}
use Rattle.closures.proofs.Cycles.{jump_small, first_found, first_reached, first_is, last_near, last_is}
use Rattle.closures.proofs.first_and_last.Goals as goal

pub overflow_add-last : goal.overflow_add-last
overflow_add-last c =
    let s = c in
    omega (
      arith,
      jump_small _ _ s.requires.3 s.args.t s.args.j s.requires.5,
      last_near _ _ _ s.requires.3 _ s.args.j _ c.scan-found.ensures,
      s.requires.3.small,
      s.requires.4,
    )

pub returns-then-rest-eq0 : goal.returns-then-rest-eq0
returns-then-rest-eq0 c =
    let r = c.scan-found.ensures in
    let s = c in
    (first_found _ _ _ s.requires.3 _ s.args.j _ r c.if-rest-eq0.true, last_is _ _ _ s.requires.3 _ s.args.j _ r)

pub find-requires : goal.find-requires
find-requires c = let s = c in (s.requires.2, first_reached _ _ _ s.requires.3 _ s.args.j _ c.scan-found.ensures s.requires.4)

pub returns-else-rest-eq0 : goal.returns-else-rest-eq0
returns-else-rest-eq0 c =
    let r = c.scan-found.ensures in (
      first_is _ _ _ c.requires.3 _ c.args.j _ r c.requires.4 _ c.find.ensures,
      last_is _ _ _ c.requires.3 _ c.args.j _ r,
    )
