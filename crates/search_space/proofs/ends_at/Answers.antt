use mathlib.Core.Path.{◌≡◌, ◌∙◌}
use Prim.Native.Nat.{◌+◌}
use native.Mathlib.Omega.{arith}
use Rattle.search_space.proofs.ends_at.Goals as goal

pub returns-then-more-eq0 : goal.returns-then-more-eq0
returns-then-more-eq0 c =
    let s = c in
    let r = c.at-first.ensures in
    let e : s.args.k ≡ s.args.k + s.args.more = omega (arith, c.if-more-eq0.true) in
    (r, (r.0, r.1 ∙ e))

pub at-first-requires : goal.at-first-requires
at-first-requires c = (c.requires.0, omega (arith, c.requires.1))
