use mathlib.Core.Path.{◌≡◌, ap, ◌∙◌}
use Prim.Native.Nat.{◌+◌}
use native.Mathlib.Omega.{arith}
use Rattle.counting.specs.Counting.{select}
use Rattle.spans.specs.Pattern.{allows}
use Rattle.messages.specs.Messages.{all_periods, remaining}
use Rattle.search_space.proofs.block.Goals as goal

pub returns-then-more-eq0 : goal.returns-then-more-eq0
returns-then-more-eq0 c =
    let a = c.args in
    let e : a.j ≡ a.j + a.more = omega (arith, c.if-more-eq0.true) in
    (c.nth-t.ensures, c.nth-t.ensures ∙ ap (select (remaining a.ms (allows a.p)) all_periods a.from) e)

pub nth-t-requires : goal.nth-t-requires
nth-t-requires c = let s = c in (s.requires.0, s.requires.1, s.requires.2, s.requires.3, omega (arith, s.requires.4))
