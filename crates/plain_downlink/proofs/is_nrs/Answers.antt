use mathlib.Core.Bool.{Bool, false, ◌&&◌, ◌||◌, or-false, and-false}
use mathlib.Core.Path.{◌≡◌}
use lib.Dec.{leb}
use borrow.Author.Tests.{ne_eqb}
use Rattle.plain_downlink.proofs.is_nrs.Goals as goal

-- l = 5, in words of the tests alone
at_5 : (near far second : Bool) → (near || (second && far)) ≡ ((near || false) || (second && (far || false)))
at_5 near far second = simp or-false

pub returns-then-l-eq5 : goal.returns-then-l-eq5
returns-then-l-eq5 c = let a = c.args in rw c.if-l-eq5.true (at_5 a.near a.far (leb 2 a.g.nports))

pub returns-then-l-eq6 : goal.returns-then-l-eq6
returns-then-l-eq6 c = rw c.if-l-eq6.true

pub returns : goal.returns
returns c = simp (ne_eqb _ _ c.if-l-eq6.false, ne_eqb _ _ c.if-l-eq5.false, and-false)
