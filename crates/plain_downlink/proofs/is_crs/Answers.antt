use mathlib.Core.Bool.{Bool, false, ◌&&◌, ◌||◌, or-false, and-false}
use mathlib.Core.Path.{◌≡◌}
use lib.Dec.{leb}
use borrow.Author.Tests.{ne_eqb}
use Rattle.plain_downlink.proofs.is_crs.Goals as goal

-- l = 0, 4 and 1, in words of the tests alone
module _ (near far first second both : Bool) where
  at_0 : ((first && near) || (second && far)) ≡ ((first && (near || false)) || ((second && (far || false)) || (both && false)))
  at_0 = simp (or-false, and-false)

  at_4 : ((first && far) || (second && near)) ≡ ((first && far) || ((second && near) || (both && false)))
  at_4 = simp (or-false, and-false)

  at_1 : (both && (near || far)) ≡ ((first && false) || ((second && false) || (both && (near || far))))
  at_1 = simp and-false

pub returns-then-l-eq0 : goal.returns-then-l-eq0
returns-then-l-eq0 c = let a = c.args in rw c.if-l-eq0.true (at_0 a.near a.far (leb 1 a.g.cports) (leb 2 a.g.cports) (leb 4 a.g.cports))

pub returns-then-l-eq4 : goal.returns-then-l-eq4
returns-then-l-eq4 c = let a = c.args in rw c.if-l-eq4.true (at_4 a.near a.far (leb 1 a.g.cports) (leb 2 a.g.cports) (leb 4 a.g.cports))

pub returns-then-l-eq1 : goal.returns-then-l-eq1
returns-then-l-eq1 c = let a = c.args in rw c.if-l-eq1.true (at_1 a.near a.far (leb 1 a.g.cports) (leb 2 a.g.cports) (leb 4 a.g.cports))

pub returns : goal.returns
returns c = simp (ne_eqb _ _ c.if-l-eq1.false, ne_eqb _ _ c.if-l-eq4.false, ne_eqb _ _ c.if-l-eq0.false, and-false)
