use mathlib.Core.Path.{refl, sym, ◌∙◌}
use native.Mathlib.Omega.{arith}
use Rattle.counting.proofs.Facts.{both_parts}
use Rattle.nprach.specs.Windows.{shares_tone}
use Rattle.nprach.proofs.Listing.{numbers}
use Rattle.plain_uplink.specs.Obstacles.{obstacle_of}
use Rattle.plain_uplink.proofs.obstacles.one.Goals as goal

pub concerns-requires : goal.concerns-requires
concerns-requires c = (c.requires.1, c.requires.2, c.requires.3)

pub returns-then-not-concerns : goal.returns-then-not-concerns
unfolding obstacle_of
returns-then-not-concerns c = (rw (sym c.concerns.ensures ∙ c.if-not-concerns.true) refl, tt)

-- the window stands in the way, so it is listed
pub overflow_add-result : goal.overflow_add-result
overflow_add-result c =
    let a = c.args in
    let concerned = sym c.concerns.ensures ∙ c.if-not-concerns.false in
    let n = numbers a.w (c.requires.3 (both_parts a.read (shares_tone a.tone a.tones a.w) concerned).0) in
    omega (arith, c.requires.0, n.length_to)

pub returns : goal.returns
unfolding obstacle_of
returns c =
    let a = c.args in
    let concerned = sym c.concerns.ensures ∙ c.if-not-concerns.false in
    let n = numbers a.w (c.requires.3 (both_parts a.read (shares_tone a.tone a.tones a.w) concerned).0) in
    (rw concerned refl, (omega (arith, n.period_from), n.period_to, n.start_to))
