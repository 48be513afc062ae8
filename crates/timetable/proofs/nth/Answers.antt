use native.Mathlib.Omega.{arith}
use Rattle.spans.specs.Pattern.{allows}
use Rattle.timetable.specs.Quick.{moved, Hits}
use Rattle.timetable.proofs.Searching.{found_is, struck}
use Rattle.timetable.proofs.nth.Goals.{After-find-hit}
use Rattle.timetable.proofs.nth.Goals as goal

hits : (c : After-find-hit) → Hits c.args.ms (allows c.args.p) c.seek_from-g.result.table (moved c.seek_from-g.result.sight c.args.j) c.find-hit.result
hits c = let B = c.seek_from-g.ensures in c.find-hit.ensures.4 c.args.ms B.serves B.sight.exact

pub hit_of-requires : goal.hit_of-requires
hit_of-requires c =
    let a = c.args in
    let B = c.seek_from-g.ensures in
    let e = c.find-hit.ensures in
    (B.sized, B.allowing, e.0, omega (arith, e.1, B.early, B.sized.units), e.2, omega (arith, e.3), c.requires.3, struck a.ms a.p a.from c.seek_from-g.result B c.find-hit.result a.j (hits (goal.at.hit_of-requires c).After-find-hit))

pub returns : goal.returns
returns c =
    let a = c.args in
    let B = c.seek_from-g.ensures in
    found_is a.ms c.requires.0 a.p c.requires.1 c.requires.2 a.from a.j c.hit_of.result
    (c.hit_of.ensures a.ms B.serves c.seek_from-g.result.sight a.j B.sight (hits (goal.at.returns c).After-find-hit))
