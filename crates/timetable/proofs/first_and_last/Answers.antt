use Prim.Native.Nat.{◌+◌}
use native.Mathlib.Omega.{arith}
use Rattle.spans.specs.Pattern.{allows}
use Rattle.timetable.specs.declared.Hit.{Hit}
use Rattle.timetable.specs.Quick.{moved, Hits}
use Rattle.timetable.proofs.Searching.{found_is, hits_on, struck}
use Rattle.timetable.proofs.first_and_last.Goals.{After-find-b}
use Rattle.timetable.proofs.first_and_last.Goals as goal

module _ (c : After-find-b) where
  first : Hits c.args.ms (allows c.args.p) c.seek_from-g.result.table (moved c.seek_from-g.result.sight c.args.j) c.find-a.result
  first = let B = c.seek_from-g.ensures in c.find-a.ensures.4 c.args.ms B.serves B.sight.exact

  -- and from there on the last
  abbrev both : Hit
  both = record { sight = c.find-b.result.sight; later = c.find-b.result.later + c.find-a.result.later }

  last : Hits c.args.ms (allows c.args.p) c.seek_from-g.result.table (moved c.seek_from-g.result.sight (c.args.j + c.args.more)) both
  last =
      let B = c.seek_from-g.ensures in
      let z = c.args in
      hits_on z.ms z.p B.allowing.regular c.seek_from-g.result.table B.serves c.seek_from-g.result.sight z.j z.more c.find-a.result c.find-b.result first
      (c.find-b.ensures.4 z.ms B.serves first.exact)

pub hit_of-requires : goal.hit_of-requires
hit_of-requires c =
    let z = c.args in
    let B = c.seek_from-g.ensures in
    let e = c.find-a.ensures in
    let b = (goal.at.hit_of-requires c).After-find-b in
    (B.sized, B.allowing, e.0, omega (arith, e.1, B.early, B.sized.units), e.2, omega (arith, e.3), c.requires.3, struck z.ms z.p z.from c.seek_from-g.result B c.find-a.result z.j (first b))

pub hit_of-requires-2 : goal.hit_of-requires-2
hit_of-requires-2 c =
    let z = c.args in
    let B = c.seek_from-g.ensures in
    let e = c.find-b.ensures in
    let b = (goal.at.hit_of-requires-2 c).After-find-b in
    (B.sized, B.allowing, e.0, omega (arith, e.1, c.find-a.ensures.1, B.early, B.sized.units), e.2, omega (arith, e.3, c.find-a.ensures.3), c.requires.3, struck z.ms z.p z.from c.seek_from-g.result B (both b) (z.j + z.more) (last b))

pub returns : goal.returns
returns c =
    let z = c.args in
    let B = c.seek_from-g.ensures in
    let b = (goal.at.returns c).After-find-b in
    let sight = c.seek_from-g.result.sight in
    let is = found_is z.ms c.requires.0 z.p c.requires.1 c.requires.2 z.from in (
      is z.j c.hit_of.result (c.hit_of.ensures z.ms B.serves sight z.j B.sight (first b)),
      is (z.j + z.more) c.hit_of-2.result (c.hit_of-2.ensures z.ms B.serves sight (z.j + z.more) B.sight (last b)),
    )
