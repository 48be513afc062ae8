use native.Mathlib.Nat.{mod-lt}
use native.Mathlib.Omega.{arith}
use Rattle.units.specs.Quick.{Serves}
use Rattle.timetable.proofs.Searching.{allows_some, period_some}
use Rattle.timetable.proofs.seek_from.Goals as goal

pub sight_of-sight-requires : goal.sight_of-sight-requires
sight_of-sight-requires c =
    let T = c.timetable_of-table.ensures.1 in
    (T, allows_some c.args.ms c.requires.0 c.args.p c.requires.1 c.requires.2, mod-lt c.args.from (omega (arith, T.long)))

pub returns : goal.returns
returns c =
    let ms = c.args.ms in
    let p = c.args.p in
    let T = c.timetable_of-table.ensures in
    let S : Serves ms c.timetable_of-table.result = (c.requires.0, T.0) in
    let e = c.sight_of-sight.ensures in
    record {
      serves = S;
      sized = T.1;
      allowing = allows_some ms c.requires.0 p c.requires.1 c.requires.2;
      some = period_some ms c.requires.0 p c.requires.1 c.requires.2 c.timetable_of-table.result S (omega (arith, T.1.long));
      seen = e.0;
      early = e.1;
      few = e.2;
      sight = e.5 ms S;
    }
