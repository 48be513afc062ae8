use mathlib.Core.Path.{refl}
use Prim.Native.Nat.{◌<◌}
use Rattle.closures.specs.Quick.{count_over, CountsOver}
use Rattle.closures.proofs.Nesting.{count_slow, idle_ranged, counts_all, counts1, counts2, counts3}
use Rattle.closures.proofs.with_counts.Goals.{After-count_over, After-count_over-2, After-count_over-3, After-count_over-4}
use Rattle.closures.proofs.with_counts.Goals as goal

-- what each count-over has over those below it
over1 : (c : After-count_over) → let b = c.args.b in 0 < b.b1.closed → CountsOver b.b1 (λ t. t) c.count_over.result
unfolding count_over
over1 c = rw (c.none.ensures, c.no_count.ensures) at c.count_over.ensures.1

over2 : (c : After-count_over-2)
    → let b = c.args.b in
    0 < b.b2.closed → CountsOver b.b2 (count_over b.b1 c.count_over.result (λ t. t)) c.count_over-2.result
unfolding count_over
over2 c = rw (c.none.ensures, c.no_count.ensures) at c.count_over-2.ensures.1

over3 : (c : After-count_over-3)
    → let b = c.args.b in
    0 < b.b3.closed → CountsOver b.b3 (count_over b.b2 c.count_over-2.result (count_over b.b1 c.count_over.result (λ t. t))) c.count_over-3.result
unfolding count_over
over3 c = rw (c.none.ensures, c.no_count.ensures) at c.count_over-3.ensures.1

over4 : (c : After-count_over-4)
    → let b = c.args.b in
    0 < b.b4.closed
    → CountsOver b.b4
    (count_over b.b3 c.count_over-3.result (count_over b.b2 c.count_over-2.result (count_over b.b1 c.count_over.result (λ t. t))))
    c.count_over-4.result
unfolding count_over
over4 c = rw (c.none.ensures, c.no_count.ensures) at c.count_over-4.ensures.1

pub count_over-requires : goal.count_over-requires
unfolding count_over
count_over-requires c =
    let so = c.requires in
    rw (c.none.ensures, c.no_count.ensures)
    (so.usable.u1, so.c1, record { r1 = idle_ranged; r2 = idle_ranged; r3 = idle_ranged; r4 = idle_ranged }, count_slow _ _ counts_all)

pub count_over-requires-2 : goal.count_over-requires-2
unfolding count_over
count_over-requires-2 c =
    let so = c.requires in
    rw (c.none.ensures, c.no_count.ensures) (
      so.usable.u2,
      so.c2,
      record { r1 = c.count_over.ensures.0; r2 = idle_ranged; r3 = idle_ranged; r4 = idle_ranged },
      count_slow _ _ (counts1 c.args.b so _ (over1 (goal.at.count_over-requires-2 c).After-count_over)),
    )

pub count_over-requires-3 : goal.count_over-requires-3
unfolding count_over
count_over-requires-3 c =
    let so = c.requires in
    let at = goal.at.count_over-requires-3 c in
    rw (c.none.ensures, c.no_count.ensures) (
      so.usable.u3,
      so.c3,
      record { r1 = c.count_over.ensures.0; r2 = c.count_over-2.ensures.0; r3 = idle_ranged; r4 = idle_ranged },
      count_slow _ _ (counts2 c.args.b so _ (over1 at.After-count_over) _ (over2 at.After-count_over-2)),
    )

pub count_over-requires-4 : goal.count_over-requires-4
unfolding count_over
count_over-requires-4 c =
    let so = c.requires in
    let at = goal.at.count_over-requires-4 c in
    rw (c.none.ensures, c.no_count.ensures) (
      so.usable.u4,
      so.c4,
      record { r1 = c.count_over.ensures.0; r2 = c.count_over-2.ensures.0; r3 = c.count_over-3.ensures.0; r4 = idle_ranged },
      count_slow _ _ (counts3 c.args.b so _ (over1 at.After-count_over) _ (over2 at.After-count_over-2) _ (over3 at.After-count_over-3)),
    )

pub returns : goal.returns
returns c =
    let at = goal.at.returns c in (
      record {
        sorted = c.requires;
        ranged = record { r1 = c.count_over.ensures.0; r2 = c.count_over-2.ensures.0; r3 = c.count_over-3.ensures.0; r4 = c.count_over-4.ensures.0 };
        o1 = over1 at.After-count_over;
        o2 = over2 at.After-count_over-2;
        o3 = over3 at.After-count_over-3;
        o4 = over4 at.After-count_over-4;
      },
      refl,
    )
