use Rattle.downlink.proofs.Joined.{inside_parts, use_below}
use Rattle.broadcast.proofs.standing.Goals as goal

pub use_at-x-requires : goal.use_at-x-requires
use_at-x-requires c =
    let g = inside_parts c.args.slot c.args.l c.args.k c.requires.1 in
    (c.requires.0.layout, c.requires.0.part, g.0, g.1, g.2)

pub in_use-requires : goal.in_use-requires
in_use-requires c = (c.requires.0, c.requires.2 _ c.in-Some.is, use_below c.args.b _ _ c.use_at-x.ensures)

pub returns-in-Some : goal.returns-in-Some
returns-in-Some c = rw c.in-Some.is (c.in_use.ensures _ c.use_at-x.ensures)

pub returns-in-None : goal.returns-in-None
returns-in-None c = rw c.in-None.is c.not_ours.ensures
