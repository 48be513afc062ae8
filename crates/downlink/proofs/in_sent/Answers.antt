use Rattle.downlink.proofs.Joined.{use_below}
use Rattle.downlink.proofs.in_sent.Goals as goal

pub use_at-requires : goal.use_at-requires
use_at-requires c = (c.requires.0.layout, c.requires.0.part, c.requires.2, c.requires.3, c.requires.4)

pub in_use-requires : goal.in_use-requires
in_use-requires c = (c.requires.0, c.requires.1, use_below c.args.b _ _ c.use_at.ensures)

pub returns : goal.returns
returns c = c.in_use.ensures _ c.use_at.ensures
