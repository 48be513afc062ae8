use Rattle.uplink.proofs.Splitting.{index_some, index_none}
use Rattle.uplink.proofs.timing.active_index.Goals as goal

pub returns-then-rest-block : goal.returns-then-rest-block
returns-then-rest-block c = index_some c.args.s c.requires c.args.x _ c.over_gap_period-whole.ensures c.if-rest-block.true

pub returns-else-rest-block : goal.returns-else-rest-block
returns-else-rest-block c = index_none c.args.s c.requires c.args.x _ c.over_gap_period-whole.ensures c.if-rest-block.false
