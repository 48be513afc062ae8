use Prim.Native.Nat.{◌+◌, ◌%◌}
use Rattle.closures.specs.Closures.{is_closed, leaves_open}
use Rattle.closures.proofs.Ordering.{not_below}
use Rattle.closures.proofs.leaves_open_at.Goals as goal

pub returns : goal.returns
unfolding leaves_open is_closed
returns c = not_below ((c.args.t + c.args.b.phase) % c.args.b.period) c.args.b.closed
