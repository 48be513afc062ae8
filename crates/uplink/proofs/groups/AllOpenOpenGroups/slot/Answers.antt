use mathlib.Core.Path.{ap}
use Prim.Native.Nat.{ℕ, ◌+◌}
use Rattle.uplink.specs.Timing.{slot_at}
use Rattle.uplink.proofs.groups.AllOpenOpenGroups.slot.Goals as goal

pub returns : goal.returns
unfolding slot_at
returns c = ap (λ (x : ℕ). c.args.s.first + x) c.active_at.ensures.0
