use mathlib.Core.Path.{ap}
use Prim.Native.Nat.{ℕ, ◌+◌}
use Rattle.uplink.specs.Timing.{slot_at}
use Rattle.uplink.proofs.GapPeriods.{first_plain}
use Rattle.uplink.proofs.groups.AllOpenOpenGroups.ends.Goals as goal

pub returns : goal.returns
unfolding slot_at
returns c = (first_plain c.args.s c.requires.0, ap (λ (x : ℕ). c.args.s.first + x) c.active_at.ensures.0)
