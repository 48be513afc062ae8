use Prim.Native.Nat.{ℕ, ◌%◌}
use mathlib.Core.Path.{ap}
use Rattle.spans.specs.Pattern.{span, mask_bit, allows}
use Rattle.spans.proofs.is_allowed.Goals as goal

pub returns : goal.returns
unfolding allows
returns c = ap (λ (m : ℕ). mask_bit m (c.args.t % span)) c.mask_at.ensures
