use mathlib.Core.Path.{ap₂, ◌∙◌}
use Prim.Native.Nat.{ℕ}
use Rattle.numerology.specs.Numerology.{by_spacing}
use Rattle.harq_ack.specs.Fields.{delay_of}
use Rattle.harq_ack.proofs.Accepting.{by_fours_lem}
use Rattle.harq_ack.proofs.delay.Goals as goal

pub returns : goal.returns
unfolding delay_of
returns c =
    c.by_spacing.ensures
    ∙ ap₂ (λ (x y : ℕ). by_spacing c.args.spacing x y) (c.from.ensures ∙ by_fours_lem c.args.field c.requires) c.from-2.ensures
