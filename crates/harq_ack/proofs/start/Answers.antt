use mathlib.Core.Path.{◌≡◌}
use native.Mathlib.Omega.{arith}
use Rattle.harq_ack.proofs.Accepting.{ranged, Named, named}
use Rattle.harq_ack.specs.declared.HarqAckGrant.{HarqAckGrant}
use Rattle.harq_ack.specs.Refusals.{fields_refusal}
use Rattle.harq_ack.proofs.start.Goals as goal

names : (g : HarqAckGrant) → fields_refusal g ≡ 0 → Named g.spacing g.field
names g e = let a = ranged g e in named g.spacing g.field a.spacing a.field

pub delay-requires : goal.delay-requires
delay-requires c = (ranged c.args.g c.requires).field

pub overflow_add-g : goal.overflow_add-g
overflow_add-g c = omega (arith, c.delay.ensures, (ranged c.args.g c.requires).early, (names c.args.g c.requires).small)

pub overflow_sub-g : goal.overflow_sub-g
overflow_sub-g c = omega (arith, c.delay.ensures, (names c.args.g c.requires).some)

pub first_after-requires : goal.first_after-requires
first_after-requires c = omega (arith, c.delay.ensures, (ranged c.args.g c.requires).early, (names c.args.g c.requires).small)
