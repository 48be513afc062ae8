use mathlib.Core.Path.{ap}
use Rattle.sending.specs.declared.Total.{Total}
use Rattle.harq_ack.specs.Refusals.{refusal}
use Rattle.harq_ack.specs.Shaping.{shape_of}
use Rattle.harq_ack.specs.Questions.{plan_of}
use Rattle.plain_uplink.proofs.places_harq_ack.Goals as goal

pub returns : goal.returns
unfolding plan_of refusal shape_of
returns c = (ap (λ (x : Total). x.no) c.places_of.ensures, ap (λ (x : Total). x.places) c.places_of.ensures)
