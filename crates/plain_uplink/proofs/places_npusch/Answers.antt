use mathlib.Core.Path.{ap}
use Rattle.sending.specs.declared.Total.{Total}
use Rattle.npusch.specs.Refusals.{refusal}
use Rattle.npusch.specs.Shaping.{shape_of}
use Rattle.npusch.specs.Questions.{plan_of}
use Rattle.plain_uplink.proofs.places_npusch.Goals as goal

pub returns : goal.returns
unfolding plan_of refusal shape_of
returns c = (ap (λ (x : Total). x.no) c.places_of.ensures, ap (λ (x : Total). x.places) c.places_of.ensures)
