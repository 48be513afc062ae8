use mathlib.Core.Path.{ap}
use Rattle.sending.specs.declared.Total.{Total}
use Rattle.npdsch.specs.Questions.{plan_of}
use Rattle.plain_downlink.proofs.places_npdsch.Goals as goal

pub returns : goal.returns
unfolding plan_of
returns c = (ap (λ (x : Total). x.no) c.total.ensures, ap (λ (x : Total). x.places) c.total.ensures)
