-- For the code alone. Where a walk over a question judged ends: the plan's number and places.
use Rattle.std.specs.Prelude.{ℕ, Result, Ok, Err}
use Rattle.refusals.specs.declared.Refusal.{Refusal}
use Rattle.refusals.specs.Refusal.{number_of}
use Rattle.sending.specs.declared.Total.{Total}
use Rattle.downlink.specs.declared.DownlinkPlan.{DownlinkPlan}

-- a refusal has its number and no places
abbrev pub total_of : Result ℕ Refusal → Total
total_of (Ok places) = record { no = 0; places = places }
total_of (Err refusal) = record { no = number_of refusal; places = 0 }

abbrev pub total_in : DownlinkPlan → Total
total_in plan = record { no = plan.no; places = plan.places }
