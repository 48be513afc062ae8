-- For the code alone. Two of plan's numbers.
use Rattle.uplink.specs.declared.UplinkPlan.{UplinkPlan}
use Rattle.sending.specs.declared.Total.{Total}

abbrev pub of_plan : UplinkPlan → Total
of_plan a = record { no = a.no; places = a.places }
