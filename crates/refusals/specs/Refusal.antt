-- For the code alone. The number of a refusal, and that of what may be refused.
use Rattle.std.specs.Prelude.{ℕ, Result, Ok, Err}
use Rattle.refusals.specs.declared.Refusal.{Refusal}
use Rattle.refusals.specs.declared.Refusal.TheVariants as refusal

abbrev pub number_of : Refusal → ℕ
number_of refusal.Carrier = 1
number_of refusal.Identity = 2
number_of refusal.NarrowbandPorts = 3
number_of refusal.CellPorts = 4
number_of refusal.ControlRegion = 5
number_of refusal.Sib1Schedule = 6
number_of refusal.BadBitmap = 7
number_of refusal.EmptyBitmap = 8
number_of refusal.LateSubframe = 9
number_of refusal.LargeField = 10
number_of refusal.SubcarrierField = 11
number_of refusal.Repetitions = 12
number_of refusal.Mcs = 13
number_of refusal.NoSuchPlace = 14
number_of refusal.Length = 15
number_of refusal.Level = 16
number_of refusal.TwoPorts = 17
number_of refusal.NeverUsable = 18
number_of refusal.WindowsNotListed = 19
number_of refusal.NeverFree = 20
number_of refusal.MessagesNotListed = 21
number_of refusal.ShortPeriod = 22
number_of refusal.LateOffset = 23
number_of refusal.PortsDiffer = 24
number_of refusal.NoBroadcast = 25

-- 0 for what is not refused
abbrev pub refused_by : {A : Type 0} → Result A Refusal → ℕ
refused_by (Ok _) = 0
refused_by (Err r) = number_of r
