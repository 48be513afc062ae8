use native.Mathlib.Omega.{arith}
use Rattle.nprach.specs.Windows.{is_listed}
use Rattle.nprach.proofs.Listing.{either_length, tone_fits}
use Rattle.nprach.proofs.is_listed.Goals as goal

pub returns-then-is_repeated-2 : goal.returns-then-is_repeated-2
unfolding is_listed
returns-then-is_repeated-2 c = grind (arith, tone_fits, either_length)
