use mathlib.Core.Path.{refl}
use Rattle.symbol.specs.Symbol.{level_in_range}
use Rattle.symbol.proofs.in_range.Goals as goal

pub returns : goal.returns
unfolding level_in_range
returns c = refl
