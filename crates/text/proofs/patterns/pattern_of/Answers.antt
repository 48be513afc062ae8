use Rattle.std.proofs.Common.{sym, ap, ◌∙◌}
use lib.Ieee.{binary32, to_bits}
use Rattle.text.proofs.Nan.{is_the_nan, pattern}
use Rattle.text.proofs.patterns.pattern_of.Goals as goal

pub returns-then-is_nan : goal.returns-then-is_nan
returns-then-is_nan c = pattern ∙ ap (to_bits binary32) (is_the_nan _ (sym c.is_nan.ensures.value ∙ c.if-is_nan.true))
