-- A NaN's pattern is read as the one NaN.
use Rattle.std.proofs.Common.{sym, ◌∙◌, subst, Bool, not}
use lib.Dec.{T}
use lib.Ieee.{binary32, of_bits, nan_bits}
use lib.Ieee.Bits.{nan_bits_is}
use Rattle.text.proofs.Nan.{is_the_nan, of_pattern}
use Rattle.text.proofs.patterns.float_of.Goals as goal

pub returns-then-pattern : goal.returns-then-pattern
unfolding nan_bits
returns-then-pattern c = of_pattern ∙ is_the_nan (of_bits binary32 c.args.pattern) (sym (nan_bits_is binary32 c.args.pattern) ∙ c.if-pattern.true)

pub float_from_bits-result : goal.float_from_bits-result
unfolding nan_bits
float_from_bits-result c = subst (λ (b : Bool). T (not b)) (sym c.if-pattern.false) tt
