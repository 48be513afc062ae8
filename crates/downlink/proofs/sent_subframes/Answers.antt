use mathlib.Core.Path.{refl}
use native.Mathlib.Omega.{arith}
use native.Mathlib.Nat.{mul-pos}
use Rattle.downlink.proofs.Joined.{sent_small}
use Rattle.downlink.proofs.sent_subframes.Goals as goal

pub overflow_mul-result : goal.overflow_mul-result
overflow_mul-result c = omega (arith, sent_small c.args.b c.requires)

pub returns : goal.returns
returns c = (refl, mul-pos c.requires.copies c.requires.codeword, sent_small c.args.b c.requires)
