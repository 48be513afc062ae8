use native.Mathlib.Omega.{arith}
use Rattle.nprach.proofs.Listing.{numbers}
use Rattle.nprach.proofs.concerns.Goals as goal

pub overflow_add-w : goal.overflow_add-w
overflow_add-w c = omega (arith, (numbers c.args.w (c.requires.2 c.if-read.true)).tone_to)
