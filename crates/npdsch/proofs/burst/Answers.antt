use native.Mathlib.Omega.{arith}
use Rattle.npdsch.proofs.Accepting.{grant_accepted}
use Rattle.npdsch.proofs.burst.Goals as goal

pub downlink_delay-skip-requires : goal.downlink_delay-skip-requires
downlink_delay-skip-requires c = (grant_accepted _ c.requires).delay

pub length-codeword-requires : goal.length-codeword-requires
length-codeword-requires c = (grant_accepted _ c.requires).subframes

pub downlink_copies-copies-requires : goal.downlink_copies-copies-requires
downlink_copies-copies-requires c = (grant_accepted _ c.requires).copies

pub overflow_add-result : goal.overflow_add-result
overflow_add-result c = omega (arith, (grant_accepted c.args.g c.requires).n)

pub returns : goal.returns
returns c =
    simp (c.up_to_four-consecutive.ensures, c.downlink_copies-copies.ensures, c.length-codeword.ensures, c.downlink_delay-skip.ensures, c.layout-layout.ensures)
