use native.Mathlib.Omega.{arith}
use Rattle.units.proofs.Lanes.{place_on, short}
use Rattle.strides.proofs.quiet.Goals as goal

pub returns-else-x-l : goal.returns-else-x-l
returns-else-x-l c =
    let l = c.args.l in
    let x = c.place-x.ensures.0 in (
      λ i h. omega (arith, place_on l c.requires.0 c.args.n i (omega (arith, h, c.power_of_two.ensures, x)), x, c.if-x-l.false),
      omega (arith, c.power_of_two.ensures, short l c.requires.0),
    )
