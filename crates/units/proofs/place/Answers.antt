use mathlib.Core.Path.{ap, ◌∙◌}
use Prim.Native.Nat.{ℕ, ◌+◌, ◌-◌, ◌%◌, ◌^◌}
use native.Mathlib.Omega.{arith}
use lib.Pow.{pow_mono}
use Rattle.units.specs.Quick.{place_of}
use Rattle.units.proofs.Lanes.{place_below}
use Rattle.units.proofs.place.Goals as goal

pub returns : goal.returns
unfolding place_of
returns c =
    let a = c.args in
    let e = c.low.ensures ∙ ap (λ (x : ℕ). (a.n + x - a.l.start) % 2 ^ a.l.log) c.power_of_two.ensures in
    let inside = place_below a.l a.n in
    let short = pow_mono {i = a.l.log} {j = 11} c.requires.0 in
    (e, rw e inside, omega (arith, e, inside, short))
