use Rattle.std.proofs.Common.{rules, tests}
use Rattle.std.proofs.lemmas.Iterator.{cases_from_any, YieldsList-from_slice}
use Rattle.std.specs.Prelude.{Option}
use mathlib.Core.Bool.{Bool, true, false, not}
use mathlib.Core.Path.{◌≡◌, ap}
use Prim.Native.Nat.{◌+◌, ◌*◌}
use Rattle.plain_uplink.specs.declared.obstacles.Obstacle.{Obstacle}
use Rattle.plain_uplink.specs.Obstacles.{blocks, clear_of}
use Rattle.chains.proofs.Tested.{any_is}
use Rattle.plain_uplink.proofs.obstacles.is_clear.Goals as goal

pub returns : goal.returns
unfolding clear_of
returns c =
    let os = c.args.os in
    let p : Option Obstacle → Bool = λ w. blocks w (os.ms * c.args.u + os.ms) in
    ap not
    (any_is p os.windows c.any.result
    (cases_from_any _ _ _ (λ w. p w ≡ true) (λ w. p w ≡ false) c.any.ensures.ran (YieldsList-from_slice os.windows cc)
    (λ x q k. search (rules, tests)) (λ x q k. search (rules, tests))))
