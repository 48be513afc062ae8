use Rattle.std.proofs.Common.{rules, tests}
use Rattle.std.proofs.lemmas.Iterator.{cases_from_any, YieldsList-from_range}
use Rattle.std.specs.List.{range_with_len}
use mathlib.Core.Bool.{true, false}
use mathlib.Core.Path.{◌≡◌, ◌∙◌}
use Prim.Native.Nat.{◌/◌}
use native.Mathlib.Omega.{arith}
use Rattle.nprach.specs.Windows.{all_periods}
use Rattle.chains.proofs.Ranges.{range_any}
use Rattle.chains.proofs.Tested.{any_is}
use Rattle.plain_uplink.specs.Obstacles.{clear_of}
use Rattle.plain_uplink.proofs.obstacles.is_ever_clear.Goals as goal

pub returns : goal.returns
returns c =
    let u = clear_of c.args.os in
    let n = all_periods / c.args.os.ms in
    any_is u (range_with_len 0 n) c.any.result
    (cases_from_any _ _ _ (λ x. u x ≡ true) (λ x. u x ≡ false) c.any.ensures.ran (YieldsList-from_range 0 n n (cc) (omega arith))
    (λ x q k. search (rules, tests)) (λ x q k. search (rules, tests)))
    ∙ range_any u n
