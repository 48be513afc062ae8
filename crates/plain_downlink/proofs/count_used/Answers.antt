use Rattle.std.proofs.Common.{rules, tests}
use Rattle.std.proofs.lemmas.Iterator.{YieldsList-from_range, YieldsList-from_map}
use Rattle.std.proofs.lemmas.Iterator.Consumers.{sum_from_yields_List, fits_from_yields_list}
use mathlib.Core.Bool.{not}
use mathlib.Core.Path.{◌≡◌, ◌∙◌}
use Prim.Native.Nat.{◌+◌, ◌-◌, ◌%◌}
use native.Mathlib.Omega.{arith}
use Rattle.counting.specs.Counting.{count}
use Rattle.grid.specs.Grid.{subcarriers, symbols}
use Rattle.elements.specs.Elements.{reference, count_of}
use Rattle.elements.proofs.Laws.{count_some, count_le}
use Rattle.plain_downlink.proofs.Rows.{all_counted}
use Rattle.plain_downlink.proofs.count_used.Goals as goal

pub sum-requires-clause-fits : goal.sum-requires-clause-fits
sum-requires-clause-fits c =
    let a = c.args in
    fits_from_yields_list c.map.result _
    (YieldsList-from_map _ (λ r. count (λ k. not (reference a.g (r % symbols) k)) a.low a.width)
    (YieldsList-from_range a.g.control 14 (14 - a.g.control) c.map.ensures.source (omega arith)) c.map.ensures.closure (λ x r q k. search (rules, tests)))
    (omega (arith, all_counted a.g c.requires.0 a.low a.width c.requires.1 (subcarriers - (a.low + a.width)) (14 - a.g.control) (omega (arith, c.requires.1)) (omega (arith, c.requires.0.region)), count_le a.g a.low a.width))

pub returns : goal.returns
returns c =
    let a = c.args in
    let n : c.sum.result ≡ count_of a.g a.low a.width =
    sum_from_yields_List c.map.result c.sum.result c.sum.ensures.ran
    (YieldsList-from_map _ (λ r. count (λ k. not (reference a.g (r % symbols) k)) a.low a.width)
    (YieldsList-from_range a.g.control 14 (14 - a.g.control) c.map.ensures.source (omega arith)) c.map.ensures.closure (λ x r q k. search (rules, tests)))
    ∙ all_counted a.g c.requires.0 a.low a.width c.requires.1 (subcarriers - (a.low + a.width)) (14 - a.g.control) (omega (arith, c.requires.1)) (omega (arith, c.requires.0.region)) in
    (n, omega (arith, n, count_some a.g a.low a.width c.requires.1), omega (arith, n, count_le a.g a.low a.width))
