use Rattle.std.proofs.Common.{rules, tests}
use Rattle.std.proofs.lemmas.Iterator.{YieldsList-from_range, YieldsList-from_map}
use Rattle.std.proofs.lemmas.Iterator.Adapters.{YieldsList-from_flat_map}
use Rattle.std.proofs.lemmas.Iterator.Consumers.{YieldsList-at, YieldsList-from_filter, count_from_yields_List}
use mathlib.Core.Bool.{not}
use mathlib.Core.Logic.{inr}
use mathlib.Core.Path.{◌≡◌, ◌∙◌}
use Prim.Native.Nat.{◌+◌}
use native.Mathlib.Omega.{arith}
use Rattle.uplink.specs.Elements.{is_reference, slot_data}
use Rattle.uplink.proofs.Lines.{some_data, slot_data_small}
use Rattle.chains.proofs.Counted.{runs_fit}
use Rattle.plain_uplink.proofs.DataRows.{tones_of, data_counted}
use Rattle.plain_uplink.proofs.elements.slot_data.Goals as goal

pub count-requires-clause-fits : goal.count-requires-clause-fits
count-requires-clause-fits c =
    let s = c.args.s in
    inr (runs_fit
    (YieldsList-from_flat_map _ _ _ (λ x. x) (tones_of s) _
    (λ l u q k. (
      search (rules, tests),
      λ j o. YieldsList-at o
          (YieldsList-from_map _ (λ k. record { l = l; k = k }) {f = record { 0 = l }}
          (YieldsList-from_range s.tone (s.tone + s.tones) s.tones (search (rules, tests)) (omega arith)) (search (rules, tests))
          (λ x r q k. search (rules, tests))),
    ))
    (YieldsList-at c.flat_map.ensures.source (YieldsList-from_filter _ (λ l. not (is_reference s l))
    (YieldsList-from_range 0 _ 7 c.filter.ensures.source (omega arith)) c.filter.ensures.closure
    (λ x b q k. search (rules, tests))))
    c.flat_map.ensures.closure c.flat_map.ensures.front c.flat_map.ensures.back c.flat_map.ensures.done)
    (omega (arith, data_counted s c.requires, slot_data_small s c.requires)))

pub returns : goal.returns
returns c =
    let s = c.args.s in
    let n : c.count.result ≡ slot_data s =
    count_from_yields_List c.flat_map.result c.count.result c.count.ensures.ran
    (YieldsList-from_flat_map _ _ _ (λ x. x) (tones_of s) _
    (λ l u q k. (
      search (rules, tests),
      λ j o. YieldsList-at o
          (YieldsList-from_map _ (λ k. record { l = l; k = k }) {f = record { 0 = l }}
          (YieldsList-from_range s.tone (s.tone + s.tones) s.tones (search (rules, tests)) (omega arith)) (search (rules, tests))
          (λ x r q k. search (rules, tests))),
    ))
    (YieldsList-at c.flat_map.ensures.source (YieldsList-from_filter _ (λ l. not (is_reference s l))
    (YieldsList-from_range 0 _ 7 c.filter.ensures.source (omega arith)) c.filter.ensures.closure
    (λ x b q k. search (rules, tests))))
    c.flat_map.ensures.closure c.flat_map.ensures.front c.flat_map.ensures.back c.flat_map.ensures.done)
    ∙ data_counted s c.requires in
    (n, omega (arith, n, some_data s c.requires), omega (arith, n, slot_data_small s c.requires))
