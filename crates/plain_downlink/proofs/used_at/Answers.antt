use Rattle.std.proofs.Common.{rules, tests}
use Rattle.std.proofs.lemmas.Iterator.{YieldsList-from_range, YieldsList-from_map}
use Rattle.std.proofs.lemmas.Iterator.Adapters.{YieldsList-from_flat_map, option_map_id}
use Rattle.std.proofs.lemmas.Iterator.Consumers.{YieldsList-at, YieldsList-from_filter, nth_from_yields_List}
use Rattle.std.proofs.lemmas.Option.{same_Some, slice_get-map}
use Rattle.std.specs.List.{slice_get}
use Rattle.std.specs.Option.{option_map}
use Rattle.std.specs.Prelude.{Some}
use mathlib.Core.Path.{◌≡◌, refl, sym, ap, ◌∙◌}
use Prim.Native.Nat.{◌+◌, ◌-◌, ◌<◌, ◌/◌, ◌%◌}
use native.Mathlib.Omega.{arith}
use Rattle.grid.specs.Grid.{subcarriers, elements}
use Rattle.elements.specs.Elements.{used, element_at}
use Rattle.elements.proofs.Laws.{element_below}
use Rattle.chains.proofs.Ranges.{range_selects}
use Rattle.plain_downlink.proofs.Rows.{placed, row_of, is_free, elements_of, all_found}
use Rattle.plain_downlink.proofs.used_at.Goals.{After-nth, After-unwrap-at}
use Rattle.plain_downlink.proofs.used_at.Goals as goal

found : (c : After-nth) → c.nth.result ≡ Some (placed (element_at c.args.g c.args.low c.args.width c.args.e))
found c =
    let a = c.args in
    let g = c.args.g in
    sym (option_map_id c.nth.result)
    ∙ nth_from_yields_List c.nth.result _ a.e c.nth.ensures.ran
    (YieldsList-from_flat_map _ _ _ (λ x. x) (elements_of g a.low a.width) _
    (λ r u q k. (
      search (rules, tests),
      λ j o. YieldsList-at o (YieldsList-from_map _ (λ k. record { row = r.number; k = k }) {f = record { 0 = r.number }}
          (YieldsList-from_filter _ (is_free g r.references) {f = record { 0 = r.references; 1 = g.v; 2 = (g.v + 3) % 6 }}
          (YieldsList-from_range a.low (a.low + a.width) a.width (search (rules, tests)) (omega arith)) (search (rules, tests)) (λ x b q k. search (rules, tests)))
          (search (rules, tests)) (λ x r q k. search (rules, tests))),
    ))
    (YieldsList-at c.flat_map.ensures.source (YieldsList-from_map _ (row_of g)
    (YieldsList-from_range g.control 14 (14 - g.control) c.map.ensures.source (omega arith)) c.map.ensures.closure (λ x r q k. search (rules, tests))))
    c.flat_map.ensures.closure c.flat_map.ensures.front c.flat_map.ensures.back c.flat_map.ensures.done)
    ∙ ap (λ xs. slice_get xs a.e)
    (all_found g c.requires.0 a.low a.width c.requires.1 (subcarriers - (a.low + a.width)) (14 - g.control) (omega (arith, c.requires.1)) (omega (arith, c.requires.0.region)))
    ∙ slice_get-map placed _ a.e
    ∙ ap (option_map placed) (range_selects (used g a.low a.width) elements a.e c.requires.2)

pub unwrap-at-requires : goal.unwrap-at-requires
unwrap-at-requires c = rw (found c) refl

at : (c : After-unwrap-at)
    → (c.unwrap-at.result.row ≡ element_at c.args.g c.args.low c.args.width c.args.e / subcarriers)
    × (c.unwrap-at.result.k ≡ element_at c.args.g c.args.low c.args.width c.args.e % subcarriers)
    × (element_at c.args.g c.args.low c.args.width c.args.e < elements)
at c =
    let e = same_Some _ _ (sym c.unwrap-at.ensures ∙ found c.before) in
    (ap (λ x. x.row) e, ap (λ x. x.k) e, element_below c.args.g c.args.low c.args.width c.args.e c.requires.2)

pub overflow_mul-result : goal.overflow_mul-result
overflow_mul-result c = omega (arith, at c.before)

pub overflow_add-result : goal.overflow_add-result
overflow_add-result c = omega (arith, at c.before.before)

pub returns : goal.returns
returns c = omega (arith, at c.before.before)
