use Rattle.std.proofs.Common.{rules, tests}
use Rattle.std.proofs.lemmas.Iterator.{YieldsList-from_range, YieldsList-from_map}
use Rattle.std.proofs.lemmas.Iterator.Adapters.{YieldsList-from_flat_map, option_map_id}
use Rattle.std.proofs.lemmas.Iterator.Consumers.{YieldsList-at, YieldsList-from_filter, nth_from_yields_List}
use Rattle.std.proofs.lemmas.Option.{same_Some, slice_get-map}
use Rattle.std.specs.List.{slice_get}
use Rattle.std.specs.Option.{option_map}
use Rattle.std.specs.Prelude.{Some}
use mathlib.Core.Bool.{not}
use mathlib.Core.Path.{◌≡◌, refl, sym, ap, ◌∙◌}
use Prim.Native.Nat.{◌+◌}
use native.Mathlib.Omega.{arith}
use Rattle.grid.specs.Grid.{uplink_elements}
use Rattle.uplink.specs.Elements.{is_reference, carries_data, slot_data, element_at}
use Rattle.chains.proofs.Ranges.{range_selects}
use Rattle.plain_uplink.proofs.DataRows.{place_at, tones_of, data_gone_over}
use Rattle.plain_uplink.proofs.elements.nth.Goals.{After-nth}
use Rattle.plain_uplink.proofs.elements.nth.Goals as goal

found : (c : After-nth) → c.nth.result ≡ Some (place_at c.args.s.subcarriers (element_at c.args.s c.args.e))
unfolding slot_data element_at
found c =
    let s = c.args.s in
    let e = c.args.e in
    sym (option_map_id c.nth.result)
    ∙ nth_from_yields_List c.nth.result _ e c.nth.ensures.ran
    (YieldsList-from_flat_map _ _ _ (λ x. x) (tones_of s) _
    (λ l u q k. (
      search (rules, tests),
      λ j o. YieldsList-at o
          (YieldsList-from_map _ (λ k. record { l = l; k = k }) {f = record { 0 = l }}
          (YieldsList-from_range s.tone (s.tone + s.tones) s.tones (search (rules, tests)) (omega arith)) (search (rules, tests))
          (λ x r q k. search (rules, tests))),
    ))
    (YieldsList-at c.flat_map.ensures.source (YieldsList-from_filter _ (λ l. not (is_reference s l))
    (YieldsList-from_range 0 _ 7 c.filter.ensures.source (omega arith)) c.filter.ensures.closure
    (λ x b q k. search (rules, tests))))
    c.flat_map.ensures.closure c.flat_map.ensures.front c.flat_map.ensures.back c.flat_map.ensures.done)
    ∙ ap (λ xs. slice_get xs e) (data_gone_over s c.requires.0)
    ∙ slice_get-map (place_at s.subcarriers) _ e
    ∙ ap (option_map (place_at s.subcarriers))
    (range_selects (carries_data s) (uplink_elements s.subcarriers) e c.requires.1)

pub unwrap-requires : goal.unwrap-requires
unwrap-requires c = rw (found c) refl

pub returns : goal.returns
returns c =
    let e = same_Some _ _ (sym c.unwrap.ensures ∙ found c.before) in
    (ap (λ x. x.l) e, ap (λ x. x.k) e)
