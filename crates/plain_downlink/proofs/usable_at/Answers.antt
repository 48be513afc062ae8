use Rattle.std.proofs.Common.{rules, tests}
use Rattle.std.proofs.lemmas.Iterator.{YieldsList-from_range}
use Rattle.std.proofs.lemmas.Iterator.Adapters.{option_map_id}
use Rattle.std.proofs.lemmas.Iterator.Consumers.{YieldsList-from_filter, nth_from_yields_List}
use Rattle.std.proofs.lemmas.Option.{same_Some}
use Rattle.std.specs.Prelude.{Some, slice_get}
use Rattle.std.specs.List.{filter, range_with_len}
use mathlib.Core.Bool.{Bool}
use mathlib.Core.Path.{◌≡◌, refl, sym, ◌∙◌}
use Prim.Native.Nat.{ℕ, ◌+◌, ◌*◌}
use native.Mathlib.Omega.{arith}
use Rattle.counting.specs.Counting.{select}
use Rattle.spans.specs.declared.Pattern.{Pattern}
use Rattle.messages.specs.declared.Messages.{Messages}
use Rattle.messages.specs.Messages.{all_periods}
use Rattle.subframes.specs.Subframes.{messages_in}
use Rattle.subframes.specs.Scaffold.{left_in, Searchable}
use Rattle.subframes.proofs.Left.{left_again}
use Rattle.chains.proofs.Ranges.{period_selects}
use Rattle.plain_downlink.proofs.usable_at.Goals as goal

-- the subframe that is searched for
at : (p : Pattern) (laid : Bool) (ms : Messages) → Searchable p laid ms → (from k : ℕ)
    → slice_get (filter (left_in p laid ms) (range_with_len from ((k + 1) * all_periods))) k ≡ Some (select (left_in p laid ms) all_periods from k)
at p laid ms s = period_selects (left_in p laid ms) all_periods (left_again p laid ms s.on) s.some

pub unwrap-requires : goal.unwrap-requires
unwrap-requires c =
    let a = c.args in
    rw (sym (option_map_id c.nth.result)
    ∙ nth_from_yields_List c.nth.result _ a.k c.nth.ensures.ran
    (YieldsList-from_filter _ (left_in a.p a.laid (messages_in a.si.now)) (YieldsList-from_range a.from _ _ c.filter.ensures.source (omega arith)) c.filter.ensures.closure
    (λ x b q k. search (rules, tests)))
    ∙ at a.p a.laid (messages_in a.si.now) c.requires.0 a.from a.k) refl

pub returns : goal.returns
returns c =
    let a = c.args in
    same_Some _ _ (sym c.unwrap.ensures ∙ sym (option_map_id c.nth.result)
    ∙ nth_from_yields_List c.nth.result _ a.k c.nth.ensures.ran
    (YieldsList-from_filter _ (left_in a.p a.laid (messages_in a.si.now)) (YieldsList-from_range a.from _ _ c.filter.ensures.source (omega arith)) c.filter.ensures.closure
    (λ x b q k. search (rules, tests)))
    ∙ at a.p a.laid (messages_in a.si.now) c.requires.0 a.from a.k)
