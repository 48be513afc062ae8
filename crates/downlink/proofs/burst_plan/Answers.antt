use mathlib.Core.Bool.{Bool}
use mathlib.Core.List.{List}
use mathlib.Core.Path.{◌≡◌, sym, ap, ◌∙◌}
use Prim.Native.Nat.{ℕ, ◌+◌, ◌-◌}
use native.Mathlib.Omega.{arith}
use Rattle.counting.specs.Counting.{select}
use Rattle.counting.proofs.Period.{select_from}
use Rattle.messages.specs.Messages.{all_periods}
use Rattle.spans.specs.declared.Pattern.{Pattern}
use Rattle.subframes.specs.Subframes.{messages_in}
use Rattle.subframes.specs.Scaffold.{left_in, Searchable}
use Rattle.subframes.proofs.Left.{left_again}
use Rattle.downlink.specs.declared.Burst.{Burst}
use Rattle.downlink.specs.Mapping.{first_of}
use Rattle.downlink.proofs.Joined.{places_small}
use Rattle.downlink.proofs.burst_plan.Goals as goal

-- the subframes that are searched
abbrev left : Pattern → Bool → List ℕ → ℕ → Bool
left p laid si = left_in p laid (messages_in si)

-- transmitted subframe i, from the first that may be sent
at : (p : Pattern) (laid : Bool) (si : List ℕ) (b : Burst) → Searchable p laid (messages_in si) → (i : ℕ)
    → select (left p laid si) all_periods b.from (b.skip + i) ≡ select (left p laid si) all_periods (first_of (left p laid si) all_periods b) i
at p laid si b h i = sym (select_from (left p laid si) all_periods (left_again p laid (messages_in si) h.on) h.some b.from b.skip i)

pub returns : goal.returns
returns c =
    let a = c.args in
    let u = left a.v.pattern a.v.laid a.si.now in
    let at = at a.v.pattern a.v.laid a.si.now a.b c.requires.0 in
    let e : a.b.skip ≡ a.b.skip + 0 = omega arith in
    let first = c.first_and_last-ends.ensures.0 ∙ ap (select u all_periods a.b.from) e ∙ at 0 in
    let last =
    c.first_and_last-ends.ensures.1 ∙ at _
    ∙ ap (λ (n : ℕ). select u all_periods (first_of u all_periods a.b) (n - 1)) c.sent_subframes-sent.ensures.0 in
    simp (first, last, c.sent_subframes-sent.ensures.0, c.used_elements-w.ensures.0)

pub first_and_last-ends-requires : goal.first_and_last-ends-requires
first_and_last-ends-requires c =
    (c.requires.0, omega (arith, c.requires.1.from_small), omega (arith, c.requires.1.skip_small, c.sent_subframes-sent.ensures.2))

pub overflow_mul-result : goal.overflow_mul-result
overflow_mul-result c =
    omega (arith, places_small c.sent_subframes-sent.result c.used_elements-w.result c.sent_subframes-sent.ensures.2 c.used_elements-w.ensures.2)
