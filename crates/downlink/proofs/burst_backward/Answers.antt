use mathlib.Core.Bool.{Bool, cond}
use mathlib.Core.List.{List}
use mathlib.Core.Path.{◌≡◌, refl, sym, ap, ◌∙◌}
use Prim.Native.Nat.{ℕ}
use native.Mathlib.Omega.{arith}
use Rattle.sending.proofs.Answer.{outside_at}
use Rattle.spans.specs.declared.Pattern.{Pattern}
use Rattle.spans.specs.declared.Found.{Found}
use Rattle.messages.specs.Messages.{all_periods}
use Rattle.subframes.specs.Subframes.{messages_in}
use Rattle.subframes.specs.Scaffold.{left_in}
use Rattle.cell.specs.declared.CellConfig.{CellConfig}
use Rattle.cell.specs.declared.Cause.{Cause}
use Rattle.cell.specs.declared.Cause.TheVariants.{None}
use Rattle.cell.specs.Quick.{lent_cell, why_not, seen}
use Rattle.spans.specs.Found.{found_among}
use Rattle.spans.proofs.Located.{at_index, at_below, at_between, at_nothing}
use Rattle.downlink.specs.declared.Burst.{Burst}
use Rattle.downlink.specs.Mapping.{sent_subframes, first_of, sending_of}
use Rattle.downlink.proofs.Joined.{inside_parts, backward_unsent, backward_sent}
use Rattle.downlink.proofs.Skipped.{joined, outside_none, unmissed_none, missed_why, sent_none}
use Rattle.downlink.proofs.burst_backward.Goals as goal

-- the subframes that are searched
abbrev left : Pattern → Bool → List ℕ → ℕ → Bool
left p laid si = left_in p laid (messages_in si)

-- why one is not
abbrev saw : CellConfig → Pattern → Bool → List ℕ → ℕ → Cause
saw c p laid si = seen (lent_cell c si) p laid

-- where t stands to those that are sent
abbrev found : Pattern → Bool → List ℕ → Burst → ℕ → Found
found p laid si b t = found_among (left p laid si) all_periods (first_of (left p laid si) all_periods b) (sent_subframes b) t

searched : (p : Pattern) (laid : Bool) (si : List ℕ) (b : Burst) (t n : ℕ) (f : Found)
    → f ≡ found_among (left p laid si) all_periods (first_of (left p laid si) all_periods b) n t → n ≡ sent_subframes b
    → f ≡ found p laid si b t
searched p laid si b t n f e s = e ∙ ap (λ (n : ℕ). found_among (left p laid si) all_periods (first_of (left p laid si) all_periods b) n t) s

-- the cause, by whether the subframe is left
by_pattern : (c : CellConfig) (p : Pattern) (laid : Bool) (si : List ℕ) (t : ℕ)
    → saw c p laid si t ≡ cond (left p laid si t) None (why_not c p laid t)
unfolding seen
by_pattern c p laid si t = refl

pub returns-then-not-is_inside : goal.returns-then-not-is_inside
returns-then-not-is_inside c =
    let a = c.args in
    let u = left a.v.pattern a.v.laid a.si.now in
    let o = sym c.is_inside.ensures ∙ c.if-not-is_inside.true in
    c.refused_back.ensures
    ∙ joined u all_periods (saw a.c a.v.pattern a.v.laid a.si.now) a.b a.t a.slot a.l a.k _ _
    (sym (outside_at (sending_of u all_periods a.b) _ a.t _ o))
    (outside_none u all_periods (saw a.c a.v.pattern a.v.laid a.si.now) a.b a.t a.slot a.l a.k o)

pub in_sent-requires : goal.in_sent-requires
in_sent-requires c =
    let a = c.args in
    let at = sym (searched a.v.pattern a.v.laid a.si.now a.b a.t _ _ c.locate-found.ensures c.sent_subframes-sent.ensures.0) ∙ c.in-At.is in
    let i = inside_parts a.slot a.l a.k (sym c.is_inside.ensures ∙ c.if-not-is_inside.false) in
    (c.requires.1, omega (arith, at_below _ _ _ _ _ _ at, c.sent_subframes-sent.ensures.0, c.sent_subframes-sent.ensures.2), i.0, i.1, i.2)

pub why_not-requires : goal.why_not-requires
why_not-requires c = c.requires.0.on.regular

pub returns-in-At : goal.returns-in-At
returns-in-At c =
    let a = c.args in
    let u = left a.v.pattern a.v.laid a.si.now in
    let at = sym (searched a.v.pattern a.v.laid a.si.now a.b a.t _ _ c.locate-found.ensures c.sent_subframes-sent.ensures.0) ∙ c.in-At.is in
    let i = at_index _ _ _ _ _ _ at in
    c.without_cause.ensures
    ∙ joined u all_periods (saw a.c a.v.pattern a.v.laid a.si.now) a.b a.t a.slot a.l a.k _ _
    (c.in_sent.ensures ∙ backward_sent _ _ a.b a.t a.slot a.l a.k (sym c.is_inside.ensures ∙ c.if-not-is_inside.false) _ _ i.0 i.1 refl)
    (sent_none u all_periods (saw a.c a.v.pattern a.v.laid a.si.now) a.b a.t a.slot a.l a.k _ (by_pattern a.c a.v.pattern a.v.laid a.si.now a.t) (sym c.is_inside.ensures ∙ c.if-not-is_inside.false) i.0)

pub returns-in-Between : goal.returns-in-Between
returns-in-Between c =
    let a = c.args in
    let u = left a.v.pattern a.v.laid a.si.now in
    let s = searched a.v.pattern a.v.laid a.si.now a.b a.t _ _ c.locate-found.ensures c.sent_subframes-sent.ensures.0 in
    let m = at_between _ _ _ _ _ (sym s ∙ c.in-Between.is) in
    joined u all_periods (saw a.c a.v.pattern a.v.laid a.si.now) a.b a.t a.slot a.l a.k _ _
    (c.not_ours.ensures ∙ backward_unsent _ _ a.b a.t a.slot a.l a.k (sym c.is_inside.ensures ∙ c.if-not-is_inside.false) m.0)
    (c.why_not.ensures
    ∙ missed_why u all_periods (saw a.c a.v.pattern a.v.laid a.si.now) a.b a.t a.slot a.l a.k _ (by_pattern a.c a.v.pattern a.v.laid a.si.now a.t) (sym c.is_inside.ensures ∙ c.if-not-is_inside.false) m.1)

pub returns-in-Nothing : goal.returns-in-Nothing
returns-in-Nothing c =
    let a = c.args in
    let u = left a.v.pattern a.v.laid a.si.now in
    let s = searched a.v.pattern a.v.laid a.si.now a.b a.t _ _ c.locate-found.ensures c.sent_subframes-sent.ensures.0 in
    let m = at_nothing _ _ _ _ _ (sym s ∙ c.in-Nothing.is) in
    c.without_cause-in-Nothing.ensures
    ∙ joined u all_periods (saw a.c a.v.pattern a.v.laid a.si.now) a.b a.t a.slot a.l a.k _ _
    (c.not_ours-in-Nothing.ensures ∙ backward_unsent _ _ a.b a.t a.slot a.l a.k (sym c.is_inside.ensures ∙ c.if-not-is_inside.false) m.0)
    (unmissed_none u all_periods (saw a.c a.v.pattern a.v.laid a.si.now) a.b a.t a.slot a.l a.k _ (by_pattern a.c a.v.pattern a.v.laid a.si.now a.t) (sym c.is_inside.ensures ∙ c.if-not-is_inside.false) m.1)
