use mathlib.Core.Bool.{Bool}
use mathlib.Core.Path.{◌≡◌, refl, sym, ap, ◌∙◌}
use Prim.Native.Nat.{ℕ, ◌+◌, ◌-◌, ◌<◌}
use native.Mathlib.Omega.{arith}
use Rattle.counting.specs.Counting.{rank}
use Rattle.spans.specs.Pattern.{allows}
use Rattle.spans.specs.declared.Found.TheVariants.{At}
use Rattle.messages.specs.Messages.{all_periods, remaining}
use Rattle.spans.proofs.Located.{early, skipped, past, found, ahead, amid}
use Rattle.timetable.proofs.Searching.{allows_some, all_again}
use Rattle.timetable.proofs.locate.Goals.{After-count_from-part}
use Rattle.timetable.proofs.locate.Goals as goal

pub returns-then-t-from : goal.returns-then-t-from
returns-then-t-from c =
    let a = c.args in
    early (remaining a.ms (allows a.p)) all_periods (all_again a.ms c.requires.0 a.p c.requires.1) c.requires.2 a.from a.skip a.many a.t c.if-t-from.true

pub count_from-part-requires : goal.count_from-part-requires
count_from-part-requires c = (
  c.timetable_of.ensures.1,
  allows_some c.args.ms c.requires.0 c.args.p c.requires.1 c.requires.2,
  c.if-t-from.false,
  record { ms = c.args.ms; serves = (c.requires.0, c.timetable_of.ensures.0) },
)

module _ (c : After-count_from-part) where
  abbrev rest : ℕ → Bool
  rest = remaining c.args.ms (allows c.args.p)

  again : (t : ℕ) → rest (t + all_periods) ≡ rest t
  again = all_again c.args.ms c.requires.0 c.args.p c.requires.1

  -- how many lie before it
  before : c.count_from-part.result.before ≡ rank rest c.args.t - rank rest c.args.from
  before = omega (arith, (c.count_from-part.ensures c.args.ms (c.requires.0, c.timetable_of.ensures.0)).0)

  remains : c.count_from-part.result.remains ≡ rest c.args.t
  remains = (c.count_from-part.ensures c.args.ms (c.requires.0, c.timetable_of.ensures.0)).1

pub returns-then-part : goal.returns-then-part
returns-then-part c =
    let a = c.args in
    let b = (goal.at.returns-then-part c).After-count_from-part in
    let e = c.in-Some.ensures in
    let n : c.in-Some.index ≡ rank (rest b) a.t - rank (rest b) a.from - a.skip = omega (arith, before b, e.1) in
    ap (λ (x : ℕ). At x) n
    ∙ found (rest b) all_periods (again b) c.requires.2 a.from a.skip a.many a.t _ _ refl refl c.if-t-from.false (omega (arith, before b, e.0))
    (sym (remains b) ∙ c.if-part.true) (omega (arith, n, c.if-index-many.true))

pub returns-then-index-eq0 : goal.returns-then-index-eq0
returns-then-index-eq0 c =
    let a = c.args in
    let b = (goal.at.returns-then-index-eq0 c).After-count_from-part in
    let e = c.in-Some.ensures in
    ahead (rest b) all_periods (again b) c.requires.2 a.from a.skip a.many a.t _ _ refl refl c.if-t-from.false (omega (arith, before b, e.0))
    (sym (remains b) ∙ c.if-part.false) (omega (arith, before b, e.1, c.if-index-eq0.true))

pub returns-else-index-eq0 : goal.returns-else-index-eq0
returns-else-index-eq0 c =
    let a = c.args in
    let b = (goal.at.returns-else-index-eq0 c).After-count_from-part in
    let e = c.in-Some.ensures in
    amid (rest b) all_periods (again b) c.requires.2 a.from a.skip a.many a.t _ _ refl refl c.if-t-from.false (omega (arith, before b, e.0))
    (sym (remains b) ∙ c.if-part.false) (omega (arith, before b, e.1, c.if-index-many.true))
    (λ z. c.if-index-eq0.false (omega (arith, before b, e.1, z)))

pub returns-in_default : goal.returns-in_default
returns-in_default c =
    let a = c.args in
    let b = (goal.at.returns-in_default c).After-count_from-part in
    let e = c.in-Some.ensures in
    past (rest b) all_periods (again b) c.requires.2 a.from a.skip a.many a.t _ _ refl refl c.if-t-from.false (omega (arith, before b, e.0))
    (omega (arith, before b, e.1, c.if-index-many.false))

pub returns-in_default-2 : goal.returns-in_default-2
returns-in_default-2 c =
    let a = c.args in
    let b = (goal.at.returns-in_default-2 c).After-count_from-part in
    let few : c.count_from-part.result.before < a.skip = omega (arith, c.in_default.ensures) in
    skipped (rest b) all_periods (again b) c.requires.2 a.from a.skip a.many a.t _ _ refl refl (omega (arith, before b, few))
