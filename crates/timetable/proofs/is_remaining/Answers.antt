use mathlib.Core.Path.{sym, ap, ap₂, subst, ◌∙◌}
use Prim.Native.Nat.{ℕ, ◌+◌}
use native.Mathlib.Omega.{arith}
use lib.Dec.{leb}
use Rattle.spans.specs.Pattern.{allows}
use Rattle.units.specs.Quick.{begin_of, wants_in, Serves, Exact}
use Rattle.messages.proofs.Repeating.{remaining_within}
use Rattle.units.proofs.Walking.{walk_exact}
use Rattle.units.proofs.Finding.{far, allowing, remains_found}
use Rattle.timetable.proofs.is_remaining.Goals as goal

pub returns-then-not-is_allowed : goal.returns-then-not-is_allowed
returns-then-not-is_allowed c = sym (remaining_within c.args.ms (allows c.args.p) c.args.t (sym c.is_allowed.ensures ∙ c.if-not-is_allowed.true))

pub sight_at-s-requires : goal.sight_at-s-requires
sight_at-s-requires c = (
  c.timetable_of-table.ensures.1,
  allowing c.args.p c.requires.1 c.args.t (sym c.is_allowed.ensures ∙ c.if-not-is_allowed.false),
  c.spot_of-spot.ensures.late,
  omega (arith, c.spot_of-spot.ensures.early),
)

pub free_first-free-requires : goal.free_first-free-requires
free_first-free-requires c =
    let T = c.timetable_of-table.ensures.1 in
    let e = c.sight_at-s.ensures in (
      T,
      allowing c.args.p c.requires.1 c.args.t (sym c.is_allowed.ensures ∙ c.if-not-is_allowed.false),
      omega (arith, e.0, c.spot_of-spot.ensures.early),
      omega (arith, c.spot_of-spot.ensures.inside, T.unit),
      e.2.free,
    )

pub returns : goal.returns
returns c =
    let ms = c.args.ms in
    let p = c.args.p in
    let tb = c.timetable_of-table.result in
    let S : Serves ms tb = (c.requires.0, c.timetable_of-table.ensures.0) in
    let r = c.sight_at-s.result in
    let y = c.spot_of-spot.result.y in
    let e = c.sight_at-s.ensures in
    let X : Exact ms (allows p) tb r.n r.wants =
    subst (Exact ms (allows p) tb r.n) (ap (wants_in tb (allows p)) e.0 ∙ sym e.1)
    (walk_exact ms (allows p) (far p c.requires.1) tb S r.n (omega (arith, e.0, c.spot_of-spot.ensures.late))) in
    ap₂ leb c.all_need-needed.ensures.0 c.free_first-free.ensures
    ∙ remains_found ms p c.requires.1 tb S c.args.t r.n y r.wants X c.spot_of-spot.ensures.inside
    (ap (λ (n : ℕ). begin_of tb n + y) e.0 ∙ c.spot_of-spot.ensures.there) (sym c.is_allowed.ensures ∙ c.if-not-is_allowed.false)
