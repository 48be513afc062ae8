use mathlib.Core.Path.{◌≡◌, ap, ap₂, ◌∙◌}
use Prim.Native.Nat.{ℕ, ◌-◌}
use native.Mathlib.Omega.{arith}
use Rattle.counting.specs.Counting.{count}
use Rattle.spans.specs.Pattern.{allows}
use Rattle.units.specs.Quick.{begin_of, unit_need}
use Rattle.units.proofs.Lanes.{count_most}
use Rattle.timetable.proofs.Searching.{sight_is}
use Rattle.timetable.proofs.sight_of.Goals as goal

pub returns : goal.returns
returns c =
    let a = c.args in
    let u = allows a.p in
    let r = c.sight_at-s.result in
    let y = c.spot_of-spot.result.y in
    let e : c.saturating_sub.result ≡ count u (begin_of a.table r.n) y - unit_need a.table r.n r.wants =
    c.saturating_sub.ensures ∙ ap₂ (λ (a b : ℕ). a - b) c.free_first-free.ensures c.all_need.ensures.0 in
    let begin = ap (begin_of a.table) c.sight_at-s.ensures.0 in (
      record { small = c.sight_at-s.ensures.2.small; free = c.sight_at-s.ensures.2.free },
      omega (arith, c.sight_at-s.ensures.0, c.spot_of-spot.ensures.early),
      omega (arith, e, count_most u y (begin_of a.table r.n), c.spot_of-spot.ensures.inside, c.requires.0.unit),
      omega (arith, begin, c.spot_of-spot.ensures.there),
      omega (arith, begin, c.spot_of-spot.ensures.there, c.spot_of-spot.ensures.inside),
      λ ms S. sight_is ms a.p c.requires.1.regular a.table S a.t c.spot_of-spot.result _ c.spot_of-spot.ensures c.sight_at-s.ensures.0 c.sight_at-s.ensures.1 e,
    )
