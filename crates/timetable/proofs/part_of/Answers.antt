use mathlib.Core.Bool.{Bool, ◌&&◌}
use mathlib.Core.Path.{◌≡◌, ap, ap₂, ◌∙◌}
use Prim.Native.Nat.{ℕ, ◌+◌, ◌-◌, ◌*◌, ◌≤◌}
use native.Mathlib.Omega.{arith}
use lib.Dec.{leb}
use Rattle.counting.specs.Counting.{rank, count}
use Rattle.spans.specs.Pattern.{allows}
use Rattle.messages.specs.declared.Messages.{Messages}
use Rattle.messages.specs.Messages.{remaining}
use Rattle.units.specs.Quick.{begin_of, unit_need, Serves, Exact}
use Rattle.timetable.proofs.Searching.{first_count}
use Rattle.units.proofs.Lanes.{count_most}
use Rattle.units.proofs.Finding.{remains_here}
use Rattle.timetable.proofs.part_of.Goals.{After-saturating_sub}
use Rattle.timetable.proofs.part_of.Goals as goal

module _ (c : After-saturating_sub) where
  abbrev m : ℕ
  m = c.counted-here.result.n

  last_is : c.saturating_sub.result ≡ count (allows c.args.p) (begin_of c.args.table m) c.spot_of-spot.result.y - unit_need c.args.table m c.counted-here.result.wants
  last_is = c.saturating_sub.ensures ∙ ap₂ (λ (a b : ℕ). a - b) c.free_first-free.ensures c.all_need-needed.ensures.0

  small : c.counted-here.result.k + c.saturating_sub.result ≤ 160 + 2147483648
  small =
      omega (
        arith,
        last_is,
        count_most (allows c.args.p) c.spot_of-spot.result.y (begin_of c.args.table m),
        c.spot_of-spot.ensures.inside,
        c.requires.0.unit,
        c.counted-here.ensures.2,
      )

  begins : begin_of c.args.table m + c.spot_of-spot.result.y ≡ c.args.t + 5 * (c.args.table.unit * c.args.table.units)
  begins = ap (λ (n : ℕ). begin_of c.args.table n + c.spot_of-spot.result.y) c.counted-here.ensures.0 ∙ c.spot_of-spot.ensures.there

  module _ (ms : Messages) (S : Serves ms c.args.table) (X : Exact ms (allows c.args.p) c.args.table c.args.s.n c.args.s.wants) where
    there : Exact ms (allows c.args.p) c.args.table m c.counted-here.result.wants
    there = (c.counted-here.ensures.3 ms S X).exact

    reached : rank (remaining ms (allows c.args.p)) (begin_of c.args.table c.args.s.n) + (c.counted-here.result.k + c.saturating_sub.result)
        ≡ rank (remaining ms (allows c.args.p)) (c.args.t + 5 * (c.args.table.unit * c.args.table.units))
    reached =
        omega (
          arith,
          (c.counted-here.ensures.3 ms S X).count,
          last_is,
          first_count ms c.args.p c.requires.1.regular c.args.table S m c.spot_of-spot.result.y c.counted-here.result.wants there (omega (arith, c.spot_of-spot.ensures.inside)),
          ap (rank (remaining ms (allows c.args.p))) begins,
        )

    -- t itself
    remains : (a : Bool) → a ≡ allows c.args.p c.args.t → (a && leb c.all_need-needed.result c.free_first-free.result) ≡ remaining ms (allows c.args.p) c.args.t
    remains a e =
        ap₂ (λ (x y : Bool). x && y) e (ap₂ leb c.all_need-needed.ensures.0 c.free_first-free.ensures)
        ∙ remains_here ms c.args.p c.requires.1.regular c.args.table S m c.spot_of-spot.result.y c.args.t c.counted-here.result.wants there
        c.spot_of-spot.ensures.inside begins

  enough : c.args.s.k ≤ c.counted-here.result.k + c.saturating_sub.result
  enough = let A = c.requires.5 in omega (arith, reached A.ms A.serves A.exact, A.early)

pub overflow_add-result : goal.overflow_add-result
overflow_add-result c = omega (arith, small (goal.at.overflow_add-result c).After-saturating_sub)

pub overflow_sub-result : goal.overflow_sub-result
overflow_sub-result c = enough (goal.at.overflow_sub-result c).After-saturating_sub

pub returns : goal.returns
returns c =
    let q = (goal.at.returns c).After-saturating_sub in (
      omega (arith, small q),
      c.counted-here.ensures.1,
      c.counted-here.ensures.2,
      omega (arith, begins q),
      λ ms S X. record {
        before = omega (arith, reached q ms S X, enough q);
        remains = remains q ms S X _ c.is_allowed.ensures;
        here = c.counted-here.ensures.3 ms S X;
      },
    )
