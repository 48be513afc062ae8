use mathlib.Core.Path.{◌≡◌, ap, ◌∙◌}
use mathlib.Core.Logic.{⊎_elim}
use Prim.Native.Nat.{ℕ, ◌+◌, ◌-◌, ◌*◌, ◌/◌, ◌%◌, ◌≤◌, ◌<◌}
use native.Mathlib.Nat.{mod-lt, zero-mul, mul-add, mul-one, mul-le-mul_left}
use native.Mathlib.Omega.{arith}
use Rattle.counting.specs.Counting.{rank}
use Rattle.counting.proofs.Facts.{order}
use Rattle.counting.proofs.Rank.{rank_le, rank_mono}
use Rattle.spans.specs.Pattern.{allows}
use Rattle.messages.specs.declared.Messages.{Messages}
use Rattle.messages.specs.Messages.{remaining}
use Rattle.units.specs.Quick.{Serves}
use Rattle.timetable.proofs.Searching.{count_is, same_later}
use Rattle.timetable.proofs.count_from.Goals.{After-part_of-part}
use Rattle.timetable.proofs.count_from.Goals as goal

pub part_of-part-requires : goal.part_of-part-requires
part_of-part-requires c =
    let a = c.args in
    let Q : ℕ = a.table.unit * a.table.units in
    let some : 0 < Q = omega (arith, c.requires.0.long) in
    let x : ℕ = a.from % Q in
    let y : ℕ = (a.t - a.from) % Q in
    let ms = c.requires.3.ms in
    let A = c.sight_of-s.ensures.5 ms c.requires.3.serves in (
      c.requires.0,
      c.requires.1,
      c.sight_of-s.ensures.0,
      omega (arith, mod-lt a.from some, mod-lt (a.t - a.from) some),
      omega (arith, c.sight_of-s.ensures.3),
      record {
        ms = ms;
        serves = c.requires.3.serves;
        exact = A.exact;
        early = omega (arith, A.same, rank_mono (remaining ms (allows a.p)) (x + 5 * Q) (x + y + 5 * Q) (omega arith));
      },
    )

module _ (c : After-part_of-part) where
  abbrev Q : ℕ
  Q = c.args.table.unit * c.args.table.units

  abbrev whole : ℕ
  whole = (c.args.t - c.args.from) / Q

  module _ (ms : Messages) (S : Serves ms c.args.table) where
    abbrev all : ℕ → ℕ
    all = rank (remaining ms (allows c.args.p))

    counted : all c.args.from + (c.part_of-part.result.before + whole * all Q) ≡ all c.args.t
    counted =
        let A = c.sight_of-s.ensures.5 ms S in
        count_is ms c.args.p c.requires.1.regular c.args.table S c.args.from c.args.t c.part_of-part.result.before c.requires.2
        (omega (arith, A.same, (c.part_of-part.ensures.4 ms S A.exact).before))

    remains : c.part_of-part.result.remains ≡ remaining ms (allows c.args.p) c.args.t
    remains =
        (c.part_of-part.ensures.4 ms S (c.sight_of-s.ensures.5 ms S).exact).remains
        ∙ same_later ms c.args.p c.requires.1.regular c.args.table S c.args.from c.args.t c.requires.2

  -- the unit of t is not past a period from the first on
  near : c.part_of-part.result.here.n ≤ c.sight_of-s.result.n + c.args.table.units
  near =
      let U : ℕ = c.args.table.unit in
      let some : 0 < Q = omega (arith, c.requires.0.long) in
      let n : ℕ = c.sight_of-s.result.n + c.args.table.units in
      let m : ℕ = c.part_of-part.result.here.n in
      ⊎_elim
      (λ (h : n < m).
      let k : n + 1 ≤ m = omega (arith, h) in
      absurd (omega (
        arith,
        mul-le-mul_left U k,
        mul-add U n 1,
        mul-one U,
        mul-add U c.sight_of-s.result.n c.args.table.units,
        c.part_of-part.ensures.3,
        c.sight_of-s.ensures.4,
        mod-lt (c.args.t - c.args.from) some,
      ))) (λ h. h) (order n m)

pub returns-then-whole-eq0 : goal.returns-then-whole-eq0
returns-then-whole-eq0 c =
    λ ms S.
    let b = (goal.at.returns-then-whole-eq0 c).After-part_of-part in
    let R : ℕ = all b ms S (Q b) in
    (omega (arith, counted b ms S, ap (λ (n : ℕ). n * R) c.if-whole-eq0.true, zero-mul R), remains b ms S)

pub in_period-requires : goal.in_period-requires
in_period-requires c =
    let b = (goal.at.in_period-requires c).After-part_of-part in
    let W = c.requires.3 in
    let e = c.part_of-part.ensures in (
      c.requires.0,
      c.requires.1,
      e.1,
      c.sight_of-s.ensures.1,
      e.2,
      near b,
      record { ms = W.ms; serves = W.serves; exact = (e.4 W.ms W.serves (c.sight_of-s.ensures.5 W.ms W.serves).exact).here.exact },
    )

-- and whole periods, of r each
total : (b : After-part_of-part) (r : ℕ) → ((ms : Messages) (S : Serves ms b.args.table) → r ≡ all b ms S (Q b)) → (ms : Messages) (S : Serves ms b.args.table)
    → all b ms S b.args.from + (b.part_of-part.result.before + whole b * r) ≡ all b ms S b.args.t
total b r e ms S = ap (λ (x : ℕ). all b ms S b.args.from + (b.part_of-part.result.before + whole b * x)) (e ms S) ∙ counted b ms S

fits : (b : After-part_of-part) (r : ℕ) → ((ms : Messages) (S : Serves ms b.args.table) → r ≡ all b ms S (Q b)) → b.part_of-part.result.before + whole b * r ≤ b.args.t
fits b r e = let W = b.requires.3 in omega (arith, total b r e W.ms W.serves, rank_le (remaining W.ms (allows b.args.p)) b.args.t)

pub overflow_mul-result : goal.overflow_mul-result
overflow_mul-result c =
    let b = (goal.at.overflow_mul-result c).After-part_of-part in
    omega (arith, fits b c.in_period.result (λ ms S. c.in_period.ensures ms S (c.part_of-part.ensures.4 ms S (c.sight_of-s.ensures.5 ms S).exact).here))

pub overflow_add-result : goal.overflow_add-result
overflow_add-result c =
    let b = (goal.at.overflow_add-result c).After-part_of-part in
    omega (arith, fits b c.in_period.result (λ ms S. c.in_period.ensures ms S (c.part_of-part.ensures.4 ms S (c.sight_of-s.ensures.5 ms S).exact).here))

pub returns-else-whole-eq0 : goal.returns-else-whole-eq0
returns-else-whole-eq0 c =
    let b = (goal.at.returns-else-whole-eq0 c).After-part_of-part in
    λ ms S. (
      total b c.in_period.result (λ ms S. c.in_period.ensures ms S (c.part_of-part.ensures.4 ms S (c.sight_of-s.ensures.5 ms S).exact).here) ms S,
      remains b ms S,
    )
