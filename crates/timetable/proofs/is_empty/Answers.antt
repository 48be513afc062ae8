use mathlib.Core.Bool.{Bool, true, false}
use mathlib.Core.Path.{◌≡◌, refl, sym, ap, subst, ◌∙◌}
use mathlib.Core.Logic.{⊎_elim}
use Prim.Native.Nat.{ℕ, ◌+◌, ◌*◌, ◌≤◌, ◌<◌}
use native.Mathlib.Nat.{mul-le-mul}
use native.Mathlib.Omega.{arith}
use lib.Dec.{eqb}
use borrow.Author.Tests.{eq-eqb, ne_eqb}
use mir.Val.{bool_byte}
use Rattle.counting.specs.Counting.{rank}
use Rattle.counting.proofs.Facts.{order}
use Rattle.counting.proofs.Rank.{rank_count}
use Rattle.spans.specs.declared.Pattern.{Pattern}
use Rattle.spans.specs.Pattern.{allows, period_of, Regular}
use Rattle.messages.specs.declared.Messages.{Messages}
use Rattle.messages.proofs.Listing.{listed}
use Rattle.units.specs.declared.Timetable.{Timetable}
use Rattle.units.specs.declared.Sight.{Sight}
use Rattle.messages.specs.Messages.{are_listed, all_periods, remaining}
use Rattle.units.specs.Quick.{Sized, begin_of, lane_at, wants_in, Serves, Exact, Allowing}
use Rattle.timetable.specs.Quick.{Scanned}
use Rattle.strides.proofs.Apart.{none_keeps}
use Rattle.timetable.proofs.Searching.{allows_some, period_some, passed, walked, none_anywhere}
use Rattle.timetable.proofs.is_empty.Goals.{After-scan}
use Rattle.timetable.proofs.is_empty.Goals as goal

nothing : (x : ℕ) → (0 < x → ⊥) → true ≡ eqb x 0
nothing x h = sym (eq-eqb x 0 (⊎_elim (λ (l : 0 < x). absurd (h l)) (λ l. omega (arith, l)) (order 0 x)))

pub returns-then-is_empty : goal.returns-then-is_empty
returns-then-is_empty c =
    let ms = c.args.ms in
    let p = c.args.p in
    nothing (rank (remaining ms (allows p)) all_periods)
    (λ h.
    let z : eqb (rank (allows p) (period_of p)) 0 ≡ false = ne_eqb (rank (allows p) (period_of p)) 0 (λ w. omega (arith, w, (allows_some ms c.requires.0 p c.requires.1 h).some)) in
    omega (arith, ap bool_byte (sym c.if-is_empty.true ∙ c.is_empty.ensures ∙ z)))

some : (p : Pattern) → Regular p → (b : Bool) → b ≡ eqb (rank (allows p) (period_of p)) 0 → b ≡ false → Allowing p
some p reg b e f = record {
  regular = reg;
  some =
      ⊎_elim (λ l. l) (λ l. absurd (omega (arith, ap bool_byte (sym f ∙ e ∙ eq-eqb (rank (allows p) (period_of p)) 0 (omega (arith, l))))))
      (order 0 (rank (allows p) (period_of p)));
}

-- the last window closes early
few : (ms : Messages) → are_listed ms ≡ true → (table : Timetable) → Sized table → ms.count * (lane_at table 0).window ≤ 4 * 2048
few ms ok table Z =
    let h : (lane_at table 0).window ≤ 2048 = omega (arith, Z.r1.window, Z.t1, Z.units) in
    mul-le-mul (listed ms ok).count_to h

pub overflow_mul-n-2 : goal.overflow_mul-n-2
overflow_mul-n-2 c = omega (arith, few c.args.ms c.requires.0 c.timetable_of-table.result c.timetable_of-table.ensures.1)

pub overflow_add-n : goal.overflow_add-n
overflow_add-n c =
    let Z = c.timetable_of-table.ensures.1 in
    omega (arith, few c.args.ms c.requires.0 c.timetable_of-table.result Z, Z.units)

pub sight_at-s-requires : goal.sight_at-s-requires
sight_at-s-requires c =
    let Z = c.timetable_of-table.ensures.1 in
    (Z, some c.args.p c.requires.1 _ c.is_empty.ensures c.if-is_empty.false, omega arith, omega (arith, few c.args.ms c.requires.0 c.timetable_of-table.result Z, Z.units))

pub overflow_add-end : goal.overflow_add-end
overflow_add-end c =
    let Z = c.timetable_of-table.ensures.1 in
    omega (arith, c.sight_at-s.ensures.0, few c.args.ms c.requires.0 c.timetable_of-table.result Z, Z.units)

pub scan-requires : goal.scan-requires
scan-requires c =
    let Z = c.timetable_of-table.ensures.1 in
    let e = c.sight_at-s.ensures in (
      Z,
      some c.args.p c.requires.1 _ c.is_empty.ensures c.if-is_empty.false,
      record { small = e.2.small; free = e.2.free },
      omega arith,
      omega (arith, e.0, few c.args.ms c.requires.0 c.timetable_of-table.result Z, Z.units),
      none_keeps c.timetable_of-table.result (allows c.args.p),
    )

-- the scan of a period stopped before its end, or passed all of it
module _ (c : After-scan) where
  abbrev u : ℕ → Bool
  u = allows c.args.p

  abbrev all : ℕ → Bool
  all = remaining c.args.ms u

  abbrev table : Timetable
  table = c.timetable_of-table.result

  abbrev from : Sight
  from = record { n = c.sight_at-s.result.n; wants = c.sight_at-s.result.wants; free = c.sight_at-s.result.free; k = 0 }

  abbrev end : ℕ
  end = from.n + table.units

  serves : Serves c.args.ms table
  serves = (c.requires.0, c.timetable_of-table.ensures.0)

  scanned : Scanned c.args.ms u table from end c.scan.result.even c.scan.result.sight
  scanned =
      c.scan.ensures.4 c.args.ms serves
      (subst (Exact c.args.ms u table from.n) (ap (wants_in table u) c.sight_at-s.ensures.0 ∙ sym c.sight_at-s.ensures.1)
      (walked c.args.ms c.args.p c.requires.1 table serves from.n (omega (arith, c.sight_at-s.ensures.0))))

  stopped : c.scan.result.sight.n < end → eqb c.scan.result.sight.n end ≡ eqb (rank all all_periods) 0
  stopped h =
      let H = scanned.here (c.scan.ensures.6 refl) h in
      let b : ℕ = begin_of table c.scan.result.sight.n in
      ne_eqb c.scan.result.sight.n end (λ e. omega (arith, e, h))
      ∙ sym (ne_eqb (rank all all_periods) 0 (λ z.
      omega (arith, H.enough, rank_count all H.length b, none_anywhere c.args.ms c.requires.0 c.args.p c.requires.1 z (b + H.length))))

  went_by : end ≤ c.scan.result.sight.n → eqb c.scan.result.sight.n end ≡ eqb (rank all all_periods) 0
  went_by h =
      let e : c.scan.result.sight.n ≡ end = omega (arith, h, c.scan.ensures.0) in
      eq-eqb c.scan.result.sight.n end e
      ∙ nothing (rank all all_periods) (λ l.
      omega (
        arith,
        passed c.args.ms c.args.p c.requires.1 table serves from c.scan.result.sight end scanned e,
        period_some c.args.ms c.requires.0 c.args.p c.requires.1 l table serves (omega (arith, c.timetable_of-table.ensures.1.long)),
      ))

pub returns : goal.returns
returns c =
    let r = (goal.at.returns c).After-scan in
    ⊎_elim (stopped r) (went_by r) (order c.scan.result.sight.n (end r))
