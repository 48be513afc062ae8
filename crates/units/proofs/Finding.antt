-- What remains, asked at any subframe: whole periods are taken off, and the unit in which it lies says the rest.
use Rattle.std.specs.Prelude.{List}
use mathlib.Core.Bool.{Bool, true, ◌&&◌}
use mathlib.Core.Path.{◌≡◌, sym, ap, ◌∙◌}
use Prim.Native.Nat.{ℕ, ◌+◌, ◌-◌, ◌*◌, ◌/◌, ◌%◌, ◌^◌, ◌≤◌, ◌<◌}
use native.Mathlib.Nat.{mod-lt, div-add-mod', le-div_iff_mul-le, mul_assoc, mul_comm, mul-le-mul_left}
use native.Mathlib.Omega.{arith}
use lib.Dec.{leb}
use Rattle.counting.specs.Counting.{count}
use Rattle.counting.proofs.Period.{repeats_times, test_split, some_of}
use Rattle.spans.specs.declared.Pattern.{Pattern}
use Rattle.spans.specs.Pattern.{span, spans_of, allows, period_of, Regular}
use Rattle.spans.proofs.Laws.{repeats, some_spans}
use Rattle.messages.specs.declared.Messages.{Messages}
use Rattle.units.specs.declared.Timetable.{Timetable}
use Rattle.messages.specs.Messages.{all_periods, remaining}
use Rattle.units.specs.Quick.{Sized, begin_of, unit_need, Exact, Allowing, SpotAt, Serves}
use Rattle.units.proofs.Timetables.{split}
use Rattle.units.proofs.Walking.{served_sized, remains_in_unit, repeats_all}

-- ---- the pattern repeats after 64 frames, and after whole times of them

module _ (p : Pattern) (ok : Regular p) where
  base_whole : 2 ^ (4 - p.log) * period_of p ≡ 640
  base_whole =
      let a : ℕ = 2 ^ (4 - p.log) in
      sym (mul_assoc a span (spans_of p)) ∙ ap (λ (x : ℕ). x * spans_of p) (mul_comm a span) ∙ mul_assoc span a (spans_of p)
      ∙ ap (λ (x : ℕ). span * x) (mul_comm a (spans_of p) ∙ split p.log 4 ok.few)

  pub base_repeats : (q t : ℕ) → allows p (t + q * 640) ≡ allows p t
  base_repeats q t =
      let a : ℕ = 2 ^ (4 - p.log) in
      let e : q * 640 ≡ q * a * period_of p = ap (λ (x : ℕ). q * x) (sym base_whole) ∙ sym (mul_assoc q a (period_of p)) in
      ap (λ (x : ℕ). allows p (t + x)) e ∙ repeats_times (allows p) (period_of p) (repeats p ok) (q * a) t

  pub far : (t : ℕ) → allows p (t + all_periods) ≡ allows p t
  far t = base_repeats 64 t

  pub allowing : (t : ℕ) → allows p t ≡ true → Allowing p
  allowing t h = record { regular = ok; some = some_of (allows p) (period_of p) (repeats p ok) t (omega (arith, some_spans p ok)) h }

-- ---- a subframe's unit

module _ (table : Timetable) (Z : Sized table) (t : ℕ) (inside : t < 2 * (table.unit * table.units)) where
  abbrev P : ℕ
  P = table.unit * table.units

  abbrev x : ℕ
  x = t + 5 * P - table.first

  pub spotted : (n : ℕ) → n ≡ x / table.unit → (n * table.unit ≤ x) × (n < 2 ^ 14) × SpotAt table t (record { n = n; y = x - n * table.unit })
  spotted n e =
      let U : ℕ = table.unit in
      let some : 0 < U = omega (arith, Z.some) in
      let d : n * U + x % U ≡ x = ap (λ (m : ℕ). m * U + x % U) e ∙ div-add-mod' x U in
      let late : 4 * table.units ≤ x / U =
      (le-div_iff_mul-le some).1 (omega (arith, mul_assoc 4 table.units U, mul_comm table.units U, Z.long, Z.first)) in
      let early : n < 2 ^ 14 = omega (arith, mul-le-mul_left n Z.some, d, Z.all) in (
        omega (arith, d),
        early,
        record {
          there = omega (arith, d, mul_comm n U, Z.long, Z.first);
          inside = omega (arith, d, mod-lt x some);
          late = omega (arith, e, late);
          early = early;
        },
      )

-- ---- what remains

module _ (ms : Messages) (p : Pattern) (reg : Regular p) (table : Timetable) (S : Serves ms table) where
  abbrev u : ℕ → Bool
  u = allows p

  abbrev Q : ℕ
  Q = table.unit * table.units

  pub near : (t : ℕ) → u (t + Q) ≡ u t
  near t = let Z = served_sized ms table S in ap (λ (x : ℕ). u (t + x)) (sym Z.whole) ∙ base_repeats p reg Z.turns t

  pub remaining_again : (t : ℕ) → remaining ms u (t + Q) ≡ remaining ms u t
  remaining_again = repeats_all ms u table S near

  -- whether subframe y of a unit remains, asked of the first periods
  pub remains_here : (n y t : ℕ) (w : List ℕ) → Exact ms u table n w → y < table.unit → begin_of table n + y ≡ t + 5 * Q
      → (u t && leb (unit_need table n w) (count u (begin_of table n) y)) ≡ remaining ms u t
  remains_here n y t w X l e =
      let five : (test : ℕ → Bool) → ((t : ℕ) → test (t + Q) ≡ test t) → test (begin_of table n + y) ≡ test t = λ test again. ap test e ∙ repeats_times test Q again 5 t in
      sym (sym (five (remaining ms u) remaining_again) ∙ remains_in_unit ms u (far p reg) table S n w X y l
      ∙ ap (λ (b : Bool). b && leb (unit_need table n w) (count u (begin_of table n) y)) (five u near))

  -- and of any
  pub remains_found : (t n y : ℕ) (w : List ℕ) → Exact ms u table n w → y < table.unit → begin_of table n + y ≡ t % Q + 5 * Q → u t ≡ true
      → leb (unit_need table n w) (count u (begin_of table n) y) ≡ remaining ms u t
  remains_found t n y w X l e h =
      let a : u (t % Q) ≡ true = sym (test_split u Q near t) ∙ h in
      ap (λ (b : Bool). b && leb (unit_need table n w) (count u (begin_of table n) y)) (sym a) ∙ remains_here n y (t % Q) w X l e
      ∙ sym (test_split (remaining ms u) Q remaining_again t)
