-- The search over periods: a scan of one period finds the subframe, or says how many a period has.
use Rattle.std.specs.Prelude.{List}
use mathlib.Core.Bool.{Bool, true}
use mathlib.Core.Path.{◌≡◌, refl, sym, ap, subst, ◌∙◌}
use mathlib.Core.Logic.{⊎_elim}
use Prim.Native.Nat.{ℕ, ◌+◌, ◌-◌, ◌*◌, ◌/◌, ◌%◌, ◌^◌, ◌≤◌, ◌<◌}
use native.Mathlib.Nat.{mul-add, add-mul, one-mul, mul-zero, mod-lt, div-add-mod', mod-add-div'}
use native.Mathlib.Omega.{arith}
use Rattle.counting.specs.Counting.{rank, count, select}
use Rattle.counting.specs.Scaffold.{Nth}
use Rattle.counting.proofs.Facts.{order}
use Rattle.counting.proofs.Rank.{rank_count, rank_le, rank_mono}
use Rattle.counting.proofs.Select.{nth_of}
use Rattle.counting.proofs.Period.{rank_period, rank_periods, rank_split, repeats_times, some_of, select_is, is_select}
use Rattle.spans.specs.declared.Pattern.{Pattern}
use Rattle.spans.specs.Pattern.{allows, Regular}
use Rattle.messages.specs.declared.Messages.{Messages}
use Rattle.units.specs.declared.Timetable.{Timetable}
use Rattle.units.specs.declared.Sight.{Sight}
use Rattle.units.specs.declared.Spot.{Spot}
use Rattle.timetable.specs.declared.Sought.{Sought}
use Rattle.timetable.specs.declared.Hit.{Hit}
use Rattle.messages.specs.Messages.{all_periods, are_listed, remaining}
use Rattle.units.specs.Quick.{begin_of, unit_need, wants_in, Serves, Exact, Allowing, SpotAt}
use Rattle.timetable.specs.Quick.{Scanned, SightAt, moved, Hits, Sighted, Struck, SoughtAt}
use Rattle.messages.proofs.Repeating.{repeats_at_last, remaining_free}
use Rattle.units.proofs.Finding.{base_repeats, far, allowing, remaining_again}
use Rattle.units.proofs.Walking.{walk_exact, unit_remaining}

module _ (ms : Messages) (p : Pattern) (reg : Regular p) (table : Timetable) (S : Serves ms table) where
  abbrev u : ℕ → Bool
  u = allows p

  abbrev rest : ℕ → Bool
  rest = remaining ms u

  abbrev Q : ℕ
  Q = table.unit * table.units

  abbrev R : ℕ
  R = rank rest Q

  rest_again : (t : ℕ) → rest (t + Q) ≡ rest t
  rest_again = remaining_again ms p reg table S

  pub turned : (n : ℕ) → rank rest (begin_of table (n + table.units)) ≡ rank rest (begin_of table n) + R
  turned n =
      let e : begin_of table (n + table.units) ≡ begin_of table n + Q = omega (arith, mul-add table.unit n table.units) in
      ap (rank rest) e ∙ rank_period rest Q rest_again (begin_of table n)

  -- far, and then near
  pub chained : {even : Bool} (s m r : Sight) (end : ℕ) → Scanned ms u table s end even m → Scanned ms u table m end true r → Scanned ms u table s end true r
  chained s m r end C D = record { same = C.same ∙ D.same; exact = D.exact; here = D.here }

  -- a whole period was passed
  pub passed : {even : Bool} (s r : Sight) (end : ℕ) → Scanned ms u table s end even r → r.n ≡ s.n + table.units → s.k ≡ R + r.k
  passed s r end C e = omega (arith, C.same, ap (λ (n : ℕ). rank rest (begin_of table n)) e, turned s.n)

  -- fewer than a period has are found before its end
  pub found_early : {even : Bool} (s r : Sight) → r.n ≤ s.n + table.units → Scanned ms u table s (s.n + table.units) even r → s.k < R → r.n < s.n + table.units
  found_early s r h C l =
      ⊎_elim (λ k. k) (λ k. absurd (omega (arith, l, passed s r (s.n + table.units) C (omega (arith, h, k))))) (order r.n (s.n + table.units))

  -- more than there are is never found
  pub passed_all : {even : Bool} (s r : Sight) (end : ℕ) → Scanned ms u table s end even r → 2 ^ 31 ≤ s.k → (r.n < end → r.k < 2 ^ 29) → r.n ≤ end → begin_of table r.n < 2 ^ 29
      → r.n ≡ end
  passed_all s r end C many near h b =
      ⊎_elim (λ l. absurd (omega (arith, C.same, many, near l, b, rank_le rest (begin_of table r.n)))) (λ l. omega (arith, h, l)) (order r.n end)

  -- the rest of a division, and all again
  pub whole_again : (k left q : ℕ) → k ≡ R + left → 0 < R → q ≡ left / R → (q * R ≤ left) × (left - q * R < R) × (left - q * R + (q + 1) * R ≡ k)
  whole_again k left q e some d =
      let x : q * R + left % R ≡ left = ap (λ (m : ℕ). m * R + left % R) d ∙ div-add-mod' left R in
      (omega (arith, x), omega (arith, x, mod-lt left some), omega (arith, x, e, add-mul q 1 R, one-mul R))

  -- ---- where the search begins

  pub walked : (n : ℕ) → 4 * table.units ≤ n → Exact ms u table n (wants_in table u n)
  walked = walk_exact ms u (far p reg) table S

  -- what remains of a unit's first y subframes
  pub first_count : (n y : ℕ) (w : List ℕ) → Exact ms u table n w → y ≤ table.unit
      → rank rest (begin_of table n) + (count u (begin_of table n) y - unit_need table n w) ≡ rank rest (begin_of table n + y)
  first_count n y w X l = omega (arith, unit_remaining ms u (far p reg) table S n w X y l, rank_count rest y (begin_of table n))

  pub sight_is : (t : ℕ) (o : Spot) (r : Sight) → SpotAt table t o → r.n ≡ o.n → r.wants ≡ wants_in table u o.n
      → r.k ≡ count u (begin_of table r.n) o.y - unit_need table r.n r.wants → SightAt ms u table t r
  sight_is t o r A e f g =
      let X : Exact ms u table r.n r.wants = subst (λ (n : ℕ). Exact ms u table n r.wants) (sym e) (subst (Exact ms u table o.n) (sym f) (walked o.n A.late)) in
      record {
        exact = X;
        same =
            omega (
              arith,
              g,
              first_count r.n o.y r.wants X (omega (arith, A.inside)),
              ap (λ (n : ℕ). rank rest (begin_of table n + o.y)) e ∙ ap (rank rest) A.there,
            );
      }

  -- ---- counting

  -- a part of a period, and whole ones
  pub count_is : (from t part : ℕ) → from ≤ t → rank rest (from % Q + 5 * Q) + part ≡ rank rest (from % Q + (t - from) % Q + 5 * Q)
      → rank rest from + (part + (t - from) / Q * R) ≡ rank rest t
  count_is from t part h e =
      let x : ℕ = from % Q in
      let y : ℕ = (t - from) % Q in
      let a : ℕ = from / Q in
      let b : ℕ = (t - from) / Q in
      let ends : x + y + (a + b) * Q ≡ t = omega (arith, h, mod-add-div' from Q, mod-add-div' (t - from) Q, add-mul a b Q) in
      omega (
        arith,
        e,
        rank_periods rest Q rest_again 5 x,
        rank_periods rest Q rest_again 5 (x + y),
        rank_periods rest Q rest_again a x,
        ap (rank rest) (mod-add-div' from Q),
        rank_periods rest Q rest_again (a + b) (x + y),
        ap (rank rest) ends,
        add-mul a b R,
      )

  -- whole periods later the same remain
  pub same_later : (from t : ℕ) → from ≤ t → rest (from % Q + (t - from) % Q) ≡ rest t
  same_later from t h =
      let q : ℕ = from / Q + (t - from) / Q in
      let e : from % Q + (t - from) % Q + q * Q ≡ t = omega (arith, h, mod-add-div' from Q, mod-add-div' (t - from) Q, add-mul (from / Q) ((t - from) / Q) Q) in
      sym (repeats_times rest Q rest_again q (from % Q + (t - from) % Q)) ∙ ap rest e

  -- ---- and where it ends

  pub nth_is : (s : Sight) (from j at whole : ℕ) → 0 < Q → SightAt ms u table (from % Q) s → whole ≡ from / Q → Nth rest (begin_of table s.n) (s.k + j) at
      → (5 * Q ≤ at) × Nth rest from j (at + whole * Q - 5 * Q)
  nth_is s from j at whole some A d N =
      let t : ℕ = from % Q in
      let here : rank rest at ≡ rank rest (t + 5 * Q) + j = omega (arith, N.before, A.same) in
      let late : t + 5 * Q ≤ at = (nth_of rest (t + 5 * Q) j at N.passes here).late in
      let a : ℕ = at - 5 * Q in
      let back : a + 5 * Q ≡ at = omega (arith, late) in
      let e : t + whole * Q ≡ from = ap (λ (x : ℕ). t + x * Q) d ∙ mod-add-div' from Q in
      let r : a + whole * Q ≡ at + whole * Q - 5 * Q = omega (arith, late) in (
        omega (arith, late),
        subst (Nth rest from j) r
            (nth_of rest from j (a + whole * Q)
            (repeats_times rest Q rest_again whole a ∙ sym (repeats_times rest Q rest_again 5 a) ∙ ap rest back ∙ N.passes)
            (omega (
              arith,
              here,
              rank_periods rest Q rest_again whole a,
              rank_periods rest Q rest_again 5 a,
              ap (rank rest) back,
              rank_periods rest Q rest_again 5 t,
              rank_periods rest Q rest_again whole t,
              ap (rank rest) e,
            ))),
      )

  -- at hand whole periods before
  pub hit_is : (s : Sight) (h : Hit) (from j at whole : ℕ) → 0 < Q → SightAt ms u table (from % Q) s → Hits ms u table (moved s j) h → whole ≡ from / Q
      → Nth rest (begin_of table h.sight.n) h.sight.k at → (5 * Q ≤ at + h.later) × Nth rest from j (at + h.later + whole * Q - 5 * Q)
  hit_is s h from j at whole some A H d N =
      let e : at + H.turns * Q ≡ at + h.later = ap (λ (x : ℕ). at + x) (sym H.later) in
      nth_is s from j (at + h.later) whole some A d
      (nth_of rest (begin_of table s.n) (s.k + j) (at + h.later)
      (ap rest (sym e) ∙ repeats_times rest Q rest_again H.turns at ∙ N.passes)
      (omega (arith, ap (rank rest) e, rank_periods rest Q rest_again H.turns at, N.before, H.same)))

  -- and from there on
  pub hits_on : (s : Sight) (j more : ℕ) (a b : Hit) → Hits ms u table (moved s j) a → Hits ms u table (moved a.sight more) b
      → Hits ms u table (moved s (j + more)) (record { sight = b.sight; later = b.later + a.later })
  hits_on s j more a b A B = record {
    exact = B.exact;
    here = B.here;
    turns = A.turns + B.turns;
    later = omega (arith, A.later, B.later, add-mul A.turns B.turns Q);
    same = omega (arith, A.same, B.same, add-mul A.turns B.turns R);
  }

-- ---- some remain

module _ (ms : Messages) (ok : are_listed ms ≡ true) (p : Pattern) (reg : Regular p) where
  abbrev all : ℕ → Bool
  all = remaining ms (allows p)

  pub all_again : (t : ℕ) → all (t + all_periods) ≡ all t
  all_again = repeats_at_last ms ok (allows p) 640 64 refl (base_repeats p reg 1)

  module _ (some : 0 < rank all all_periods) where
    pub first_is : Nth all 0 0 (select all all_periods 0 0)
    first_is = select_is all all_periods all_again some 0 0

    pub allows_some : Allowing p
    allows_some = allowing p reg (select all all_periods 0 0) (remaining_free ms (allows p) (select all all_periods 0 0) first_is.passes)

    -- a period has some
    pub period_some : (table : Timetable) → Serves ms table → 0 < table.unit * table.units → 0 < rank all (table.unit * table.units)
    period_some table S h = some_of all (table.unit * table.units) (remaining_again ms p reg table S) (select all all_periods 0 0) h first_is.passes

    pub found_is : (from j t : ℕ) → Nth all from j t → t ≡ select all all_periods from j
    found_is = is_select all all_periods all_again some

  -- none remain anywhere where none of all periods do
  pub none_anywhere : rank all all_periods ≡ 0 → (t : ℕ) → rank all t ≡ 0
  none_anywhere z t =
      omega (
        arith,
        rank_split all all_periods all_again t,
        ap (λ (x : ℕ). t / all_periods * x) z ∙ mul-zero (t / all_periods),
        rank_mono all (t % all_periods) all_periods (omega arith),
      )

-- ---- from where a search began

module _ (ms : Messages) (p : Pattern) (from : ℕ) (r : Sought) (B : SoughtAt ms p from r) where
  pub sighted : (n : ℕ) (w : List ℕ) → Exact ms (allows p) r.table n w → Sighted r.table (allows p) n w
  sighted n w X = record { ms = ms; serves = B.serves; exact = X; some = B.some }

  pub struck : (h : Hit) (j : ℕ) → Hits ms (allows p) r.table (moved r.sight j) h → Struck r.table (allows p) from h
  struck h j H = record { ms = ms; serves = B.serves; s = r.sight; j = j; sight = B.sight; hits = H }
