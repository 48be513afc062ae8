-- What the walk finds at a unit is what the entries want there: an entry's count is right from where its window opened.
use Rattle.units.specs.Quick.{lane_at}
use Rattle.std.specs.Prelude.{get_or}
use Rattle.std.specs.Prelude.{List}
use mathlib.Core.Bool.{Bool, ◌&&◌}
use mathlib.Core.Path.{◌≡◌, refl, sym, ap, ap₂, subst, ◌∙◌}
use mathlib.Core.Logic.{⊎_elim}
use Prim.Native.Nat.{ℕ, zero, suc, ◌+◌, ◌-◌, ◌*◌, ◌≤◌, ◌<◌}
use native.Mathlib.Nat.{add-zero}
use native.Mathlib.Omega.{arith}
use lib.Dec.{leb}
use Rattle.counting.specs.Counting.{rank, count}
use Rattle.counting.proofs.Facts.{order}
use Rattle.messages.specs.declared.Schedule.{Schedule}
use Rattle.messages.specs.declared.Messages.{Messages}
use Rattle.units.specs.declared.Lane.{Lane}
use Rattle.units.specs.declared.Timetable.{Timetable}
use Rattle.messages.specs.Messages.{all_periods, remains, after1, after2, after3, remaining}
use Rattle.units.specs.Quick.{wants_at, all_need, Ranged, Sized, begin_of, need_of, lane_step_of, unit_step_of, unit_need, no_wants, wants_from, rest_from, opened_of, walk_from, wants_in, Exact, Serves}
use Rattle.messages.proofs.Repeating.{AllTurns, again1, again2, again3, remaining_repeats, sound, turns}
use Rattle.units.proofs.Entries.{UnitOf, entry_count, all_count, remaining_at}
use Rattle.units.proofs.Lanes.{Fresh, fresh_step, step_shut, opened_fresh, opened_most, opened_least, run_on, run_none, unit_free}
use Rattle.units.proofs.Timetables.{sized, longest_turns}
use Rattle.units.proofs.Running.{Runs, AllRun, all_run}

-- ---- one entry

module _ (ms : Messages) (j : ℕ) (s : Schedule) (table : Timetable) (l : Lane) (R : Runs ms j s table l) (ok : Ranged l) (u : ℕ → Bool)
    (again : (t : ℕ) → u (t + all_periods) ≡ u t) where
  abbrev W : ℕ → ℕ
  W n = wants_at ms j s u (begin_of table n)

  abbrev free_in : ℕ → ℕ
  free_in n = count u (begin_of table n) table.unit

  -- once the count is right it stays so
  wants_goes_on : (n w f : ℕ) → w ≡ W n → f ≡ free_in n → (lane_step_of l n w f).want ≡ W (n + 1)
  wants_goes_on n w f known rest = ap₂ (λ (x y : ℕ). (lane_step_of l n x y).want) known rest ∙ sym (R.next u again n)

  -- it is from unit a on, at which nothing is wanted
  wants_next : (a n w f : ℕ) → Fresh l a → (a ≤ n → w ≡ W n) → (a ≤ n → f ≡ free_in n) → a ≤ n + 1 → (lane_step_of l n w f).want ≡ W (n + 1)
  wants_next a n w f fresh known rest h = ⊎_elim begins (λ k. wants_goes_on n w f (known k) (rest k)) (order n a)
    where
      begins : n < a → (lane_step_of l n w f).want ≡ W (n + 1)
      begins k =
          let e : a ≡ n + 1 = omega arith in
          let here : Fresh l (n + 1) = subst (Fresh l) e fresh in
          step_shut l ok n w f (fresh_step l ok n here) ∙ sym (R.shut u (n + 1) here)

  -- and so is what it leaves to the next entry
  free_next : (n w f : ℕ) → w ≡ W n → f ≡ free_in n → (lane_step_of l n w f).free ≡ count (remains ms j s u) (begin_of table n) table.unit
  unfolding lane_step_of
  free_next n w f known rest =
      ap₂ (λ (x y : ℕ). y - need_of l n x) known rest
      ∙ sym (entry_count ms j s R.sound u again table.unit (begin_of table n) (R.unit n) table.unit (omega arith)
      ∙ ap (λ (x : ℕ). free_in n - x) (R.needs u n))

-- ---- all four

-- the table is that of the messages
module _ (ms : Messages) (table : Timetable) (S : Serves ms table) where
  pub served_run : AllRun ms table
  served_run = subst (AllRun ms) (sym S.1) (all_run ms S.0)

  pub served_sized : Sized table
  served_sized = subst Sized (sym S.1) (sized ms S.0)

module _ (ms : Messages) (u : ℕ → Bool) (again : (t : ℕ) → u (t + all_periods) ≡ u t) (table : Timetable) (S : Serves ms table) where
  R : AllRun ms table
  R = served_run ms table S

  Z : Sized table
  Z = served_sized ms table S

  pub unit_at : (n : ℕ) → UnitOf ms table.unit (begin_of table n)
  unit_at n = record { u1 = R.r1.unit n; u2 = R.r2.unit n; u3 = R.r3.unit n; u4 = R.r4.unit n }

  abbrev u1 : ℕ → Bool
  u1 = after1 ms u

  abbrev u2 : ℕ → Bool
  u2 = after2 ms u

  abbrev u3 : ℕ → Bool
  u3 = after3 ms u

  pub far1 : (t : ℕ) → u1 (t + all_periods) ≡ u1 t
  far1 = again1 ms (sound ms S.0) u all_periods (turns ms S.0) again

  pub far2 : (t : ℕ) → u2 (t + all_periods) ≡ u2 t
  far2 = again2 ms (sound ms S.0) u all_periods (turns ms S.0) again

  pub far3 : (t : ℕ) → u3 (t + all_periods) ≡ u3 t
  far3 = again3 ms (sound ms S.0) u all_periods (turns ms S.0) again

  abbrev free : ℕ → ℕ
  free n = count u (begin_of table n) table.unit

  -- right from a1, a2, a3, a4 on
  record Known (a1 a2 a3 a4 n : ℕ) (w : List ℕ) : Type 0 where
    k1 : a1 ≤ n → get_or w 0 0 ≡ wants_at ms 1 ms.s1 u (begin_of table n)
    k2 : a2 ≤ n → get_or w 1 0 ≡ wants_at ms 2 ms.s2 u1 (begin_of table n)
    k3 : a3 ≤ n → get_or w 2 0 ≡ wants_at ms 3 ms.s3 u2 (begin_of table n)
    k4 : a4 ≤ n → get_or w 3 0 ≡ wants_at ms 4 ms.s4 u3 (begin_of table n)

  module _ (a1 a2 a3 a4 : ℕ) (f1 : Fresh (lane_at table 0) a1) (f2 : Fresh (lane_at table 1) a2) (f3 : Fresh (lane_at table 2) a3) (f4 : Fresh (lane_at table 3) a4)
      (o2 : a1 ≤ a2) (o3 : a2 ≤ a3) (o4 : a3 ≤ a4) where
    known_first : Known a1 a2 a3 a4 a1 no_wants
    known_first = record {
      k1 = λ h. sym (R.r1.shut u a1 f1);
      k2 = λ h. sym (R.r2.shut u1 a1 (subst (Fresh (lane_at table 1)) (omega arith) f2));
      k3 = λ h. sym (R.r3.shut u2 a1 (subst (Fresh (lane_at table 2)) (omega arith) f3));
      k4 = λ h. sym (R.r4.shut u3 a1 (subst (Fresh (lane_at table 3)) (omega arith) f4));
    }

    known_next : (n : ℕ) (w : List ℕ) → Known a1 a2 a3 a4 n w → Known a1 a2 a3 a4 (n + 1) (unit_step_of table n w (free n)).wants
    unfolding unit_step_of
    known_next n w K =
        let g1 : a1 ≤ n → (lane_step_of (lane_at table 0) n (get_or w 0 0) (free n)).free ≡ count u1 (begin_of table n) table.unit =
        λ h. free_next ms 1 ms.s1 table (lane_at table 0) R.r1 Z.r1 u again n (get_or w 0 0) (free n) (K.k1 h) refl in
        let b : ℕ = (lane_step_of (lane_at table 0) n (get_or w 0 0) (free n)).free in
        let g2 : a2 ≤ n → (lane_step_of (lane_at table 1) n (get_or w 1 0) b).free ≡ count u2 (begin_of table n) table.unit =
        λ h. free_next ms 2 ms.s2 table (lane_at table 1) R.r2 Z.r2 u1 far1 n (get_or w 1 0) b (K.k2 h) (g1 (omega arith)) in
        let c : ℕ = (lane_step_of (lane_at table 1) n (get_or w 1 0) b).free in
        let g3 : a3 ≤ n → (lane_step_of (lane_at table 2) n (get_or w 2 0) c).free ≡ count u3 (begin_of table n) table.unit =
        λ h. free_next ms 3 ms.s3 table (lane_at table 2) R.r3 Z.r3 u2 far2 n (get_or w 2 0) c (K.k3 h) (g2 (omega arith)) in
        record {
          k1 = wants_next ms 1 ms.s1 table (lane_at table 0) R.r1 Z.r1 u again a1 n (get_or w 0 0) (free n) f1 K.k1 (λ h. refl);
          k2 = wants_next ms 2 ms.s2 table (lane_at table 1) R.r2 Z.r2 u1 far1 a2 n (get_or w 1 0) b f2 K.k2 (λ h. g1 (omega arith));
          k3 = wants_next ms 3 ms.s3 table (lane_at table 2) R.r3 Z.r3 u2 far2 a3 n (get_or w 2 0) c f3 K.k3 (λ h. g2 (omega arith));
          k4 =
              wants_next ms 4 ms.s4 table (lane_at table 3) R.r4 Z.r4 u3 far3 a4 n (get_or w 3 0)
              (lane_step_of (lane_at table 2) n (get_or w 2 0) c).free f4 K.k4 (λ h. g3 (omega arith));
        }

    known_after : (i : ℕ) → Known a1 a2 a3 a4 (a1 + i) (wants_from table u a1 no_wants i)
    known_after zero = subst (λ (n : ℕ). Known a1 a2 a3 a4 n (wants_from table u a1 no_wants 0)) (sym (add-zero a1)) (subst (Known a1 a2 a3 a4 a1) (sym (run_none table u a1 no_wants).0) known_first)
    known_after (suc i) =
        let e : a1 + i + 1 ≡ a1 + suc i = omega arith in
        subst (λ (n : ℕ). Known a1 a2 a3 a4 n (wants_from table u a1 no_wants (suc i))) e
        (subst (Known a1 a2 a3 a4 (a1 + i + 1)) (sym (run_on table u a1 no_wants i).0) (known_next (a1 + i) (wants_from table u a1 no_wants i) (known_after i)))

  -- ---- what a walk finds is exact

  pub walk_exact : (n : ℕ) → 4 * table.units ≤ n → Exact ms u table n (wants_in table u n)
  unfolding wants_in walk_from
  walk_exact n h =
      let a4 : ℕ = opened_of (lane_at table 3) n in
      let a3 : ℕ = opened_of (lane_at table 2) a4 in
      let a2 : ℕ = opened_of (lane_at table 1) a3 in
      let a1 : ℕ = opened_of (lane_at table 0) a2 in
      let b4 : a4 ≤ n = opened_most (lane_at table 3) Z.r4 n in
      let b3 : a3 ≤ a4 = opened_most (lane_at table 2) Z.r3 a4 in
      let b2 : a2 ≤ a3 = opened_most (lane_at table 1) Z.r2 a3 in
      let b1 : a1 ≤ a2 = opened_most (lane_at table 0) Z.r1 a2 in
      let c4 : n ≤ a4 + table.units = omega (arith, opened_least (lane_at table 3) Z.r4 n, Z.t4) in
      let c3 : a4 ≤ a3 + table.units = omega (arith, opened_least (lane_at table 2) Z.r3 a4, Z.t3) in
      let c2 : a3 ≤ a2 + table.units = omega (arith, opened_least (lane_at table 1) Z.r2 a3, Z.t2) in
      let e : a1 + (n - a1) ≡ n = omega (arith, b1, b2, b3, b4) in
      let K =
      known_after a1 a2 a3 a4
      (opened_fresh (lane_at table 0) Z.r1 a2 (omega (arith, h, c4, c3, c2, Z.t1)))
      (opened_fresh (lane_at table 1) Z.r2 a3 (omega (arith, h, c4, c3, Z.t2)))
      (opened_fresh (lane_at table 2) Z.r3 a4 (omega (arith, h, c4, Z.t3)))
      (opened_fresh (lane_at table 3) Z.r4 n (omega (arith, h, Z.t4)))
      b1 b2 b3 (n - a1) in
      let K' : Known a1 a2 a3 a4 n (wants_from table u a1 no_wants (n - a1)) = subst (λ (m : ℕ). Known a1 a2 a3 a4 m (wants_from table u a1 no_wants (n - a1))) e K in
      record {
        x1 = K'.k1 (omega (arith, b1, b2, b3, b4));
        x2 = K'.k2 (omega (arith, b2, b3, b4));
        x3 = K'.k3 (omega (arith, b3, b4));
        x4 = K'.k4 b4;
      }

  -- ---- a unit with exact wants

  module _ (n : ℕ) (w : List ℕ) (X : Exact ms u table n w) where
    pub need_exact : unit_need table n w ≡ all_need ms u (begin_of table n)
    unfolding unit_need all_need
    need_exact =
        omega (
          arith,
          ap (need_of (lane_at table 0) n) X.x1 ∙ sym (R.r1.needs u n),
          ap (need_of (lane_at table 1) n) X.x2 ∙ sym (R.r2.needs u1 n),
          ap (need_of (lane_at table 2) n) X.x3 ∙ sym (R.r3.needs u2 n),
          ap (need_of (lane_at table 3) n) X.x4 ∙ sym (R.r4.needs u3 n),
        )

    -- of its first y subframes those remain that are free past what is needed
    pub unit_remaining : (y : ℕ) → y ≤ table.unit → count (remaining ms u) (begin_of table n) y ≡ count u (begin_of table n) y - unit_need table n w
    unit_remaining y l =
        all_count ms (sound ms S.0) u (turns ms S.0) again table.unit (begin_of table n) (unit_at n) y l ∙ ap (λ (x : ℕ). count u (begin_of table n) y - x) (sym need_exact)

    -- and the next unit's are exact too
    pub exact_next : Exact ms u table (n + 1) (unit_step_of table n w (free n)).wants
    unfolding unit_step_of
    exact_next =
        let b : ℕ = (lane_step_of (lane_at table 0) n (get_or w 0 0) (free n)).free in
        let c : ℕ = (lane_step_of (lane_at table 1) n (get_or w 1 0) b).free in
        let d : ℕ = (lane_step_of (lane_at table 2) n (get_or w 2 0) c).free in
        let g1 : b ≡ count u1 (begin_of table n) table.unit = free_next ms 1 ms.s1 table (lane_at table 0) R.r1 Z.r1 u again n (get_or w 0 0) (free n) X.x1 refl in
        let g2 : c ≡ count u2 (begin_of table n) table.unit =
        free_next ms 2 ms.s2 table (lane_at table 1) R.r2 Z.r2 u1 far1 n (get_or w 1 0) b X.x2 g1 in
        let g3 : d ≡ count u3 (begin_of table n) table.unit =
        free_next ms 3 ms.s3 table (lane_at table 2) R.r3 Z.r3 u2 far2 n (get_or w 2 0) c X.x3 g2 in
        record {
          x1 = wants_goes_on ms 1 ms.s1 table (lane_at table 0) R.r1 Z.r1 u again n (get_or w 0 0) (free n) X.x1 refl;
          x2 = wants_goes_on ms 2 ms.s2 table (lane_at table 1) R.r2 Z.r2 u1 far1 n (get_or w 1 0) b X.x2 g1;
          x3 = wants_goes_on ms 3 ms.s3 table (lane_at table 2) R.r3 Z.r3 u2 far2 n (get_or w 2 0) c X.x3 g2;
          x4 = wants_goes_on ms 4 ms.s4 table (lane_at table 3) R.r4 Z.r4 u3 far3 n (get_or w 3 0) d X.x4 g3;
        }

    -- what the step leaves of it
    pub step_remaining : (unit_step_of table n w (free n)).remaining ≡ count (remaining ms u) (begin_of table n) table.unit
    unfolding unit_step_of lane_step_of unit_need
    step_remaining = omega (arith, unit_remaining table.unit (omega arith))

    -- subframe y of it remains if it is free and as many free ones lie before it as are needed
    pub remains_in_unit : (y : ℕ) → y < table.unit → remaining ms u (begin_of table n + y) ≡ (u (begin_of table n + y) && leb (unit_need table n w) (count u (begin_of table n) y))
    remains_in_unit y l =
        remaining_at ms (sound ms S.0) u (turns ms S.0) again table.unit (begin_of table n) (unit_at n) y l
        ∙ ap (λ (x : ℕ). u (begin_of table n + y) && leb x (count u (begin_of table n) y)) (sym need_exact)

  -- unit by unit they stay exact, and what remains is counted
  pub run_exact : (n : ℕ) (w : List ℕ) → Exact ms u table n w → (i : ℕ) → Exact ms u table (n + i) (wants_from table u n w i)
      × (rank (remaining ms u) (begin_of table (n + i)) ≡ rank (remaining ms u) (begin_of table n) + rest_from table u n w i)
  run_exact n w X zero =
      let o = run_none table u n w in (
        subst (λ (m : ℕ). Exact ms u table m (wants_from table u n w 0)) (sym (add-zero n)) (subst (Exact ms u table n) (sym o.0) X),
        omega (arith, ap (λ (m : ℕ). rank (remaining ms u) (begin_of table m)) (add-zero n), o.1),
      )
  run_exact n w X (suc i) =
      let I = run_exact n w X i in
      let m : ℕ = n + i in
      let v = wants_from table u n w i in
      let o = run_on table u n w i in
      let e : m + 1 ≡ n + suc i = omega arith in (
        subst (λ (k : ℕ). Exact ms u table k (wants_from table u n w (suc i))) e
            (subst (Exact ms u table (m + 1)) (sym o.0) (exact_next m v I.0)),
        omega (
          arith,
          I.1,
          o.1,
          unit_free table (remaining ms u) m,
          step_remaining m v I.0,
          ap (λ (k : ℕ). rank (remaining ms u) (begin_of table k)) e,
        ),
      )

-- ---- all repeats after the longest period

module _ (ms : Messages) (u : ℕ → Bool) (table : Timetable) (S : Serves ms table) where
  pub repeats_all : ((t : ℕ) → u (t + table.unit * table.units) ≡ u t) → (t : ℕ) → remaining ms u (t + table.unit * table.units) ≡ remaining ms u t
  repeats_all =
      remaining_repeats ms (sound ms S.0) u (table.unit * table.units)
      (subst (λ (tb : Timetable). AllTurns ms (tb.unit * tb.units)) (sym S.1) (longest_turns ms S.0))
