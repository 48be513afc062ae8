-- A window that meets no other: what it leaves is counted by its lane alone, and is the same whenever the window opens.
use Rattle.units.specs.Quick.{lane_at}
use Rattle.std.specs.Prelude.{List, [], ◌∷◌}
use mathlib.Core.Bool.{Bool, false, cond}
use mathlib.Core.Path.{◌≡◌, refl, sym, ap, ap₂, subst, ◌∙◌}
use mathlib.Core.Logic.{inl, inr, ⊎_elim}
use Prim.Native.Nat.{ℕ, zero, suc, ◌+◌, ◌-◌, ◌*◌, ◌/◌, ◌%◌, ◌^◌, ◌≤◌, ◌<◌}
use native.Mathlib.Nat.{add-zero, mul_assoc, mul-add, mul_comm, zero-mul, suc-mul, mod_self, div-add-mod'}
use native.Mathlib.Omega.{arith}
use lib.Dec.{ltb}
use mir.Val.{bool_byte}
use borrow.Author.Tests.{le-ltb}
use Rattle.counting.specs.Counting.{rank, count}
use Rattle.counting.proofs.Facts.{order}
use Rattle.counting.proofs.Rank.{rank_count, count_same}
use Rattle.messages.specs.declared.Messages.{Messages}
use Rattle.messages.specs.Messages.{all_periods, after1, after2, after3, remaining}
use Rattle.units.specs.declared.Lane.{Lane}
use Rattle.units.specs.declared.LaneStep.{LaneStep}
use Rattle.units.specs.declared.UnitStep.{UnitStep}
use Rattle.units.specs.declared.Timetable.{Timetable}
use Rattle.strides.specs.declared.Stride.{Stride}
use Rattle.std.specs.Prelude.{None, Some, get_or, set}
use Rattle.units.specs.Quick.{Ranged, Turned, Sized, begin_of, place_of, need_of, lane_step_of, unit_step_of, no_wants, Serves, Exact}
use Rattle.strides.specs.Quick.{Goes, Shut, NoOther, Apart, lone_want, lone_rest, alone_of, Keeps}
use Rattle.units.proofs.Lanes.{Fresh, place_on, step_shut, unit_free}
use Rattle.units.proofs.Walking.{served_run, served_sized, exact_next, step_remaining}
use Rattle.strides.proofs.Striding.{need_shut}

-- ---- one of four

pub by_four : (P : ℕ → Type 0) → P 0 → P 1 → P 2 → P 3 → (i : ℕ) → i < 4 → P i
by_four P a b c d zero h = a
by_four P a b c d (suc zero) h = b
by_four P a b c d (suc (suc zero)) h = c
by_four P a b c d (suc (suc (suc zero))) h = d
by_four P a b c d (suc (suc (suc (suc i)))) h = absurd (omega arith)

module _ (table : Timetable) (Z : Sized table) where
  pub ranged_at : (i : ℕ) → i < 4 → Ranged (lane_at table i)
  ranged_at = by_four (λ i. Ranged (lane_at table i)) Z.r1 Z.r2 Z.r3 Z.r4

  pub turned_at : (i : ℕ) → i < 4 → Turned table.unit (lane_at table i)
  turned_at = by_four (λ i. Turned table.unit (lane_at table i)) Z.u1 Z.u2 Z.u3 Z.u4

module _ (table : Timetable) (u : ℕ → Bool) where
  pub none_keeps : Keeps table u (None ∷ None ∷ None ∷ None ∷ [])
  none_keeps = record { each = none }
    where
      none : (i x : ℕ) → get_or (None ∷ None ∷ None ∷ None ∷ []) i None ≡ Some x → x ≡ alone_of table u (lane_at table i)
      none zero x e = absurd (cc)
      none (suc zero) x e = absurd (cc)
      none (suc (suc zero)) x e = absurd (cc)
      none (suc (suc (suc zero))) x e = absurd (cc)
      none (suc (suc (suc (suc i)))) x e = absurd (cc)

-- what one of them wants, and the others nothing
abbrev only : ℕ → ℕ → List ℕ
only i v = set no_wants i v

only_none : (i : ℕ) → i < 4 → only i 0 ≡ no_wants
only_none = by_four (λ i. only i 0 ≡ no_wants) refl refl refl refl

-- ---- a unit: those that are shut let all pass

idle_step : (l : Lane) (n f : ℕ) → Shut l n → ◌≡◌ {A = LaneStep} (lane_step_of l n 0 f) (record { want = 0; free = f })
unfolding lane_step_of
idle_step l n f h =
    let a : cond (ltb (place_of l n + 1) l.window) (need_of l n 0 - f) 0 ≡ 0 = rw (le-ltb (place_of l n + 1) l.window (omega arith)) refl in
    let b : f - need_of l n 0 ≡ f = omega (arith, need_shut l n 0 h) in
    λ i. record { want = a i; free = b i }

abbrev step_alone : Timetable → ℕ → ℕ → ℕ → ℕ → UnitStep
step_alone table i n v f = record { wants = only i (lane_step_of (lane_at table i) n v f).want; remaining = (lane_step_of (lane_at table i) n v f).free }

step_alone_lem : (table : Timetable) (n v f i : ℕ) → i < 4 → NoOther table i n → unit_step_of table n (only i v) f ≡ step_alone table i n v f
unfolding unit_step_of
step_alone_lem table n v f =
    by_four (λ i. NoOther table i n → unit_step_of table n (only i v) f ≡ step_alone table i n v f)
    (λ h.
    let g : ℕ = (lane_step_of (lane_at table 0) n v f).free in
    rw (idle_step (lane_at table 1) n g (h 1 (omega arith) (λ e. omega arith)), idle_step (lane_at table 2) n g (h 2 (omega arith) (λ e. omega arith)), idle_step (lane_at table 3) n g (h 3 (omega arith) (λ e. omega arith))) refl)
    (λ h.
    let g : ℕ = (lane_step_of (lane_at table 1) n v f).free in
    rw (idle_step (lane_at table 0) n f (h 0 (omega arith) (λ e. omega arith)), idle_step (lane_at table 2) n g (h 2 (omega arith) (λ e. omega arith)), idle_step (lane_at table 3) n g (h 3 (omega arith) (λ e. omega arith))) refl)
    (λ h.
    let g : ℕ = (lane_step_of (lane_at table 2) n v f).free in
    rw (idle_step (lane_at table 0) n f (h 0 (omega arith) (λ e. omega arith)), idle_step (lane_at table 1) n f (h 1 (omega arith) (λ e. omega arith)), idle_step (lane_at table 3) n g (h 3 (omega arith) (λ e. omega arith))) refl)
    (λ h.
    rw (idle_step (lane_at table 0) n f (h 0 (omega arith) (λ e. omega arith)), idle_step (lane_at table 1) n f (h 1 (omega arith) (λ e. omega arith)), idle_step (lane_at table 2) n f (h 2 (omega arith) (λ e. omega arith))) refl)

-- ---- the same whenever it opens

module _ (u : ℕ → Bool) (table : Timetable) (l : Lane) (ok : Ranged l) where
  abbrev free_at : ℕ → ℕ
  free_at n = count u (begin_of table n) table.unit

  pub lone_on : (n i : ℕ) → (lone_want u table l n (suc i) ≡ (lane_step_of l (n + i) (lone_want u table l n i) (free_at (n + i))).want)
      × (lone_rest u table l n (suc i) ≡ lone_rest u table l n i + (lane_step_of l (n + i) (lone_want u table l n i) (free_at (n + i))).free)
  unfolding lone_want lone_rest
  lone_on n i = (refl, refl)

  pub lone_none : (n : ℕ) → (lone_want u table l n 0 ≡ 0) × (lone_rest u table l n 0 ≡ 0)
  unfolding lone_want lone_rest
  lone_none n = (refl, refl)

  -- a lane's step depends on its place alone
  same_step : (a b v f : ℕ) → place_of l a ≡ place_of l b → lane_step_of l a v f ≡ lane_step_of l b v f
  unfolding lane_step_of need_of
  same_step a b v f e = rw e refl

  step_less : (n v f : ℕ) → (lane_step_of l n v f).free ≤ f
  unfolding lane_step_of
  step_less n v f = omega arith

  -- no more than is free
  pub lone_most : (n i : ℕ) → rank u (begin_of table n) + lone_rest u table l n i ≤ rank u (begin_of table (n + i))
  lone_most n zero = rw (add-zero n) (omega (arith, (lone_none n).1))
  lone_most n (suc i) =
      let e : n + i + 1 ≡ n + suc i = omega arith in
      omega (
        arith,
        lone_most n i,
        (lone_on n i).1,
        step_less (n + i) (lone_want u table l n i) (free_at (n + i)),
        unit_free table u (n + i),
        ap (λ (m : ℕ). rank u (begin_of table m)) e,
      )

  module _ (T : Turned table.unit l) (again : (q t : ℕ) → u (t + q * 640) ≡ u t) (n : ℕ) (opens : place_of l n ≡ 0) where
    abbrev M : ℕ
    M = 2 ^ l.log

    abbrev z : ℕ
    z = n + M - l.start

    abbrev turns : ℕ
    turns = z / M - 1

    -- unit n is whole turns after the first
    opened : n ≡ l.start + turns * M
    unfolding place_of
    opened =
        let o : z % M ≡ 0 = opens in
        ⊎_elim
        (λ (h : 0 < z / M).
        let e : suc (z / M - 1) ≡ z / M = omega arith in
        omega (arith, div-add-mod' z M, ok.start, ap (λ (x : ℕ). x * M) e, suc-mul (z / M - 1) M))
        (λ (h : z / M ≤ 0).
        let e : z / M ≡ 0 = omega arith in
        absurd (omega (arith, div-add-mod' z M, ok.start, ap (λ (x : ℕ). x * M) e, zero-mul M))) (order 0 (z / M))

    same_free : (i : ℕ) → free_at (n + i) ≡ free_at (l.start + i)
    same_free i =
        let U : ℕ = table.unit in
        let q : ℕ = turns * T.turns in
        let e : n + i ≡ l.start + i + turns * M = omega (arith, opened) in
        let f : U * (turns * M) ≡ q * 640 =
        sym (mul_assoc U turns M) ∙ ap (λ (x : ℕ). x * M) (mul_comm U turns) ∙ mul_assoc turns U M ∙ ap (λ (x : ℕ). turns * x) (sym T.whole)
        ∙ sym (mul_assoc turns T.turns 640) in
        count_same u u U (begin_of table (n + i)) (begin_of table (l.start + i)) λ y h.
        let g : begin_of table (n + i) + y ≡ begin_of table (l.start + i) + y + q * 640 =
        omega (arith, ap (λ (x : ℕ). U * x) e, mul-add U (l.start + i) (turns * M), f) in
        ap u g ∙ again q (begin_of table (l.start + i) + y)

    first_place : place_of l l.start ≡ 0
    unfolding place_of
    first_place = let e : l.start + M - l.start ≡ M = omega arith in ap (λ (x : ℕ). x % M) e ∙ mod_self M

    same_place : (i : ℕ) → i < l.window → place_of l (n + i) ≡ place_of l (l.start + i)
    same_place i h =
        omega (
          arith,
          opens,
          first_place,
          place_on l ok n i (omega (arith, opens, ok.window)),
          place_on l ok l.start i (omega (arith, first_place, ok.window)),
        )

    pub same_alone : (i : ℕ) → i ≤ l.window → (lone_want u table l n i ≡ lone_want u table l l.start i) × (lone_rest u table l n i ≡ lone_rest u table l l.start i)
    same_alone zero h = ((lone_none n).0 ∙ sym (lone_none l.start).0, (lone_none n).1 ∙ sym (lone_none l.start).1)
    same_alone (suc i) h =
        let I = same_alone i (omega arith) in
        let s = same_step (n + i) (l.start + i) (lone_want u table l n i) (free_at (n + i)) (same_place i (omega arith))
        ∙ ap₂ (lane_step_of l (l.start + i)) I.0 (same_free i) in (
          (lone_on n i).0 ∙ ap (λ (r : LaneStep). r.want) s ∙ sym (lone_on l.start i).0,
          (lone_on n i).1 ∙ ap₂ (λ (a b : ℕ). a + b) I.1 (ap (λ (r : LaneStep). r.free) s) ∙ sym (lone_on l.start i).1,
        )

-- ---- the window is passed

abbrev pub lone_stride : (ℕ → Bool) → Timetable → ℕ → ℕ → ℕ → Stride
lone_stride u table j units n =
    record { n = n + units; wants = no_wants; free = rank u (begin_of table (n + units)); remaining = alone_of table u (lane_at table j) }

module _ (ms : Messages) (u : ℕ → Bool) (again : (t : ℕ) → u (t + all_periods) ≡ u t) (base : (q t : ℕ) → u (t + q * 640) ≡ u t)
    (table : Timetable) (S : Serves ms table) where
  Z : Sized table
  Z = served_sized ms table S

  abbrev rest : ℕ → Bool
  rest = remaining ms u

  fresh : (n : ℕ) → Fresh (lane_at table 0) n → Fresh (lane_at table 1) n → Fresh (lane_at table 2) n → Fresh (lane_at table 3) n → Exact ms u table n no_wants
  fresh n f1 f2 f3 f4 =
      let R = served_run ms table S in
      record {
        x1 = sym (R.r1.shut u n f1);
        x2 = sym (R.r2.shut (after1 ms u) n f2);
        x3 = sym (R.r3.shut (after2 ms u) n f3);
        x4 = sym (R.r4.shut (after3 ms u) n f4);
      }

  first_exact : (n j : ℕ) → j < 4 → place_of (lane_at table j) n ≡ 0 → NoOther table j n → Exact ms u table n (only j 0)
  first_exact n =
      by_four (λ j. place_of (lane_at table j) n ≡ 0 → NoOther table j n → Exact ms u table n (only j 0))
      (λ e h. fresh n (inl e) (inr (h 1 (omega arith) (λ e. omega arith))) (inr (h 2 (omega arith) (λ e. omega arith))) (inr (h 3 (omega arith) (λ e. omega arith))))
      (λ e h. fresh n (inr (h 0 (omega arith) (λ e. omega arith))) (inl e) (inr (h 2 (omega arith) (λ e. omega arith))) (inr (h 3 (omega arith) (λ e. omega arith))))
      (λ e h. fresh n (inr (h 0 (omega arith) (λ e. omega arith))) (inr (h 1 (omega arith) (λ e. omega arith))) (inl e) (inr (h 3 (omega arith) (λ e. omega arith))))
      (λ e h. fresh n (inr (h 0 (omega arith) (λ e. omega arith))) (inr (h 1 (omega arith) (λ e. omega arith))) (inr (h 2 (omega arith) (λ e. omega arith))) (inl e))

  module _ (j : ℕ) (one : j < 4) (units n : ℕ) (A : Apart table j units n) (some : 0 < units) where
    abbrev l : Lane
    l = lane_at table j

    ranged : Ranged l
    ranged = ranged_at table Z j one

    -- unit by unit its lane's count is exact
    passed : (i : ℕ) → i ≤ units → Exact ms u table (n + i) (only j (lone_want u table l n i))
        × (rank rest (begin_of table (n + i)) ≡ rank rest (begin_of table n) + lone_rest u table l n i)
    passed zero h =
        let e = lone_none u table l ranged n in (
          subst (λ (m : ℕ). Exact ms u table m (only j (lone_want u table l n 0))) (sym (add-zero n))
              (subst (λ (v : ℕ). Exact ms u table n (only j v)) (sym e.0)
              (first_exact n j one A.opens (subst (NoOther table j) (add-zero n) (A.others 0 some)))),
          omega (arith, ap (λ (m : ℕ). rank rest (begin_of table m)) (add-zero n), e.1),
        )
    passed (suc i) h =
        let X = passed i (omega arith) in
        let m : ℕ = n + i in
        let v : ℕ = lone_want u table l n i in
        let o = lone_on u table l ranged n i in
        let s = step_alone_lem table m v (count u (begin_of table m) table.unit) j one (A.others i (omega arith)) in
        let e : m + 1 ≡ n + suc i = omega arith in (
          subst (λ (k : ℕ). Exact ms u table k (only j (lone_want u table l n (suc i)))) e
              (subst (Exact ms u table (m + 1)) (ap (λ (r : UnitStep). r.wants) s ∙ ap (only j) (sym o.0)) (exact_next ms u again table S m (only j v) X.0)),
          omega (
            arith,
            X.1,
            unit_free table rest m,
            step_remaining ms u again table S m (only j v) X.0,
            ap (λ (r : UnitStep). r.remaining) s,
            o.1,
            ap (λ (k : ℕ). rank rest (begin_of table k)) e,
          ),
        )

    -- at its end nothing is wanted
    ended : lone_want u table l n units ≡ 0
    ended =
        let i : ℕ = units - 1 in
        let e : suc i ≡ units = omega arith in
        let at : place_of l (n + i) ≡ place_of l n + i = place_on l ranged n i (omega (arith, A.opens, A.window, ranged.window)) in
        ap (lone_want u table l n) (sym e) ∙ (lone_on u table l ranged n i).0
        ∙ step_shut l ranged (n + i) (lone_want u table l n i) (count u (begin_of table (n + i)) table.unit) (omega (arith, at, A.opens, A.window))

    pub lone_goes : (w : List ℕ) → Goes ms u table n w (lone_stride u table j units n) false
    lone_goes w =
        let e : begin_of table (n + units) ≡ begin_of table n + table.unit * units = omega (arith, mul-add table.unit n units) in
        let P = passed units (omega arith) in
        record {
          length = table.unit * units;
          ends = e;
          evenly = λ h. absurd (omega (arith, ap bool_byte h));
          all =
              omega (
                arith,
                P.1,
                ap (lone_rest u table l n) A.window,
                (same_alone u table l ranged (turned_at table Z j one) base n A.opens l.window (omega arith)).1,
                rank_count rest (table.unit * units) (begin_of table n),
                ap (rank rest) e,
              );
          exact = subst (Exact ms u table (n + units)) (ap (only j) ended ∙ only_none j one) P.0;
        }
