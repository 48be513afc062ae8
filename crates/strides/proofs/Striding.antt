-- Units passed at once, and the subframe that is found in them.
use Rattle.units.specs.Quick.{lane_at}
use Rattle.std.specs.Prelude.{get_or}
use Rattle.std.specs.Prelude.{List, [], ◌∷◌}
use mathlib.Core.Bool.{Bool, true, false, ◌&&◌}
use mathlib.Core.Path.{◌≡◌, refl, sym, ap, subst, ◌∙◌}
use mathlib.Core.Logic.{⊎_elim}
use Prim.Native.Nat.{ℕ, suc, ◌+◌, ◌-◌, ◌*◌, ◌/◌, ◌%◌, ◌≤◌, ◌<◌}
use native.Mathlib.Nat.{mod-lt, div-add-mod', mul_comm, mul-add, mul-le-mul_right}
use native.Mathlib.Omega.{arith}
use mir.Val.{bool_byte}
use borrow.Author.Tests.{lt-ltb, le-ltb, le-leb}
use Rattle.counting.specs.Counting.{rank, count}
use Rattle.counting.specs.Scaffold.{Nth}
use Rattle.counting.proofs.Facts.{order}
use Rattle.counting.proofs.Rank.{rank_count, count_same, count_between, rank_later}
use Rattle.counting.proofs.Select.{nth_of}
use Rattle.messages.specs.declared.Messages.{Messages}
use Rattle.units.specs.declared.Lane.{Lane}
use Rattle.units.specs.declared.Timetable.{Timetable}
use Rattle.units.specs.declared.Sight.{Sight}
use Rattle.strides.specs.declared.Stride.{Stride}
use Rattle.strides.specs.declared.Leap.{Leap}
use Rattle.strides.specs.declared.Leap.TheVariants.{Past, To}
use Rattle.messages.specs.Messages.{all_periods, after1, after2, after3, remaining}
use Rattle.units.specs.Quick.{wants_at, Sized, begin_of, place_of, need_of, unit_step_of, unit_need, no_wants, Seen, Ran, wants_from, Serves, Exact}
use Rattle.strides.specs.Quick.{Quiet, Evenly, Goes, Strode, Here, past_of, Onward, Leapt, Held, Leaps}
use Rattle.messages.proofs.Queue.{count_last}
use Rattle.units.proofs.Lanes.{step_shut, count_most, unit_most}
use Rattle.units.proofs.Walking.{served_run, served_sized, far1, far2, far3, unit_remaining, remains_in_unit, step_remaining, run_exact}

pub need_shut : (l : Lane) (n w : ℕ) → l.window ≤ place_of l n → need_of l n w ≡ 0
unfolding need_of
need_shut l n w h = rw (le-ltb (place_of l n) l.window h) refl

-- where no window is open nothing is needed
pub quiet_need : (table : Timetable) (n : ℕ) (w : List ℕ) → Quiet table n → unit_need table n w ≡ 0
unfolding unit_need
quiet_need table n w q =
    omega (
      arith,
      need_shut (lane_at table 0) n (get_or w 0 0) q.q1,
      need_shut (lane_at table 1) n (get_or w 1 0) q.q2,
      need_shut (lane_at table 2) n (get_or w 2 0) q.q3,
      need_shut (lane_at table 3) n (get_or w 3 0) q.q4,
    )

-- a stretch of quiet units
abbrev pub quiet_stride : (ℕ → Bool) → Timetable → ℕ → ℕ → Stride
quiet_stride u table n d = record { n = n + d; wants = no_wants; free = rank u (begin_of table (n + d)); remaining = rank u (begin_of table (n + d)) - rank u (begin_of table n) }

module _ (ms : Messages) (u : ℕ → Bool) (again : (t : ℕ) → u (t + all_periods) ≡ u t) (table : Timetable) (S : Serves ms table) where
  Z : Sized table
  Z = served_sized ms table S

  abbrev rest : ℕ → Bool
  rest = remaining ms u

  -- what is wanted there, whatever it is
  abbrev known : ℕ → List ℕ
  known n =
      wants_at ms 1 ms.s1 u (begin_of table n) ∷ wants_at ms 2 ms.s2 (after1 ms u) (begin_of table n)
      ∷ wants_at ms 3 ms.s3 (after2 ms u) (begin_of table n) ∷ wants_at ms 4 ms.s4 (after3 ms u) (begin_of table n) ∷ []

  known_exact : (n : ℕ) → Exact ms u table n (known n)
  known_exact n = record { x1 = refl; x2 = refl; x3 = refl; x4 = refl }

  -- ---- one unit

  unit_here : (n k : ℕ) (w : List ℕ) → Exact ms u table n w → k < (unit_step_of table n w (count u (begin_of table n) table.unit)).remaining → Here ms u table n w k
  unit_here n k w X h = record {
    length = table.unit;
    evenly = record { counted = unit_remaining ms u again table S n w X };
    enough = omega (arith, h, step_remaining ms u again table S n w X);
  }

  -- ---- a stretch of units in which no window is open

  quiet_unit : (n : ℕ) → Quiet table n → (z : ℕ) → z < table.unit → rest (begin_of table n + z) ≡ u (begin_of table n + z)
  quiet_unit n q z l =
      remains_in_unit ms u again table S n (known n) (known_exact n) z l
      ∙ rw (quiet_need table n (known n) q, le-leb 0 (count u (begin_of table n) z) (omega arith)) (and_one (u (begin_of table n + z)))
    where
      and_one : (b : Bool) → (b && true) ≡ b
      and_one true = refl
      and_one false = refl

  quiet_next : (n : ℕ) → Quiet table n → Exact ms u table (n + 1) no_wants
  quiet_next n q =
      let R = served_run ms table S in
      record {
        x1 = sym (R.r1.next u again n ∙ step_shut (lane_at table 0) Z.r1 n _ _ (omega (arith, q.q1)));
        x2 = sym (R.r2.next (after1 ms u) (far1 ms u again table S) n ∙ step_shut (lane_at table 1) Z.r2 n _ _ (omega (arith, q.q2)));
        x3 = sym (R.r3.next (after2 ms u) (far2 ms u again table S) n ∙ step_shut (lane_at table 2) Z.r3 n _ _ (omega (arith, q.q3)));
        x4 = sym (R.r4.next (after3 ms u) (far3 ms u again table S) n ∙ step_shut (lane_at table 3) Z.r4 n _ _ (omega (arith, q.q4)));
      }

  module _ (n d : ℕ) (q : (i : ℕ) → i < d → Quiet table (n + i)) where
    abbrev U : ℕ
    U = table.unit

    quiet_at : (y : ℕ) → y < U * d → rest (begin_of table n + y) ≡ u (begin_of table n + y)
    quiet_at y l =
        let i : ℕ = y / U in
        let z : ℕ = y % U in
        let some : 0 < U = omega (arith, Z.some) in
        let e : i * U + z ≡ y = div-add-mod' y U in
        let early : i < d = ⊎_elim (λ h. h) (λ h. absurd (omega (arith, e, mul-le-mul_right {m = d} {n = i} U h, mul_comm U d))) (order i d) in
        let f : begin_of table n + y ≡ begin_of table (n + i) + z = omega (arith, e, mul-add U n i, mul_comm i U) in
        ap rest f ∙ quiet_unit (n + i) (q i early) z (mod-lt y some) ∙ ap u (sym f)

    quiet_evenly : 0 < d → (w : List ℕ) → Evenly ms u table n w (U * d)
    quiet_evenly p w = record {
      counted = λ y l.
          let z : unit_need table n w ≡ 0 = quiet_need table n w (subst (Quiet table) (omega arith) (q 0 p)) in
          count_same rest u y (begin_of table n) (begin_of table n) (λ i h. quiet_at i (omega arith)) ∙ omega (arith, z);
    }

    pub quiet_goes : (w : List ℕ) → 0 < d → Goes ms u table n w (quiet_stride u table n d) true
    quiet_goes w p =
        let b : ℕ = begin_of table n in
        let e : begin_of table (n + d) ≡ b + U * d = omega (arith, mul-add U n d) in
        let E = quiet_evenly p w in
        let z : unit_need table n w ≡ 0 = quiet_need table n w (subst (Quiet table) (omega arith) (q 0 p)) in
        let last : n + (d - 1) + 1 ≡ n + d = omega arith in
        record {
          length = U * d;
          ends = e;
          evenly = λ h. E;
          all = omega (arith, E.counted (U * d) (omega arith), z, rank_count u (U * d) b, ap (rank u) e);
          exact = subst (λ (m : ℕ). Exact ms u table m no_wants) last (quiet_next (n + (d - 1)) (q (d - 1) (omega arith)));
        }

  -- ---- the k-th remaining one, where the free ones are counted

  pub lands : (n k : ℕ) (w : List ℕ) → Here ms u table n w k → (t : ℕ) → u t ≡ true → rank u t ≡ rank u (begin_of table n) + unit_need table n w + k
      → Nth rest (begin_of table n) k t
  lands n k w H t y e =
      let b : ℕ = begin_of table n in
      let need : ℕ = unit_need table n w in
      let late : b ≤ t = (nth_of u b (need + k) t y (omega (arith, e))).late in
      let all : count rest b H.length ≡ count u b H.length - need = H.evenly.counted H.length (omega arith) in
      let inside : t < b + H.length = rank_later u t (b + H.length) (omega (arith, e, all, H.enough, rank_count u H.length b)) in
      let i : ℕ = t - b in
      let before : rank u b + count u b i ≡ rank u t = count_between u b t late in
      let at : b + i ≡ t = omega (arith, late) in
      let c0 : count rest b i ≡ k = H.evenly.counted i (omega (arith, inside)) ∙ omega (arith, before, e) in
      let c1 : count rest b (suc i) ≡ suc k =
      H.evenly.counted (suc i) (omega (arith, inside)) ∙ omega (arith, before, e, count_last u b i, ap bool_byte (ap u at ∙ y)) in
      record {
        late = late;
        passes = ap rest (sym at) ∙ passes (rest (b + i)) (omega (arith, c0, c1, count_last rest b i));
        before = omega (arith, c0, rank_count rest i b, ap (rank rest) at);
      }
    where
      passes : (a : Bool) → bool_byte a ≡ 1 → a ≡ true
      passes true h = refl
      passes false h = absurd (omega arith)

-- ---- past a stretch, or to where the k-th is in it

module _ (table : Timetable) (u : ℕ → Bool) (s : Sight) (end : ℕ) where
  pub past_leaps : (even far : Bool) (r : Stride) → Seen table u s → Strode table u s.n end even r → (far ≡ false → even ≡ true)
      → Leaps table u s end far (past_of s r even)
  unfolding past_of
  past_leaps even far r Z R f = ⊎_elim inside beyond (order s.k r.remaining)
    where
      inside : s.k < r.remaining → Leaps table u s end far (past_of s r even)
      inside h =
          rw (lt-ltb s.k r.remaining h) (
            record {
              most = omega (arith, R.on, R.most);
              seen = Z;
              less = omega arith;
              onward = λ ms S X. record { same = refl; exact = X };
            },
            record {
              near = omega (arith, h, R.few);
              even = f;
              here = λ ms S X e.
                  let G = R.goes ms s.wants S X in
                  record { length = G.length; evenly = G.evenly e; enough = omega (arith, h, G.all) };
            },
          )

      beyond : r.remaining ≤ s.k → Leaps table u s end far (past_of s r even)
      beyond h =
          rw (le-ltb s.k r.remaining h) (
            record {
              most = R.most;
              seen = record { small = R.small; free = R.free };
              less = omega arith;
              onward = λ ms S X.
                  let G = R.goes ms s.wants S X in
                  let rest = remaining ms u in
                  record {
                    same = omega (arith, h, G.all, rank_count rest G.length (begin_of table s.n), ap (rank rest) G.ends);
                    exact = G.exact;
                  };
            },
            R.on,
          )

  module _ (again : (t : ℕ) → u (t + all_periods) ≡ u t) (to : ℕ) (r : Sight) (Z : Sized table) (R : Ran table u s to r) where
    walked : (ms : Messages) → Serves ms table → Exact ms u table s.n s.wants → Onward ms u table s r
    walked ms S X =
        let i : ℕ = r.n - s.n in
        let e : s.n + i ≡ r.n = omega (arith, R.from) in
        let I = run_exact ms u again table S s.n s.wants X i in
        record {
          same = omega (arith, I.1, R.counted, ap (λ (n : ℕ). rank (remaining ms u) (begin_of table n)) e);
          exact = subst (Exact ms u table r.n) (sym R.wanted) (subst (λ (m : ℕ). Exact ms u table m (wants_from table u s.n s.wants i)) e I.0);
        }

    pub run_leaps : to ≤ end → Leapt table u s end r
    run_leaps h = record { most = omega (arith, R.most); seen = R.seen; less = omega (arith, R.counted); onward = walked }

    pub run_holds : r.n < to → Held table u s false (record { sight = r; even = true })
    run_holds f = record {
      near =
          omega (
            arith,
            R.stops f,
            unit_most table r.n (count u (begin_of table r.n) table.unit) r.wants,
            count_most u table.unit (begin_of table r.n),
            Z.unit,
          );
      even = λ h. refl;
      here = λ ms S X e. unit_here ms u again table S r.n r.k r.wants (walked ms S X).exact (R.stops f);
    }

  -- what is always at hand is so however far the search may go
  pub any_far : (far : Bool) (r : Leap) → Leaps table u s end false r → Leaps table u s end far r
  any_far far (Past r) L = L
  any_far far (To r) L = (L.0, record { near = L.1.near; even = λ h. L.1.even refl; here = L.1.here })
