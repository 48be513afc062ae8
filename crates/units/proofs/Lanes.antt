-- A lane from unit to unit: its place goes up by one until the next window opens, and what is wanted stays small.
use Rattle.std.specs.Prelude.{List}
use mathlib.Core.Bool.{Bool, true, false, cond}
use mathlib.Core.Path.{◌≡◌, refl, ap, ◌∙◌, sym}
use mathlib.Core.Logic.{◌⊎◌, inl, inr, ⊎_elim}
use Prim.Native.Nat.{ℕ, zero, suc, ◌+◌, ◌-◌, ◌*◌, ◌/◌, ◌%◌, ◌^◌, ◌≤◌, ◌<◌}
use native.Mathlib.Nat.{mod-lt, add-zero, div-add-mod', add-mul, zero-mod, add-mul-mod_self_right, mul-add, mul-one}
use native.Mathlib.Omega.{arith}
use lib.Arith.{digits_mod}
use lib.Dec.{eqb, ltb}
use lib.Pow.{pow_pos, pow_mono}
use borrow.Author.Tests.{lt-ltb, le-ltb}
use Rattle.counting.proofs.Facts.{order, byte_le}
use Rattle.units.specs.declared.Lane.{Lane}
use Rattle.counting.specs.Counting.{rank, count}
use Rattle.counting.proofs.Rank.{rank_count}
use Rattle.units.specs.declared.Timetable.{Timetable}
use Rattle.units.specs.declared.UnitStep.{UnitStep}
use Rattle.units.specs.Quick.{Ranged, place_of, need_of, lane_step_of, begin_of, unit_step_of, Small, no_wants, wants_from, rest_from, opened_of}

abbrev pub Fresh : Lane → ℕ → Type 0
Fresh l n = (place_of l n ≡ 0) ⊎ (l.window ≤ place_of l n)

module _ (l : Lane) where
  pub place_below : (n : ℕ) → place_of l n < 2 ^ l.log
  unfolding place_of
  place_below n = mod-lt (n + 2 ^ l.log - l.start) (pow_pos l.log)

  module _ (ok : Ranged l) where
    pub short : 2 ^ l.log ≤ 2048
    short = pow_mono {i = l.log} {j = 11} ok.log

    pub place_on : (n i : ℕ) → place_of l n + i < 2 ^ l.log → place_of l (n + i) ≡ place_of l n + i
    unfolding place_of
    place_on n i h =
        let M : ℕ = 2 ^ l.log in
        let z : ℕ = n + M - l.start in
        let e : n + i + M - l.start ≡ z / M * M + (z % M + i) = omega (arith, ok.start, div-add-mod' z M) in
        ap (λ (x : ℕ). x % M) e ∙ digits_mod (z / M) h

    pub place_wrap : (n : ℕ) → place_of l n + 1 ≡ 2 ^ l.log → place_of l (n + 1) ≡ 0
    unfolding place_of
    place_wrap n h =
        let M : ℕ = 2 ^ l.log in
        let z : ℕ = n + M - l.start in
        let e : n + 1 + M - l.start ≡ 0 + (z / M + 1) * M = omega (arith, ok.start, div-add-mod' z M, add-mul (z / M) 1 M, h) in
        ap (λ (x : ℕ). x % M) e ∙ add-mul-mod_self_right 0 (z / M + 1) M ∙ zero-mod M

    -- so many units back a window opened
    back_to : (n : ℕ) → 2 ^ l.log ≤ n → place_of l (n - place_of l n) ≡ 0
    unfolding place_of
    back_to n h =
        let M : ℕ = 2 ^ l.log in
        let z : ℕ = n + M - l.start in
        let e : n - z % M + M - l.start ≡ 0 + z / M * M = omega (arith, ok.start, div-add-mod' z M, mod-lt z (pow_pos l.log)) in
        ap (λ (x : ℕ). x % M) e ∙ add-mul-mod_self_right 0 (z / M) M ∙ zero-mod M

    -- ---- what is wanted

    begun_most : (b : Bool) → cond b l.size 0 ≤ 8
    begun_most true = ok.size
    begun_most false = omega arith

    pub need_most : (n w : ℕ) → w ≤ 8 * place_of l n → need_of l n w ≤ 8 * place_of l n + 8
    unfolding need_of
    need_most n w h = by (ltb (place_of l n) l.window)
      where
        by : (b : Bool) → cond b (w + cond (eqb (place_of l n % 2 ^ l.every) 0) l.size 0) 0 ≤ 8 * place_of l n + 8
        by true = omega (arith, begun_most (eqb (place_of l n % 2 ^ l.every) 0))
        by false = omega arith

    pub step_most : (n w free : ℕ) → w ≤ 8 * place_of l n → (lane_step_of l n w free).want ≤ 8 * place_of l (n + 1)
    unfolding lane_step_of
    step_most n w free h = ⊎_elim goes_on ends (order (place_of l n + 1) l.window)
      where
        goes_on : place_of l n + 1 < l.window → cond (ltb (place_of l n + 1) l.window) (need_of l n w - free) 0 ≤ 8 * place_of l (n + 1)
        goes_on k = rw (lt-ltb (place_of l n + 1) l.window k) (omega (arith, need_most n w h, place_on n 1 (omega (arith, ok.window))))

        ends : l.window ≤ place_of l n + 1 → cond (ltb (place_of l n + 1) l.window) (need_of l n w - free) 0 ≤ 8 * place_of l (n + 1)
        ends k = rw (le-ltb (place_of l n + 1) l.window k) (omega arith)

    -- ---- a unit at which nothing is wanted: a window opens there, or none is open

    pub fresh_step : (n : ℕ) → Fresh l (n + 1) → l.window ≤ place_of l n + 1
    fresh_step n f = ⊎_elim goes_on (λ h. omega (arith, ok.window, h)) (order (place_of l n + 1) (2 ^ l.log))
      where
        goes_on : place_of l n + 1 < 2 ^ l.log → l.window ≤ place_of l n + 1
        goes_on h = ⊎_elim (λ z. absurd (omega (arith, z, place_on n 1 h))) (λ g. omega (arith, g, place_on n 1 h)) f

    pub step_shut : (n w free : ℕ) → l.window ≤ place_of l n + 1 → (lane_step_of l n w free).want ≡ 0
    unfolding lane_step_of
    step_shut n w free h = rw (le-ltb (place_of l n + 1) l.window h) refl

    -- where a window opened that is open at unit n
    pub opened_fresh : (n : ℕ) → 2 ^ l.log ≤ n → Fresh l (opened_of l n)
    unfolding opened_of
    opened_fresh n h = ⊎_elim opens stays (order (place_of l n) l.window)
      where
        opens : place_of l n < l.window → Fresh l (cond (ltb (place_of l n) l.window) (n - place_of l n) n)
        opens o =
            rw (lt-ltb (place_of l n) l.window o) (inl (back_to n h))

        stays : l.window ≤ place_of l n → Fresh l (cond (ltb (place_of l n) l.window) (n - place_of l n) n)
        stays o = rw (le-ltb (place_of l n) l.window o) (inr o)

    pub opened_most : (n : ℕ) → opened_of l n ≤ n
    unfolding opened_of
    opened_most n = by (ltb (place_of l n) l.window)
      where
        by : (b : Bool) → cond b (n - place_of l n) n ≤ n
        by true = omega arith
        by false = omega arith

    pub opened_least : (n : ℕ) → n ≤ opened_of l n + 2 ^ l.log
    unfolding opened_of
    opened_least n = by (ltb (place_of l n) l.window)
      where
        by : (b : Bool) → n ≤ cond b (n - place_of l n) n + 2 ^ l.log
        by true = omega (arith, place_below n)
        by false = omega arith

pub count_most : (u : ℕ → Bool) (n f : ℕ) → count u f n ≤ n
unfolding count
count_most u zero f = omega arith
count_most u (suc n) f = omega (arith, count_most u n (suc f), byte_le (u f))

module _ (table : Timetable) where
  pub none_small : (n : ℕ) → Small table n no_wants
  none_small n = record { s1 = omega arith; s2 = omega arith; s3 = omega arith; s4 = omega arith }

  module _ (u : ℕ → Bool) (n : ℕ) (w : List ℕ) where
    abbrev step_after : ℕ → UnitStep
    step_after i = unit_step_of table (n + i) (wants_from table u n w i) (count u (begin_of table (n + i)) table.unit)

    -- one unit more
    pub run_on : (i : ℕ) → (wants_from table u n w (suc i) ≡ (step_after i).wants) × (rest_from table u n w (suc i) ≡ rest_from table u n w i + (step_after i).remaining)
    unfolding wants_from rest_from
    run_on i = (refl, refl)

    pub run_none : (wants_from table u n w 0 ≡ w) × (rest_from table u n w 0 ≡ 0)
    unfolding wants_from rest_from
    run_none = (refl, refl)

  -- the next unit's begin, and how many are free before it
  pub next_begin : (n : ℕ) → begin_of table (n + 1) ≡ begin_of table n + table.unit
  next_begin n = omega (arith, mul-add table.unit n 1, mul-one table.unit)

  pub unit_free : (u : ℕ → Bool) (n : ℕ) → rank u (begin_of table (n + 1)) ≡ rank u (begin_of table n) + count u (begin_of table n) table.unit
  unit_free u n = ap (rank u) (next_begin n) ∙ sym (rank_count u table.unit (begin_of table n))

  -- no more remain than are free
  pub unit_most : (n free : ℕ) (w : List ℕ) → (unit_step_of table n w free).remaining ≤ free
  unfolding unit_step_of lane_step_of
  unit_most n free w = omega arith

  pub rest_most : (u : ℕ → Bool) (n : ℕ) (w : List ℕ) (i : ℕ) → rank u (begin_of table n) + rest_from table u n w i ≤ rank u (begin_of table (n + i))
  rest_most u n w zero = rw (add-zero n) (omega (arith, (run_none u n w).1))
  rest_most u n w (suc i) =
      let e : n + i + 1 ≡ n + suc i = omega arith in
      omega (
        arith,
        rest_most u n w i,
        (run_on u n w i).1,
        unit_most (n + i) (count u (begin_of table (n + i)) table.unit) (wants_from table u n w i),
        unit_free u (n + i),
        ap (λ (m : ℕ). rank u (begin_of table m)) e,
      )
