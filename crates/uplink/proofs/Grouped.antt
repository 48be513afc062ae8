-- Slots in groups: the slots that may be sent are those of the groups that no window and no gap closes.
use mathlib.Core.Bool.{Bool, true, false, not, ◌&&◌}
use mathlib.Core.Path.{◌≡◌, refl, sym, ap, ap₂, subst, ◌∙◌}
use mathlib.Core.Logic.{⊎_elim}
use Prim.Native.Nat.{ℕ, ◌+◌, ◌-◌, ◌*◌, ◌/◌, ◌%◌, ◌^◌, ◌≤◌, ◌<◌}
use native.Mathlib.Nat.{zero-add, zero-mul, zero-div, zero-mod, div-le_self, div-mul-le_self, mod-eq-sub-div-mul, one-mul, mul-zero, mul_left_comm, mul-mod_left, add-mul, mul_assoc, mod-lt, mod-eq_of_lt, mod-add-mod, add-mod_right, add-mul-mod_self_right, div-add-mod', mul-div_cancel, mul-le-mul, mul-le-mul_right}
use native.Mathlib.Omega.{arith}
use lib.Dec.{ltb, lit<}
use lib.Arith.{digits_lt, digits_div, digits_mod, mod-mul}
use mir.Val.{bool_byte}
use borrow.Author.Tests.{lt-ltb, le-ltb}
use Rattle.counting.specs.Counting.{rank, next, select}
use Rattle.counting.specs.Scaffold.{Nth}
use Rattle.counting.proofs.Facts.{order}
use Rattle.counting.proofs.Rank.{rank_zero, rank_count, count_same, count_from_zero, rank_not, rank_mono}
use Rattle.counting.proofs.Range.{rank_all}
use Rattle.counting.proofs.Rows.{rank_rows}
use Rattle.counting.proofs.Select.{nth_of, next_is}
use Rattle.counting.proofs.Period.{rank_period, repeats_times, some_of, select_is, is_select, select_below, select_same}
use Rattle.closures.specs.declared.Closure.{Closure}
use Rattle.closures.specs.declared.Closures.{Closures}
use Rattle.closures.specs.declared.FreeIndex.{FreeIndex}
use Rattle.closures.specs.Closures.{is_closed, leaves_open, clear, is_free}
use Rattle.closures.specs.declared.Nested.{Nested}
use Rattle.closures.specs.declared.Cycle.{Cycle}
use Rattle.closures.specs.Quick.{Usable, Begins, Repeats, FreeIndexAt}
use Rattle.closures.proofs.Nesting.{clear_repeats}
use Rattle.closures.proofs.Spreading.{spread_free}
use Rattle.std.specs.Prelude.{Some, None}
use Rattle.uplink.specs.declared.Shape.{Shape}
use Rattle.uplink.specs.Fits.{Fits, OpenRepeats}
use Rattle.uplink.specs.Timing.{gap_period, in_block, group_at, active, period, slot_at}
use Rattle.uplink.specs.Scaffold.{gap_periods}
use Rattle.uplink.specs.declared.timing.GroupSearch.{GroupSearch}
use Rattle.uplink.specs.Quick.{gap_closure, Searchable, SearchOf, active_index}
use Rattle.uplink.proofs.GapPeriods.{whole, whole_period_groups, repeats}

and_true : (b : Bool) → (b && true) ≡ b
and_true true = refl
and_true false = refl

rank_true : (n : ℕ) → rank (λ i. true) n ≡ n
rank_true n = ap (rank (λ i. true)) (sym (zero-add n)) ∙ rank_all (λ i. true) 0 n (λ i a b. refl) ∙ omega (arith, rank_zero (λ i. true))

-- counting from U on
moved : (u : ℕ → Bool) (U y : ℕ) → rank u U + rank (λ i. u (U + i)) y ≡ rank u (U + y)
moved u U y =
    omega (
      arith,
      rank_count u y U,
      count_from_zero (λ i. u (U + i)) y,
      count_same u (λ i. u (U + i)) y U 0 (λ i l. ap (λ (x : ℕ). u (U + x)) (sym (zero-add i))),
    )

module _ (s : Shape) (f : Fits s) where
  abbrev g : ℕ
  g = s.group

  abbrev R : ℕ
  R = gap_period s / g

  abbrev U : ℕ
  U = s.first / g

  abbrev B : ℕ
  B = s.block / g

  abbrev G : ℕ
  G = s.gap / g

  -- ---- whole groups

  pub period_parts : R ≡ B + G
  period_parts =
      let e : gap_period s ≡ (B + G) * g = omega (arith, whole s f s.block f.whole_block, whole s f s.gap f.whole_gap, add-mul B G g) in
      ap (λ (x : ℕ). x / g) e ∙ mul-div_cancel (B + G) f.group

  some_block : 0 < B
  some_block = ⊎_elim (λ h. h) (λ h. absurd (none h)) (order 0 B)
    where
      none : B ≤ 0 → ⊥
      none h =
          let z : B ≡ 0 = omega arith in
          omega (arith, whole s f s.block f.whole_block, ap (λ (x : ℕ). x * g) z, zero-mul g, f.block)

  pub some_round : 0 < R
  some_round = omega (arith, period_parts, some_block)

  module _ (y k : ℕ) (h : k < g) where
    group_of : group_at s (s.first + (y * g + k)) ≡ U + y
    group_of =
        let e : s.first + (y * g + k) ≡ (U + y) * g + k = omega (arith, whole s f s.first f.whole_first, add-mul U y g) in
        ap (λ (x : ℕ). x / g) e ∙ digits_div (U + y) h

    in_period : (y * g + k) % gap_period s ≡ y % R * g + k
    in_period =
        ap (λ (x : ℕ). (y * g + k) % x) (sym (whole_period_groups s f)) ∙ mod-mul (y * g + k) some_round f.group
        ∙ ap₂ (λ (a b : ℕ). a % R * g + b) (digits_div y h) (digits_mod y h)

  -- ---- the gap is a closure

  in_gap : (y : ℕ) → (U + y + (gap_closure s).phase) % R ≡ (y % R + G) % R
  in_gap y =
      let e : U + y + (G + (R - U % R)) ≡ y + G + (U / R + 1) * R =
      omega (arith, div-add-mod' U R, mod-lt U some_round, add-mul (U / R) 1 R, one-mul R) in
      ap (λ (x : ℕ). x % R) e ∙ add-mul-mod_self_right (y + G) (U / R + 1) R ∙ sym (mod-add-mod y R G)

  gap_leaves : (y k : ℕ) → k < g → in_block s (y * g + k) ≡ leaves_open (gap_closure s) (U + y)
  unfolding in_block leaves_open is_closed
  gap_leaves y k h = ⊎_elim before after (order (y % R) B)
    where
      below : y % R < R
      below = mod-lt y some_round

      before : y % R < B → ltb ((y * g + k) % gap_period s) s.block ≡ not (ltb ((U + y + (gap_closure s).phase) % R) G)
      before l =
          let a : (y * g + k) % gap_period s < s.block = omega (arith, in_period y k h, digits_lt l h, whole s f s.block f.whole_block) in
          let b : G ≤ (U + y + (gap_closure s).phase) % R = omega (arith, in_gap y, mod-eq_of_lt {n = y % R + G} {m = R} (omega (arith, period_parts))) in
          rw (lt-ltb ((y * g + k) % gap_period s) s.block a, le-ltb ((U + y + (gap_closure s).phase) % R) G b) refl

      after : B ≤ y % R → ltb ((y * g + k) % gap_period s) s.block ≡ not (ltb ((U + y + (gap_closure s).phase) % R) G)
      after l =
          let a : s.block ≤ (y * g + k) % gap_period s =
          omega (arith, in_period y k h, mul-le-mul_right g l, whole s f s.block f.whole_block) in
          let e : y % R + G ≡ y % R - B + R = omega (arith, period_parts) in
          let m : (y % R + G) % R ≡ y % R - B =
          ap (λ (x : ℕ). x % R) e ∙ add-mod_right (y % R - B) R ∙ mod-eq_of_lt {n = y % R - B} {m = R} (omega (arith, below)) in
          let b : (U + y + (gap_closure s).phase) % R < G = omega (arith, in_gap y, m, below, period_parts) in
          rw (le-ltb ((y * g + k) % gap_period s) s.block a, lt-ltb ((U + y + (gap_closure s).phase) % R) G b) refl

  -- ---- the gap's closure can be worked with

  pub gap_usable : Usable (gap_closure s)
  gap_usable = record {
    some = some_round;
    period_small = omega (arith, small);
    phase_small = omega (arith, small, period_parts);
    closed_small = omega (arith, small, period_parts);
  }
    where
      small : R < 2 ^ 17
      small = omega (arith, div-le_self (gap_period s) g, f.block_small, f.gap_small)

  -- it is open from the first group on
  pub gap_begins : Begins (gap_closure s) U
  gap_begins =
      let e : U + (gap_closure s).phase ≡ U + 0 + (gap_closure s).phase = omega arith in
      let z : 0 % R + G ≡ G = omega (arith, zero-mod R) in
      ap (λ (x : ℕ). x % R) e ∙ in_gap 0 ∙ ap (λ (x : ℕ). x % R) z ∙ mod-eq_of_lt {n = G} {m = R} (omega (arith, period_parts, some_block))

  -- ---- slots by their groups

  module _ (closures : Closures) (o : OpenRepeats s (clear closures)) where
    abbrev free : ℕ → Bool
    free = is_free (gap_closure s) closures

    pub by_group : (y k : ℕ) → k < g → active s (clear closures) (y * g + k) ≡ free (U + y)
    unfolding active is_free
    by_group y k h = ap₂ ◌&&◌ (gap_leaves y k h) (ap (clear closures) (group_of y k h))

    rank_groups : (y k : ℕ) → k ≤ g → rank (active s (clear closures)) (y * g + k) ≡ rank (λ i. free (U + i)) y * g + bool_byte (free (U + y)) * k
    rank_groups y k h =
        rank_rows g (active s (clear closures)) (λ i. free (U + i)) (λ i. true) (λ l i p. by_group l i p ∙ sym (and_true (free (U + l)))) y k h
        ∙ ap₂ (λ (a b : ℕ). rank (λ i. free (U + i)) y * a + bool_byte (free (U + y)) * b) (rank_true g) (rank_true k)

    pub again : (t : ℕ) → free (t + gap_periods * R) ≡ free t
    unfolding is_free leaves_open is_closed
    again t =
        let e : t + gap_periods * R + (gap_closure s).phase ≡ t + (gap_closure s).phase + gap_periods * R = omega arith in
        ap₂ ◌&&◌
        (ap (λ (x : ℕ). not (ltb x G)) (ap (λ (x : ℕ). x % R) e ∙ add-mul-mod_self_right (t + (gap_closure s).phase) gap_periods R))
        (o.again t)

    pub cyclic : (0 < rank free (gap_periods * R)) × (0 < gap_periods * R)
    cyclic = (⊎_elim (λ h. h) (λ h. absurd (none h)) (order 0 (rank free (gap_periods * R))), omega (arith, some_round))
      where
        none : rank free (gap_periods * R) ≤ 0 → ⊥
        none h =
            let z : rank (λ i. free (U + i)) (gap_periods * R) ≡ 0 = omega (arith, moved free U (gap_periods * R), rank_period free (gap_periods * R) again U) in
            let e : gap_periods * R * g + 0 ≡ period s = omega (arith, mul_assoc gap_periods R g, ap (λ (x : ℕ). gap_periods * x) (whole_period_groups s f)) in
            omega (
              arith,
              o.some,
              ap (rank (active s (clear closures))) e,
              rank_groups (gap_periods * R) 0 (omega arith),
              ap (λ (x : ℕ). x * g) z,
              zero-mul g,
              mul-zero (bool_byte (free (U + gap_periods * R))),
            )

    -- ---- transmitted slot i: the slot at k in group j of those that are free

    pub slot_is : (i j k at : ℕ) → i ≡ j * g + k → k < g → at ≡ select free (gap_periods * R) U j → at * g + k ≡ slot_at s (clear closures) i
    unfolding slot_at
    slot_is i j k at hi hk ha =
        let n : Nth free U j at = subst (λ x. Nth free U j x) (sym ha) (select_is free (gap_periods * R) again cyclic.0 U j) in
        let y : ℕ = at - U in
        let e : U + y ≡ at = omega (arith, n.late) in
        let p : free (U + y) ≡ true = ap free e ∙ n.passes in
        let q : rank (λ i. free (U + i)) y ≡ j = omega (arith, moved free U y, ap (rank free) e, n.before) in
        let x : ℕ = y * g + k in
        let c : rank (active s (clear closures)) x ≡ i =
        rank_groups y k (omega arith)
        ∙ ap₂ (λ (a b : ℕ). a * g + b * k) q (ap bool_byte p) ∙ omega (arith, one-mul k) in
        let d : x ≡ select (active s (clear closures)) (period s) 0 i =
        is_select (active s (clear closures)) (period s) (repeats s (clear closures) f o) o.some 0 i x
        (nth_of (active s (clear closures)) 0 i x (by_group y k hk ∙ p) (omega (arith, c, rank_zero (active s (clear closures))))) in
        omega (arith, d, ap (λ (z : ℕ). z * g) (sym e), add-mul U y g, whole s f s.first f.whole_first)

    pub slot_small : (i : ℕ) → i < 2 ^ 32 → slot_at s (clear closures) i < 2 ^ 60
    unfolding slot_at
    slot_small i h =
        let a : i + 1 ≤ 2 ^ 32 = omega arith in
        let b : period s ≤ 2 ^ 26 = omega (arith, f.block_small, f.gap_small) in
        omega (arith, select_below (active s (clear closures)) (period s) (repeats s (clear closures) f o) o.some 0 i, mul-le-mul a b, f.first_small)

    -- ---- the slot at k in the group y past the first

    module _ (x y k : ℕ) (r : FreeIndex) (e : x ≡ y * g + k) (h : k < g) (st : FreeIndexAt free U y r) where
      pub index_fits : r.index * g + k ≤ x
      index_fits =
          let a : r.index ≤ y =
          omega (arith, st.index, rank_not free U, rank_not free (U + y), rank_mono (λ i. not (free i)) U (U + y) (omega arith)) in
          omega (arith, mul-le-mul_right g a)

      may_send : active s (clear closures) x ≡ r.free
      may_send = ap (active s (clear closures)) e ∙ by_group y k h ∙ sym st.says

      index_of_group : r.free ≡ true → rank (active s (clear closures)) x ≡ r.index * g + k
      index_of_group t =
          let p : free (U + y) ≡ true = sym st.says ∙ t in
          let q : rank (λ i. free (U + i)) y ≡ r.index = omega (arith, moved free U y, st.index) in
          ap (rank (active s (clear closures))) e ∙ rank_groups y k (omega arith)
          ∙ ap₂ (λ (a b : ℕ). a * g + b * k) q (ap bool_byte p) ∙ omega (arith, one-mul k)

      pub index_some : r.free ≡ true → Some (r.index * g + k) ≡ active_index s (clear closures) x
      index_some t = rw (may_send ∙ t) (ap Some (sym (index_of_group t)))

      pub index_none : r.free ≡ false → None ≡ active_index s (clear closures) x
      index_none t = rw (may_send ∙ t) refl

-- ---- cycles

module _ (s : Shape) (f : Fits s) (closures : Closures) (o : OpenRepeats s (clear closures)) where
  abbrev left : ℕ → Bool
  left = is_free (gap_closure s) closures

  -- whole gap periods after which what the windows leave repeats
  again_by : (n : ℕ) → n % (gap_period s / s.group) ≡ 0 → ((t : ℕ) → clear closures (t + n) ≡ clear closures t) → (t : ℕ) → left (t + n) ≡ left t
  unfolding is_free leaves_open is_closed
  again_by n h c t =
      let q : ℕ = n / (gap_period s / s.group) in
      let e : t + n + (gap_closure s).phase ≡ t + (gap_closure s).phase + q * (gap_period s / s.group) = omega (arith, div-add-mod' n (gap_period s / s.group)) in
      ap₂ ◌&&◌
      (ap (λ (x : ℕ). not (ltb x (s.gap / s.group)))
      (ap (λ (x : ℕ). x % (gap_period s / s.group)) e ∙ add-mul-mod_self_right (t + (gap_closure s).phase) q (gap_period s / s.group)))
      (c t)

  module _ (nested : Nested) (sr : Searchable s nested) (e : closures ≡ nested.closures) where
    abbrev n : ℕ
    n = 37 * closures.b4.period

    period_is : closures.b4.period ≡ sr.spread.times * sr.part
    period_is = ap (λ (b : Closures). b.b4.period) e ∙ sr.spread.longest

    clear_on : (t : ℕ) → clear closures (t + closures.b4.period) ≡ clear closures t
    clear_on = rw e (clear_repeats nested.closures sr.nesting.sorted)

    whole_rounds : n % (gap_period s / s.group) ≡ 0
    whole_rounds =
        let q : n ≡ sr.spread.times * (37 * sr.part) = omega (arith, period_is, mul_left_comm 37 sr.spread.times sr.part) in
        ap₂ ◌%◌ q sr.parted.gap_periods ∙ mul-mod_left sr.spread.times (37 * sr.part)

    left_again : (t : ℕ) → left (t + n) ≡ left t
    left_again = again_by n whole_rounds (repeats_times (clear closures) closures.b4.period clear_on 37)

    -- a group that is free
    found : Nth left 0 0 (next left (gap_periods * (gap_period s / s.group)) 0)
    found = next_is left (gap_periods * (gap_period s / s.group)) 0 (omega (arith, (cyclic s f closures o).0, rank_zero left, ap (rank left) (zero-add (gap_periods * (gap_period s / s.group)))))

    some_period : 0 < n
    some_period = omega (arith, rw (← e) at sr.nesting.sorted.usable.u4.some)

    some_in : 0 < rank left n
    some_in = some_of left n left_again (next left (gap_periods * (gap_period s / s.group)) 0) some_period found.passes

    counted : rank left n ≡ 32 * rank (clear closures) closures.b4.period
    counted =
        let q : n ≡ 37 * (sr.spread.times * sr.part) = omega (arith, period_is) in
        ap (rank left) q
        ∙ spread_free (gap_closure s) closures 37 32 sr.part sr.spread.times sr.parted.some (lit< tt) sr.parted.gap_periods sr.parted.gaps sr.spread.evenly
        (λ t. ap (λ (x : ℕ). clear closures (t + x)) (sym period_is) ∙ clear_on t)
        ∙ ap (λ (x : ℕ). 32 * rank (clear closures) x) (sym period_is)

    pub cycle_repeats : (free : ℕ) → free ≡ rank (clear closures) closures.b4.period → Repeats left (record { length = n; free = 32 * free })
    cycle_repeats free h = record {
      again = left_again;
      free = ap (λ (x : ℕ). 32 * x) h ∙ sym counted;
      some = some_in;
      small = omega (arith, rw (← e) at sr.nesting.sorted.usable.u4.period_small);
    }

  pub same_select : (c : Cycle) → Repeats left c → (j : ℕ)
      → select left c.length (s.first / s.group) j ≡ select left (gap_periods * (gap_period s / s.group)) (s.first / s.group) j
  same_select c a j =
      select_same left c.length (gap_periods * (gap_period s / s.group)) a.again (again s f closures o) a.some (cyclic s f closures o).0 (s.first / s.group) j

-- ---- with the first group, the gap's closure and the cycle as the code has worked them out

module _ (s : Shape) (f : Fits s) (nested : Nested) (o : OpenRepeats s (clear nested.closures)) (c : GroupSearch) (r : SearchOf s nested c) where
  pub usable : Usable c.gap
  usable = subst Usable (sym r.gap) (gap_usable s f)

  -- a gap period begins with the first group
  pub begins : Begins c.gap c.from
  begins = rw (r.from, r.gap) (gap_begins s f)

  pub cycles : Repeats (is_free c.gap nested.closures) c.cycle
  cycles = subst (λ (b : Closure). Repeats (is_free b nested.closures) c.cycle) (sym r.gap) r.cycle

  pub first_group_small : c.from < 2 ^ 40
  first_group_small = omega (arith, r.from, div-le_self s.first s.group, f.first_small)

  pub groups_within : (i j : ℕ) → j ≡ i / s.group → j * s.group ≤ i
  groups_within i j e = rw e (div-mul-le_self i s.group)

  by_groups : (i at : ℕ) → at ≡ select (is_free (gap_closure s) nested.closures) c.cycle.length (s.first / s.group) (i / s.group)
      → at * s.group + (i - i / s.group * s.group) ≡ slot_at s (clear nested.closures) i
  by_groups i at e =
      slot_is s f nested.closures o i (i / s.group) (i - i / s.group * s.group) at (omega (arith, div-mul-le_self i s.group))
      (omega (arith, mod-eq-sub-div-mul i s.group, mod-lt i f.group))
      (e ∙ same_select s f nested.closures o c.cycle r.cycle (i / s.group))

  pub slot_found : (i j at : ℕ) → j ≡ i / s.group → at ≡ select (is_free c.gap nested.closures) c.cycle.length c.from j
      → at * s.group + (i - j * s.group) ≡ slot_at s (clear nested.closures) i
  slot_found i j at hj e =
      ap (λ (x : ℕ). at * s.group + (i - x * s.group)) hj
      ∙ by_groups i at (rw (r.gap, r.from, hj) at e)

  -- slot 0 is the first of its group
  pub first_found : (at : ℕ) → at ≡ select (is_free c.gap nested.closures) c.cycle.length c.from 0 → at * s.group ≡ slot_at s (clear nested.closures) 0
  first_found at e = omega (arith, slot_found 0 0 at (sym (zero-div s.group)) e)

  module _ (x y : ℕ) (t : FreeIndex) (hy : y ≡ x / s.group) (st : FreeIndexAt (is_free c.gap nested.closures) c.from y t) where
    stands : FreeIndexAt (is_free (gap_closure s) nested.closures) (s.first / s.group) y t
    stands = rw (r.gap, r.from) at st

    parts : (x ≡ y * s.group + (x - y * s.group)) × (x - y * s.group < s.group)
    parts = rw hy (omega (arith, div-mul-le_self x s.group), omega (arith, mod-eq-sub-div-mul x s.group, mod-lt x f.group))

    pub index_found_fits : t.index * s.group + (x - y * s.group) ≤ x
    index_found_fits = index_fits s f nested.closures o x y (x - y * s.group) t parts.0 parts.1 stands

    pub index_found : t.free ≡ true → Some (t.index * s.group + (x - y * s.group)) ≡ active_index s (clear nested.closures) x
    index_found = index_some s f nested.closures o x y (x - y * s.group) t parts.0 parts.1 stands

    pub index_missed : t.free ≡ false → None ≡ active_index s (clear nested.closures) x
    index_missed = index_none s f nested.closures o x y (x - y * s.group) t parts.0 parts.1 stands
