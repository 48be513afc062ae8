-- What a search among n numbers tells, and whole cycles by division.
use mathlib.Core.Bool.{Bool, true, not}
use mathlib.Core.Path.{◌≡◌, sym, ap, ◌∙◌, subst}
use Prim.Native.Nat.{ℕ, ◌+◌, ◌-◌, ◌*◌, ◌/◌, ◌^◌, ◌≤◌, ◌<◌}
use native.Mathlib.Nat.{div-le_self, div-mul-le_self, mod-lt, mod-eq-sub-div-mul, mul-le-mul, mul-le-mul_left}
use native.Mathlib.Omega.{arith}
use Rattle.counting.specs.Counting.{rank, select}
use Rattle.counting.specs.Scaffold.{Nth}
use Rattle.counting.proofs.Rank.{rank_le, rank_not, rank_mono}
use Rattle.counting.proofs.Select.{nth_of}
use Rattle.counting.proofs.Period.{rank_period, rank_periods, repeats_times, is_select}
use Rattle.closures.specs.declared.Closure.{Closure}
use Rattle.closures.specs.declared.Nested.{Nested}
use Rattle.closures.specs.declared.SearchResult.{SearchResult}
use Rattle.closures.specs.declared.Cycle.{Cycle}
use Rattle.closures.specs.Closures.{clear, is_free}
use Rattle.closures.specs.Quick.{count_before, Reached, Held, Scanned, Repeats, FreeIndexAt}

module _ (u : ℕ → Bool) where
  -- no more than all numbers descend
  near : (t x : ℕ) → t ≤ x → rank u x ≤ rank u t + (x - t)
  near t x h = omega (arith, rank_not u t, rank_not u x, rank_mono (λ i. not (u i)) t x h)

  module _ (c : Cycle) (cy : Repeats u c) (t : ℕ) where
    abbrev cycle : ℕ
    cycle = c.length

    abbrev per : ℕ
    per = c.free

    pub some_per : 0 < per
    some_per = omega (arith, cy.some, cy.free)

    module _ (j : ℕ) where
      pub rest_fits : j / per * per ≤ j
      rest_fits = div-mul-le_self j per

      -- as many as are left after whole cycles lie in one more
      rest_below : rank u t + (j - j / per * per) < rank u (t + cycle)
      rest_below = omega (arith, mod-eq-sub-div-mul j per, mod-lt j some_per, cy.free, rank_period u cycle cy.again t)

      pub jump_small : j < 2 ^ 33 → j / per * cycle ≤ 2 ^ 60
      jump_small h =
          let a : j / per ≤ 2 ^ 33 = omega (arith, div-le_self j per) in
          let b : cycle ≤ 2 ^ 27 = omega (arith, cy.small) in
          omega (arith, mul-le-mul a b)

      jumped : (x : ℕ) → Nth u t (j - j / per * per) x → x + j / per * cycle ≡ select u cycle t j
      jumped x n =
          let q : ℕ = j / per in
          let e : q * per ≡ q * rank u cycle = ap (λ (y : ℕ). q * y) cy.free in
          is_select u cycle cy.again cy.some t j (x + q * cycle)
          (nth_of u t j (x + q * cycle) (repeats_times u cycle cy.again q x ∙ n.passes)
          (omega (arith, rank_periods u cycle cy.again q x, n.before, rest_fits)))

    -- ---- y past t: whole cycles, then the rest

    pub some_length : 0 < cycle
    some_length = omega (arith, cy.some, rank_le u cycle)

    module _ (y : ℕ) where
      pub cycles_fit : y / cycle * cycle ≤ y
      cycles_fit = div-mul-le_self y cycle

      pub rest_small : y - y / cycle * cycle < cycle
      rest_small = omega (arith, mod-eq-sub-div-mul y cycle, mod-lt y some_length)

      abbrev x : ℕ
      x = t + (y - y / cycle * cycle)

      on : x + y / cycle * cycle ≡ t + y
      on = omega (arith, cycles_fit)

      pub stands : (free : Bool) (before : ℕ) → free ≡ u x → rank u t + before ≡ rank u x → FreeIndexAt u t y (record { free = free; index = y / cycle * per + before })
      stands free before f b =
          let e : y / cycle * per ≡ y / cycle * rank u cycle = ap (λ (z : ℕ). y / cycle * z) cy.free in
          record {
            says = f ∙ sym (repeats_times u cycle cy.again (y / cycle) x) ∙ ap u on;
            index = omega (arith, rank_periods u cycle cy.again (y / cycle) x, ap (rank u) on);
          }

      pub index_fits : (before : ℕ) → before ≤ y - y / cycle * cycle → y / cycle * per + before ≤ y
      index_fits before b =
          let p : per ≤ cycle = omega (arith, cy.free, rank_le u cycle) in
          omega (arith, mul-le-mul_left (y / cycle) p, cycles_fit)

-- ---- what the search tells

module _ (gap : Closure) (nested : Nested) where
  abbrev free : ℕ → Bool
  free = is_free gap nested.closures

  -- there is no n-th of n numbers, and what is left tells how many there are
  pub counted : (t n : ℕ) (r : SearchResult) → Scanned gap nested t n n r → (r.left ≤ n) × (rank free t + (n - r.left) ≡ rank free (t + n))
  counted t n r s =
      let e = s.missed (omega (arith, near free t (t + n) (omega arith))) in
      (omega (arith, rank_mono free t (t + n) (omega arith)), omega (arith, rank_mono free t (t + n) (omega arith)))

  -- in a cycle, for what is left of j after whole ones
  module _ (c : Cycle) (cy : Repeats free c) (t j : ℕ) (r : SearchResult) (s : Scanned gap nested t c.length (j - j / c.free * c.free) r) where
    abbrev end : ℕ
    end = t + c.length

    pub last_near : r.at < end
    last_near = (s.found (rest_below free c cy t j)).1

    pub last_is : r.at + j / c.free * c.length ≡ select free c.length t j
    last_is = jumped free c cy t j r.at (s.found (rest_below free c cy t j)).0

    -- with nothing to descend it was the first that was found
    pub first_found : j - j / c.free * c.free ≡ 0 → r.at ≡ select free c.length t 0
    first_found z =
        is_select free c.length cy.again cy.some t 0 r.at (subst (λ (i : ℕ). Nth free t i r.at) z (s.found (rest_below free c cy t j)).0)

    module _ (l : t < 2 ^ 47) where
      held : Held gap nested t end 0 r.first
      held = s.first (rest_below free c cy t j)

      small : held.x < 2 ^ 48
      small = omega (arith, held.inside, cy.small)

      pub first_reached : Reached nested r.first
      first_reached = record { at = held.x; small = small; passes = held.passes; here = held.count }

      pub first_is : (at : ℕ) → ((x : ℕ) → clear nested.closures x ≡ true → count_before nested x ≡ r.first → x < 2 ^ 48 → at ≡ x) → at ≡ select free c.length t 0
      first_is at f = f held.x held.passes held.count small ∙ is_select free c.length cy.again cy.some t 0 held.x held.nth
