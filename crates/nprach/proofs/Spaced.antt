-- Numbers by spacing, and windows that are not refused or none.
use mathlib.Core.Bool.{Bool, true, false, cond}
use mathlib.Core.Path.{◌≡◌, refl, sym, subst}
use Prim.Native.Nat.{ℕ, ◌+◌, ◌*◌, ◌/◌, ◌≤◌, ◌<◌}
use native.Mathlib.Omega.{arith}
use lib.Dec.{eqb, ltb}
use borrow.Author.Tests.{ltb-true}
use Rattle.counting.specs.Counting.{rank}
use Rattle.closures.specs.declared.Nested.{Nested}
use Rattle.grid.specs.Grid.{uplink_subcarriers}
use Rattle.numerology.specs.Numerology.{group_ms, narrow_tones}
use Rattle.nprach.specs.declared.Windows.{Windows}
use Rattle.nprach.specs.Windows.{all_periods, are_listed, is_clear, windows_refusal, open_to, refusal_on}
use Rattle.nprach.specs.Quick.{NestedFor}
use Rattle.nprach.proofs.Closing.{none_clear, none_refused}

-- ---- not refused: listed, and some group is clear

pub accepted_windows : (ms a n : ℕ) (ws : Windows) → windows_refusal ms a n ws ≡ 0
    → (are_listed ws ≡ true) × (0 < rank (is_clear ms a n ws) (all_periods / ms))
unfolding windows_refusal
accepted_windows ms a n ws h = by (are_listed ws) refl (ltb 0 (rank (is_clear ms a n ws) (all_periods / ms))) refl h
  where
    by : (x : Bool) → are_listed ws ≡ x → (y : Bool) → ltb 0 (rank (is_clear ms a n ws) (all_periods / ms)) ≡ y → ◌≡◌ {A = ℕ} (cond x (cond y 0 20) 19) 0
        → (are_listed ws ≡ true) × (0 < rank (is_clear ms a n ws) (all_periods / ms))
    by true e true f z = (e, ltb-true 0 (rank (is_clear ms a n ws) (all_periods / ms)) f)
    by true e false f z = absurd (omega arith)
    by false e y f z = absurd (omega arith)

-- ---- by spacing

pub scaled : (spacing tone tones scale ms : ℕ) → scale ≡ narrow_tones spacing → ms ≡ group_ms spacing → tone + tones ≤ uplink_subcarriers spacing
    → (1 ≤ ms) × (ms ≤ 2) × (scale * tone ≤ 48) × (scale * tones ≤ 48)
scaled spacing tone tones scale ms hs hm h = rw (hs, hm) (by (eqb spacing 0) h)
  where
    by : (b : Bool) → tone + tones ≤ cond b 48 12
        → (1 ≤ cond b 1 2 * cond b 4 1 / 2) × (cond b 1 2 * cond b 4 1 / 2 ≤ 2) × (cond b 1 4 * tone ≤ 48) × (cond b 1 4 * tones ≤ 48)
    by true l = (omega arith, omega arith, omega arith, omega arith)
    by false l = (omega arith, omega arith, omega arith, omega arith)

pub ms_within : (spacing : ℕ) → (1 ≤ group_ms spacing) × (group_ms spacing ≤ 2)
ms_within spacing = by (eqb spacing 0)
  where
    by : (b : Bool) → (1 ≤ cond b 1 2 * cond b 4 1 / 2) × (cond b 1 2 * cond b 4 1 / 2 ≤ 2)
    by true = (omega arith, omega arith)
    by false = (omega arith, omega arith)

-- ---- no window: nothing is refused, and every group is open

module _ (spacing tone tones : ℕ) (ws : Windows) (z : ws.count ≡ 0) where
  pub none_refuses : refusal_on spacing tone tones ws ≡ 0
  none_refuses = let w = ms_within spacing in none_refused (group_ms spacing) _ _ ws z w.0 w.1

  pub none_closes : (u : ℕ) → true ≡ open_to spacing tone tones ws u
  none_closes u = sym (none_clear (group_ms spacing) _ _ ws z u)

-- ---- nested-closures on the tones of a grant, by its spacing

pub nested_on : (spacing tone tones scale ms : ℕ) (ws : Windows) (nested : Nested) → scale ≡ narrow_tones spacing → ms ≡ group_ms spacing
    → NestedFor ms (is_clear ms (scale * tone) (scale * tones) ws) nested → NestedFor (group_ms spacing) (open_to spacing tone tones ws) nested
nested_on spacing tone tones scale ms ws nested hs hm l =
    subst (λ (m : ℕ). NestedFor m (is_clear m (narrow_tones spacing * tone) (narrow_tones spacing * tones) ws) nested) hm
    (subst (λ (n : ℕ). NestedFor ms (is_clear ms (n * tone) (n * tones) ws) nested) hs l)
