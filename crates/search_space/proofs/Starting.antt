-- The first start not before n, by division.
use mathlib.Core.Bool.{true, false}
use mathlib.Core.Path.{◌≡◌, refl, sym, ap, ◌∙◌, subst}
use mathlib.Core.Logic.{⊎_elim}
use Prim.Native.Nat.{ℕ, suc, ◌+◌, ◌-◌, ◌*◌, ◌/◌, ◌%◌, ◌≤◌, ◌<◌}
use native.Mathlib.Nat.{mod-lt, mod-eq_of_lt, mod-add-div', mul-le-mul_right, suc-mul}
use native.Mathlib.Omega.{arith}
use lib.Arith.{digits_mod}
use borrow.Author.Tests.{eq-eqb, ne_eqb}
use Rattle.counting.specs.Counting.{next}
use Rattle.counting.proofs.Facts.{order}
use Rattle.counting.proofs.Select.{next_least}
use Rattle.search_space.specs.Starts.{hyperframe, is_start}
use Rattle.search_space.specs.Quick.{FirstFrom}
use Rattle.search_space.specs.Promised.{FirstStart}

-- ---- the first from x on that is `part` mod `period`

module _ (period part x : ℕ) (h : part < period) where
  pub part_first : x ≤ part → FirstFrom period part x part
  part_first l = record {
    late = l;
    is = mod-eq_of_lt h;
    none = λ z a b e. omega (arith, mod-eq_of_lt {n = z} {m = period} (omega arith));
  }

  -- k whole periods on, the fewest that reach x
  module _ (l : part < x) (k : ℕ) (e : k ≡ (x - part + (period - 1)) / period) where
    pub reached : (x - part ≤ k * period) × (k * period < x - part + period)
    reached =
        let d : ℕ = x - part + (period - 1) in
        let q : k * period ≡ d / period * period = ap (λ (i : ℕ). i * period) e in
        (omega (arith, mod-add-div' d period, mod-lt d {m = period} (omega arith)), omega (arith, mod-add-div' d period))

    -- one that is earlier lies before x
    earlier : (q : ℕ) → q * period + part < k * period + part → q * period + part < x
    earlier q w =
        ⊎_elim (λ v. omega (arith, reached.1, mul-le-mul_right {m = suc q} {n = k} period v, suc-mul q period))
        (λ v. absurd (omega (arith, mul-le-mul_right {m = k} {n = q} period v))) (order q k)

    pub later_first : FirstFrom period part x (k * period + part)
    later_first = record {
      late = omega (arith, reached.0);
      is = digits_mod k h;
      none = λ z a b m.
          let s : z / period * period + part ≡ z = omega (arith, mod-add-div' z period) in
          omega (arith, earlier (z / period) (omega arith));
    }

-- ---- the first start from n on

module _ (n period part y : ℕ) (h : part < period) (f : FirstFrom period part (n % hyperframe) y) where
  -- by a subframe's number in its hyperframe
  starts : (t z : ℕ) → t % hyperframe ≡ z → z % period ≡ part → is_start period part t ≡ true
  starts t z e m = eq-eqb _ _ (ap (λ (i : ℕ). i % period) e ∙ m)

  starts_not : (t z : ℕ) → t % hyperframe ≡ z → (z % period ≡ part → ⊥) → is_start period part t ≡ false
  starts_not t z e m = ne_eqb _ _ (λ p. m (sym (ap (λ (i : ℕ). i % period) e) ∙ p))

  -- none from n on in the hyperframe of n before y
  none_here : (i : ℕ) → n ≤ i → i < n - n % hyperframe + y → i < n - n % hyperframe + hyperframe → is_start period part i ≡ false
  none_here i a b w =
      let e : i % hyperframe ≡ i - (n - n % hyperframe) = omega arith in
      starts_not i (i - (n - n % hyperframe)) e (f.none (i - (n - n % hyperframe)) (omega arith) (omega arith))

  pub start_here : y < hyperframe → FirstStart period part n (n - n % hyperframe + y)
  start_here l =
      let e : (n - n % hyperframe + y) % hyperframe ≡ y = omega arith in
      record {
        late = omega (arith, f.late);
        starts = starts (n - n % hyperframe + y) y e f.is;
        none = λ i a b. none_here i a b (omega arith);
      }

  -- at the turn
  pub start_next : hyperframe ≤ y → part < hyperframe → FirstStart period part n (n - n % hyperframe + hyperframe + part)
  start_next l p =
      let t : ℕ = n - n % hyperframe + hyperframe + part in
      let e : t % hyperframe ≡ part = omega arith in
      record {
        late = omega arith;
        starts = starts t part e (mod-eq_of_lt h);
        none = λ i a b. ⊎_elim (λ w. none_here i a (omega arith) w) (λ w. after i b w) (order i (n - n % hyperframe + hyperframe));
      }
    where
      after : (i : ℕ) → i < n - n % hyperframe + hyperframe + part → n - n % hyperframe + hyperframe ≤ i → is_start period part i ≡ false
      after i b w =
          let z : ℕ = i - (n - n % hyperframe + hyperframe) in
          let e : i % hyperframe ≡ z = omega arith in
          starts_not i z e (λ m. omega (arith, mod-eq_of_lt {n = z} {m = period} (omega arith)))

  -- y lies past x unless it is the part itself
  pub next_soon : hyperframe ≤ y → part < hyperframe → n - n % hyperframe + hyperframe + part < n + hyperframe
  next_soon l p =
      ⊎_elim (λ w. omega arith) (λ w. absurd (f.none part w (omega arith) (mod-eq_of_lt h))) (order part (n % hyperframe))

pub first_is : (period part n t : ℕ) → FirstStart period part n t → t < n + hyperframe → t ≡ next (is_start period part) hyperframe n
first_is period part n t f l = next_least (is_start period part) hyperframe n t f.late l f.starts f.none

-- the first start exists, and next finds it
pub first_start : (period part n : ℕ) → part < period → part < hyperframe → FirstStart period part n (next (is_start period part) hyperframe n)
first_start period part n h p = ⊎_elim here after (order first.0 hyperframe)
  where
    first : (y : ℕ) × FirstFrom period part (n % hyperframe) y
    first =
        ⊎_elim (λ l. (_, later_first period part (n % hyperframe) h l _ refl)) (λ l. (part, part_first period part (n % hyperframe) h l))
        (order part (n % hyperframe))

    found : (t : ℕ) → FirstStart period part n t → t < n + hyperframe → FirstStart period part n (next (is_start period part) hyperframe n)
    found t f l = subst (FirstStart period part n) (first_is period part n t f l) f

    here : first.0 < hyperframe → FirstStart period part n (next (is_start period part) hyperframe n)
    here l = found _ (start_here n period part first.0 h first.1 l) (omega arith)

    after : hyperframe ≤ first.0 → FirstStart period part n (next (is_start period part) hyperframe n)
    after l = found _ (start_next n period part first.0 h first.1 l p) (next_soon n period part first.0 h first.1 l p)
