-- Small facts on tests, shared by all crates: order by cases, conjunctions, and tests computed at every number below a bound.
use mathlib.Core.Bool.{Bool, true, false, cond, not, ◌&&◌, ◌||◌}
use mathlib.Core.Path.{◌≡◌, refl, sym, ap, ◌∙◌, subst}
use mathlib.Core.Logic.{◌⊎◌, inl, inr, ⊎_elim}
use Prim.Native.Nat.{ℕ, zero, suc, ◌≤◌, ◌<◌, ◌/◌}
use native.Mathlib.Nat.{eq-or-lt_of_le, le_of_suc-le-suc, le-div_iff_mul-le, div-mul-le_self}
use native.Mathlib.Decide.{dec_lt, ℕ_discrete}
use native.Mathlib.Omega.{arith}
use lib.Dec.{T, eqb}
use borrow.Author.Tests.{eq-eqb, ne_eqb}
use mir.Val.{bool_byte}

pub order : (s t : ℕ) → (s < t) ⊎ (t ≤ s)
order s t = by (dec_lt s t)
  where
    by : Dec (s < t) → (s < t) ⊎ (t ≤ s)
    by (yes h) = inl h
    by (no h) = inr (omega arith)

pub div_mono : (a b k : ℕ) → 0 < k → a ≤ b → a / k ≤ b / k
div_mono a b k h l = (le-div_iff_mul-le h).1 (omega (arith, div-mul-le_self a k))

-- ---- tests

pub byte_le : (b : Bool) → bool_byte b ≤ 1
byte_le true = omega arith
byte_le false = omega arith

pub byte_some : (b : Bool) (n : ℕ) → n < bool_byte b → (b ≡ true) × (n ≡ 0)
byte_some true n h = (refl, omega arith)
byte_some false n h = absurd (omega arith)

pub both : (a b : Bool) → a ≡ true → b ≡ true → (a && b) ≡ true
both a b x y = rw (x, y) refl

pub both_parts : (a b : Bool) → (a && b) ≡ true → (a ≡ true) × (b ≡ true)
both_parts true b h = (refl, h)
both_parts false b h = let z : ◌≡◌ {A = ℕ} 0 1 = cc in absurd (omega arith)

pub either_parts : (a b : Bool) → (a || b) ≡ false → (a ≡ false) × (b ≡ false)
either_parts true b h = let z : ◌≡◌ {A = ℕ} 0 1 = cc in absurd (omega arith)
either_parts false b h = (refl, h)

pub either_case : (a b : Bool) → (a || b) ≡ true → (a ≡ true) ⊎ (b ≡ true)
either_case true b h = inl refl
either_case false b h = inr h

pub not_true_is : (b : Bool) → not b ≡ true → b ≡ false
not_true_is true h = let z : ◌≡◌ {A = ℕ} 0 1 = cc in absurd (omega arith)
not_true_is false h = refl

pub truth : (b : Bool) → (b ≡ true) ⊎ (b ≡ false)
truth true = inl refl
truth false = inr refl

-- ---- chains of refusals: 0 where no test of the chain holds

pub passed : (t : Bool) (k r : ℕ) → 0 < k → cond t k r ≡ 0 → (t ≡ false) × (r ≡ 0)
passed true k r h e = absurd (omega arith)
passed false k r h e = (refl, e)

-- one number first, then another
pub after_first : (f w : ℕ) → cond (eqb f 0) w f ≡ 0 → (f ≡ 0) × (w ≡ 0)
after_first f w e = by (ℕ_discrete f 0)
  where
    by : Dec (f ≡ 0) → (f ≡ 0) × (w ≡ 0)
    by (yes z) = (z, sym (ap (λ (b : Bool). cond b w f) (eq-eqb f 0 z)) ∙ e)
    by (no n) = absurd (n (sym (ap (λ (b : Bool). cond b w f) (ne_eqb f 0 n)) ∙ e))

pub first_alone : (f w : ℕ) → w ≡ 0 → f ≡ cond (eqb f 0) w f
first_alone f w h = by (ℕ_discrete f 0)
  where
    by : Dec (f ≡ 0) → f ≡ cond (eqb f 0) w f
    by (yes e) = rw (eq-eqb f 0 e) (e ∙ sym h)
    by (no n) = rw (ne_eqb f 0 n) refl

-- the first chain's number, or the next chain's where it is 0
pub chained : (a r : ℕ) → cond (eqb a 0) r a ≡ 0 → (a ≡ 0) × (r ≡ 0)
chained a r e = ⊎_elim (λ h. (h, sym (ap (λ (b : Bool). cond b r a) (eq-eqb a 0 h)) ∙ e)) other (zero_or a)
  where
    zero_or : (a : ℕ) → (a ≡ 0) ⊎ (0 < a)
    zero_or zero = inl refl
    zero_or (suc a) = inr (omega arith)

    other : 0 < a → (a ≡ 0) × (r ≡ 0)
    other h = absurd (omega (arith, sym (ap (λ (b : Bool). cond b r a) (ne_eqb a 0 (λ z. omega arith))) ∙ e))

-- ---- a test computed at every number below a bound holds at each

abbrev pub each : ℕ → (ℕ → Bool) → Bool
each zero f = true
each (suc n) f = f n && each n f

and_left : (a b : Bool) → T (a && b) → T a
and_left true b t = tt
and_left false b t = t

and_right : (a b : Bool) → T (a && b) → T b
and_right true b t = t
and_right false b t = absurd t

pub each_at : (n : ℕ) (f : ℕ → Bool) → T (each n f) → (i : ℕ) → i < n → T (f i)
each_at zero f t i h = absurd (omega arith)
each_at (suc n) f t i h =
    ⊎_elim (λ e. subst (λ (x : ℕ). T (f x)) (sym e) (and_left (f n) (each n f) t))
    (λ k. each_at n f (and_right (f n) (each n f) t) i k) (eq-or-lt_of_le (le_of_suc-le-suc h))

-- two tests agree
abbrev pub alike : Bool → Bool → Bool
alike true b = b
alike false b = not b

pub alike_eq : (a b : Bool) → T (alike a b) → a ≡ b
alike_eq true true t = refl
alike_eq true false t = absurd t
alike_eq false true t = absurd t
alike_eq false false t = refl
