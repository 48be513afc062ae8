-- Laws of a decimal number that is read digit by digit.
use mathlib.Core.Path.{◌≡◌, refl, sym, ap, ◌∙◌}
use mathlib.Core.Bool.{Bool, true, false, cond, ◌&&◌, and-false}
use mathlib.Core.List.{List, [], ◌∷◌}
use Prim.Native.Nat.{ℕ, ◌+◌, ◌*◌, ◌-◌, ◌≤◌, ◌<◌}
use native.Mathlib.Omega.{arith}
use native.Mathlib.Numerals.{add-one}
use lib.ListN.{length, drop, get_or}
use lib.Seq.{drop-cons}
use borrow.Author.Tests.{le-ltb, lt-ltb, eq-eqb, ne_eqb}
use Rattle.std.proofs.lemmas.List.{drop_all}
use Rattle.std.proofs.lemmas.Option.{none-some}
use Rattle.std.specs.Prelude.{Some, None}
use Rattle.text.specs.Decimal.{is_digit, all_digits, followed_by, decimal_of}

-- what a byte's digit says of the byte
pub no_digit : (t : Bool) (y : ℕ) → None ≡ cond t (Some y) None → t ≡ false
no_digit true y e = absurd (none-some y e)
no_digit false y e = refl

-- the bytes from i on, of which one is read
digits_at : (s : List ℕ) (i : ℕ) → i < length s → all_digits (drop i s) ≡ (is_digit (get_or s i 0) && all_digits (drop (i + 1) s))
unfolding all_digits
digits_at s i h = rw (add-one, drop-cons s i 0)

pub odd_at : (s : List ℕ) (i : ℕ) → i < length s → is_digit (get_or s i 0) ≡ false → all_digits (drop i s) ≡ false
odd_at s i h e = digits_at s i h ∙ ap (λ (t : Bool). t && all_digits (drop (i + 1) s)) e

pub digit_at : (s : List ℕ) (i : ℕ) → i < length s → is_digit (get_or s i 0) ≡ true → all_digits (drop i s) ≡ all_digits (drop (i + 1) s)
digit_at s i h e = digits_at s i h ∙ ap (λ (t : Bool). t && all_digits (drop (i + 1) s)) e

pub followed_at : (s : List ℕ) (i x : ℕ) → i < length s → followed_by x (drop i s) ≡ followed_by (x * 10 + (get_or s i 0 - 48)) (drop (i + 1) s)
unfolding followed_by
followed_at s i x h = rw (add-one, drop-cons s i 0)

-- more digits make no number smaller
grows : (s : List ℕ) (x : ℕ) → x ≤ followed_by x s
unfolding followed_by
grows [] x = omega arith
grows (b ∷ s) x = let h = grows s (x * 10 + (b - 48)) in omega arith

-- a digit that takes the number past 2^64 - 1
pub past : (s : List ℕ) (i x : ℕ) → i < length s → followed_by x (drop i s) ≡ followed_by 0 s → 18446744073709551616 ≤ x * 10 + (get_or s i 0 - 48) → 18446744073709551616 ≤ followed_by 0 s
past s i x h e o =
    let g = grows (drop (i + 1) s) (x * 10 + (get_or s i 0 - 48)) in
    rw (sym e ∙ followed_at s i x h) (omega arith)

-- nothing is left
pub end_digits : (s : List ℕ) (i : ℕ) → length s ≤ i → all_digits (drop i s) ≡ true
unfolding all_digits
end_digits s i h = ap all_digits (drop_all i s h)

pub end_followed : (s : List ℕ) (i x : ℕ) → length s ≤ i → followed_by x (drop i s) ≡ x
unfolding followed_by
end_followed s i x h = ap (followed_by x) (drop_all i s h)

-- the four ways to end
pub none_read : (s : List ℕ) → length s ≡ 0 → None ≡ decimal_of s
unfolding decimal_of
none_read s h = simp (eq-eqb (length s) 0 h)

pub odd_read : (s : List ℕ) → all_digits s ≡ false → None ≡ decimal_of s
unfolding decimal_of
odd_read s h = simp (h, and-false)

pub large_read : (s : List ℕ) → 18446744073709551616 ≤ followed_by 0 s → None ≡ decimal_of s
unfolding decimal_of
large_read s h = simp (le-ltb (followed_by 0 s) 18446744073709551616 h, and-false)

pub all_read : (s : List ℕ) (x : ℕ) → (length s ≡ 0 → ⊥) → all_digits s ≡ true → followed_by 0 s ≡ x → x < 18446744073709551616 → Some x ≡ decimal_of s
unfolding decimal_of
all_read s x n d e h = simp (ne_eqb (length s) 0 n, d, e, lt-ltb x 18446744073709551616 h)
