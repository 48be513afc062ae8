-- The numbers of a range: none before it, each in it, and all after it.
use mathlib.Core.Bool.{Bool, true, false, ◌&&◌}
use mathlib.Core.Path.{◌≡◌, refl, sym, ap, ◌∙◌}
use Prim.Native.Nat.{ℕ, zero, suc, ◌+◌, ◌≤◌, ◌<◌}
use native.Mathlib.Nat.{add-zero, add-suc, zero-add}
use native.Mathlib.Omega.{arith}
use lib.Dec.{leb}
use borrow.Author.Tests.{le-leb, lt-leb, lt-ltb, le-ltb}
use Rattle.counting.specs.Counting.{rank, in_range}
use Rattle.counting.proofs.Rank.{rank_zero, rank_yes, rank_none}

-- a stretch in which each passes
pub rank_all : (u : ℕ → Bool) (s n : ℕ) → ((i : ℕ) → s ≤ i → i < s + n → u i ≡ true) → rank u (s + n) ≡ rank u s + n
rank_all u s zero h = omega (arith, ap (rank u) (add-zero s))
rank_all u s (suc n) h =
    omega (
      arith,
      ap (rank u) (add-suc s n),
      rank_yes u (s + n) (h (s + n) (omega arith) (omega (arith, add-suc s n))),
      rank_all u s n (λ i a b. h i a (omega (arith, add-suc s n))),
    )

pub and_none : (b : Bool) → (b && false) ≡ false
and_none true = refl
and_none false = refl

module _ (a n : ℕ) where
  pub in_range_lem : (x : ℕ) → a ≤ x → x < a + n → in_range a n x ≡ true
  in_range_lem x h k = rw (le-leb a x h, lt-ltb x (a + n) k) refl

  pub below_range : (x : ℕ) → x < a → in_range a n x ≡ false
  below_range x h = rw (lt-leb a x h) refl

  pub above_range : (x : ℕ) → a + n ≤ x → in_range a n x ≡ false
  above_range x h = rw (le-ltb x (a + n) h) (and_none (leb a x))

  pub rank_before : (t : ℕ) → t ≤ a → rank (in_range a n) t ≡ 0
  rank_before t h =
      ap (rank (in_range a n)) (sym (zero-add t)) ∙ rank_none (in_range a n) 0 t (λ i p q. below_range i (omega arith)) ∙ rank_zero (in_range a n)

  pub rank_inside : (j : ℕ) → j ≤ n → rank (in_range a n) (a + j) ≡ j
  rank_inside j h =
      omega (arith, rank_all (in_range a n) a j (λ i p q. in_range_lem i p (omega arith)), rank_before a (omega arith))

  pub rank_after : (j : ℕ) → rank (in_range a n) (a + n + j) ≡ n
  rank_after j =
      rank_none (in_range a n) (a + n) j (λ i p q. above_range i p) ∙ rank_inside n (omega arith)
