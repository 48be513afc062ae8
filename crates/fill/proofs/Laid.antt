-- Numbers of elements, one after the other: more of them, all of them, and two parts joined.
use mathlib.Core.List.{List, [], ◌∷◌, ◌++◌, append_assoc, append-nil}
use mathlib.Core.Path.{◌≡◌, refl, sym, ap, ap₂, ◌∙◌, fun_ext}
use mathlib.Core.Logic.{⊎_elim}
use Prim.Native.Nat.{ℕ, zero, suc, ◌+◌, ◌-◌, ◌*◌, ◌<◌}
use native.Mathlib.Nat.{add-zero, add-suc, eq-or-lt_of_le, le_of_suc-le-suc}
use native.Mathlib.Numerals.{add-one}
use native.Mathlib.Omega.{arith}
use lib.Ieee.{Float}
use lib.ListN.{length, take, drop, set, get_or, length-append, length-set, length-drop, drop_of_length-le, get_or-append}
use lib.Seq.{take-suc-set, take_all, take_at, drop_at, length-take-le, get_or-append-add}
use Rattle.symbol.specs.declared.Symbol.{Symbol}
use Rattle.fill.specs.Fill.{laid}

pub length_laid : (f : ℕ → Symbol) (n : ℕ) → length (laid f n) ≡ 2 * n
unfolding laid
length_laid f zero = refl
length_laid f (suc n) = length-append (laid f n) ((f n).re ∷ (f n).im ∷ []) ∙ (rw (length_laid f n) (omega arith))

pub laid_none : (f : ℕ → Symbol) → [] ≡ laid f 0
unfolding laid
laid_none f = refl

-- one more element's two numbers, stored after what stands before
pub laid_more : (p : List Float) (f : ℕ → Symbol) (l : List Float) (i k : ℕ) (s : Symbol) → 2 * i + 1 < length l → take (2 * i) l ≡ p ++ laid f k → s ≡ f k
    → take (2 * (i + 1)) (set (set l (2 * i) s.re) (2 * i + 1) s.im) ≡ p ++ laid f (k + 1)
unfolding laid
laid_more p f l i k s h e q =
    let n : 2 * (i + 1) ≡ suc (2 * i + 1) = omega arith in
    let m : 2 * i + 1 ≡ suc (2 * i) = omega arith in
    ap (λ (k : ℕ). take k (set (set l (2 * i) s.re) (2 * i + 1) s.im)) n
    ∙ take-suc-set (set l (2 * i) s.re) (2 * i + 1) s.im (simp length-set h)
    ∙ ap (λ (a : List Float). a ++ (s.im ∷ []))
    (ap (λ (k : ℕ). take k (set l (2 * i) s.re)) m ∙ take-suc-set l (2 * i) s.re (omega arith) ∙ ap (λ (a : List Float). a ++ (s.re ∷ [])) e)
    ∙ append_assoc (p ++ laid f k) (s.re ∷ []) (s.im ∷ [])
    ∙ append_assoc p (laid f k) (s.re ∷ s.im ∷ [])
    ∙ ap (λ (y : Symbol). p ++ (laid f k ++ (y.re ∷ y.im ∷ []))) q
    ∙ sym (ap (λ (x : ℕ). p ++ laid f x) (add-one k))

pub laid_all : (f : ℕ → Symbol) (l : List Float) (i n : ℕ) → length l ≡ 2 * n → i ≡ n → take (2 * i) l ≡ laid f i → l ≡ laid f n
laid_all f l i n h q e = sym (take_all (2 * i) l (omega arith)) ∙ e ∙ ap (laid f) q

pub laid_plus : (f : ℕ → Symbol) (m n : ℕ) → laid f (m + n) ≡ laid f m ++ laid (λ x. f (m + x)) n
unfolding laid
laid_plus f m zero = ap (laid f) (add-zero m) ∙ sym (append-nil (laid f m))
laid_plus f m (suc n) =
    ap (laid f) (add-suc m n) ∙ ap (λ (a : List Float). a ++ ((f (m + n)).re ∷ (f (m + n)).im ∷ [])) (laid_plus f m n)
    ∙ append_assoc (laid f m) (laid (λ x. f (m + x)) n) ((f (m + n)).re ∷ (f (m + n)).im ∷ [])

pub laid_same : (f g : ℕ → Symbol) (n : ℕ) → ((x : ℕ) → f x ≡ g x) → laid f n ≡ laid g n
laid_same f g n h = ap (λ (k : ℕ → Symbol). laid k n) (fun_ext h)

pub laid_below : (f g : ℕ → Symbol) (n : ℕ) → ((x : ℕ) → x < n → f x ≡ g x) → laid f n ≡ laid g n
unfolding laid
laid_below f g zero h = refl
laid_below f g (suc n) h =
    ap₂ (λ (a : List Float) (y : Symbol). a ++ (y.re ∷ y.im ∷ [])) (laid_below f g n (λ x l. h x (omega arith))) (h n (omega arith))

-- the numbers of element x stand at twice x
pub laid_at : (f : ℕ → Symbol) (n x : ℕ) (d : Float) → x < n → (get_or (laid f n) (2 * x) d ≡ (f x).re) × (get_or (laid f n) (2 * x + 1) d ≡ (f x).im)
unfolding laid
laid_at f zero x d h = absurd (omega arith)
laid_at f (suc n) x d h = ⊎_elim last (λ l. before (laid_at f n x d l) l) (eq-or-lt_of_le (le_of_suc-le-suc h))
  where
    whole : List Float
    whole = laid f n ++ ((f n).re ∷ (f n).im ∷ [])

    last : x ≡ n → (get_or whole (2 * x) d ≡ (f x).re) × (get_or whole (2 * x + 1) d ≡ (f x).im)
    last e =
        let first : 2 * x ≡ length (laid f n) + 0 = omega (arith, length_laid f n) in
        let second : 2 * x + 1 ≡ length (laid f n) + 1 = omega (arith, length_laid f n) in (
          ap (λ (k : ℕ). get_or whole k d) first ∙ get_or-append-add (laid f n) ((f n).re ∷ (f n).im ∷ []) 0 d ∙ ap (λ (y : ℕ). (f y).re) (sym e),
          ap (λ (k : ℕ). get_or whole k d) second ∙ get_or-append-add (laid f n) ((f n).re ∷ (f n).im ∷ []) 1 d ∙ ap (λ (y : ℕ). (f y).im) (sym e),
        )

    before : (get_or (laid f n) (2 * x) d ≡ (f x).re) × (get_or (laid f n) (2 * x + 1) d ≡ (f x).im) → x < n
        → (get_or whole (2 * x) d ≡ (f x).re) × (get_or whole (2 * x + 1) d ≡ (f x).im)
    before r l = (
      get_or-append (laid f n) ((f n).re ∷ (f n).im ∷ []) d (2 * x) (omega (arith, length_laid f n)) ∙ r.0,
      get_or-append (laid f n) ((f n).re ∷ (f n).im ∷ []) d (2 * x + 1) (omega (arith, length_laid f n)) ∙ r.1,
    )

-- a front part written over, then the rest: the two one after the other
pub halves : {X : Type 0} (a p b : List X) (n : ℕ) → length a ≡ n → take n (a ++ p) ++ (b ++ drop (length (a ++ p) - n) (drop n (a ++ p))) ≡ a ++ b
halves a p b n h =
    rw (take_at a p n h, drop_at a p n h, drop_of_length-le p {i = length (a ++ p) - n} (simp length-append (omega arith)), append-nil)

-- ---- lengths of the two halves of n + n numbers

module _ {X : Type 0} (n : ℕ) where
  pub front_size : (l : List X) → length l ≡ 2 * n → length (take n l) ≡ n
  front_size l h = length-take-le n l (omega arith)

  pub joined_size : (a l : List X) → length a ≡ n → length l ≡ 2 * n → length (a ++ drop n l) ≡ 2 * n
  joined_size a l h e = simp (length-append, length-drop) (omega arith)

  pub back_size : (l : List X) → length l ≡ 2 * n → length (take (length l - n) (drop n l)) ≡ n
  back_size l h = length-take-le (length l - n) (drop n l) (simp length-drop (omega arith)) ∙ omega arith
