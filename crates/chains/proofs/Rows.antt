-- What a filter keeps of rows laid one after the other is what a test of single numbers keeps of the whole range.
use mathlib.Core.Bool.{Bool, true, false, cond}
use mathlib.Core.List.{List, [], ◌∷◌, ◌++◌, map, map-id}
use mathlib.Core.Path.{◌≡◌, refl, sym, ap, ap₂, ◌∙◌}
use Prim.Native.Nat.{ℕ, zero, suc, ◌+◌, ◌*◌, ◌<◌, ◌≤◌}
use native.Mathlib.Nat.{add-zero, zero-add, suc-add, zero-mul, add_comm, suc-mul}
use native.Mathlib.Omega.{arith}
use Rattle.std.specs.List.{All, filter, flat_map, range_with_len}
use Rattle.std.proofs.lemmas.List.{map-append, append-nil}
use Rattle.std.proofs.lemmas.List.Elements.{All-append, filter-append}

on : (a : ℕ) → suc a ≡ a + 1
on a = omega arith

-- a range in two parts
pub range_split : (m n a : ℕ) → range_with_len a (m + n) ≡ range_with_len a m ++ range_with_len (a + m) n
range_split zero n a = ap₂ range_with_len (sym (add-zero a)) (zero-add n)
range_split (suc m) n a =
    ap (range_with_len a) (suc-add m n)
    ∙ ap (λ xs. a ∷ xs) (range_split m n (a + 1) ∙ ap (λ (x : ℕ). range_with_len (a + 1) m ++ range_with_len x n) (omega arith))

-- a test that all pass
pub filter_true : {X : Type 0} (xs : List X) → filter (λ x. true) xs ≡ xs
filter_true [] = refl
filter_true (x ∷ xs) = ap (λ ys. x ∷ ys) (filter_true xs)

-- ---- one row

module _ (u : ℕ → Bool) where
  -- none passes
  pub none_kept : (n a : ℕ) → ((i : ℕ) → i < n → u (a + i) ≡ false) → filter u (range_with_len a n) ≡ []
  none_kept zero a h = refl
  none_kept (suc n) a h =
      rw (ap u (sym (add-zero a)) ∙ h 0 (omega arith))
      (none_kept n (a + 1) (λ i l. ap u (omega arith) ∙ h (suc i) (omega arith)))

  module _ {X : Type 0} (v : X → Bool) (c w : ℕ → X) where
    -- the numbers from b on, as what c makes of them, in place of those from a on
    pub row_moved : (n a b : ℕ) → ((i : ℕ) → i < n → v (c (b + i)) ≡ u (a + i)) → ((i : ℕ) → i < n → c (b + i) ≡ w (a + i))
        → filter v (map c (range_with_len b n)) ≡ map w (filter u (range_with_len a n))
    row_moved zero a b h e = refl
    row_moved (suc n) a b h e =
        by (v (c b)) (u a) (ap (λ (x : ℕ). v (c x)) (sym (add-zero b)) ∙ h 0 (omega arith) ∙ ap u (add-zero a))
        (ap c (sym (add-zero b)) ∙ e 0 (omega arith) ∙ ap w (add-zero a))
        (row_moved n (a + 1) (b + 1)
        (λ i l. ap (λ (x : ℕ). v (c x)) (omega arith) ∙ h (suc i) (omega arith) ∙ ap u (omega arith))
        (λ i l. ap c (omega arith) ∙ e (suc i) (omega arith) ∙ ap w (omega arith)))
      where
        by : (p q : Bool) → p ≡ q → c b ≡ w a
            → filter v (map c (range_with_len (b + 1) n)) ≡ map w (filter u (range_with_len (a + 1) n))
            → cond p (c b ∷ filter v (map c (range_with_len (b + 1) n))) (filter v (map c (range_with_len (b + 1) n)))
            ≡ map w (cond q (a ∷ filter u (range_with_len (a + 1) n)) (filter u (range_with_len (a + 1) n)))
        by p true i j k = rw i (ap₂ (λ x xs. x ∷ xs) j k)
        by p false i j k = rw i k

  -- tests that agree
  pub alike_kept : (v : ℕ → Bool) (n a : ℕ) → ((i : ℕ) → i < n → v (a + i) ≡ u (a + i))
      → filter v (range_with_len a n) ≡ filter u (range_with_len a n)
  alike_kept v n a h =
      sym (ap (filter v) (map-id (range_with_len a n))) ∙ row_moved v (λ x. x) (λ x. x) n a a h (λ i l. refl)
      ∙ map-id (filter u (range_with_len a n))

  -- the first b of a row, if none of the others passes
  pub block_kept : (v : ℕ → Bool) (b g a : ℕ) → ((i : ℕ) → i < b → v (a + i) ≡ u (a + i))
      → ((i : ℕ) → i < g → u (a + b + i) ≡ false)
      → filter v (range_with_len a b) ≡ filter u (range_with_len a (b + g))
  block_kept v b g a h n =
      alike_kept v b a h ∙ sym (append-nil (filter u (range_with_len a b)))
      ∙ sym (ap (filter u) (range_split b g a) ∙ filter-append u (range_with_len a b) (range_with_len (a + b) g)
      ∙ ap (λ xs. filter u (range_with_len a b) ++ xs) (none_kept g (a + b) n))

  -- those between the first m and the last r, if they all pass and none of the others does
  pub middle_kept : (m n r a : ℕ) → ((i : ℕ) → i < m → u (a + i) ≡ false) → ((i : ℕ) → i < n → u (a + m + i) ≡ true)
      → ((i : ℕ) → i < r → u (a + m + n + i) ≡ false)
      → range_with_len (a + m) n ≡ filter u (range_with_len a (m + (n + r)))
  middle_kept m n r a before pass after =
      sym (filter_true (range_with_len (a + m) n)) ∙ block_kept (λ x. true) n r (a + m) (λ i l. sym (pass i l)) after
      ∙ sym (ap (filter u) (range_split m (n + r) a)
      ∙ filter-append u (range_with_len a m) (range_with_len (a + m) (n + r))
      ∙ ap (λ xs. xs ++ filter u (range_with_len (a + m) (n + r))) (none_kept m a before))

-- ---- all rows of p numbers each: h k is what is gone over for row k

module _ {X : Type 0} (u : ℕ → Bool) (p : ℕ) (v : X → Bool) (w : ℕ → X) (h : ℕ → List X)
    (row : (k : ℕ) → filter v (h k) ≡ map w (filter u (range_with_len (k * p) p))) where
  rows_from : (n a : ℕ) → filter v (flat_map h (range_with_len a n)) ≡ map w (filter u (range_with_len (a * p) (n * p)))
  rows_from zero a = ap (λ (x : ℕ). map w (filter u (range_with_len (a * p) x))) (sym (zero-mul p))
  rows_from (suc n) a =
      filter-append v (h a) (flat_map h (range_with_len (a + 1) n))
      ∙ ap₂ (λ xs ys. xs ++ ys) (row a)
      (rows_from n (a + 1) ∙ ap (λ (x : ℕ). map w (filter u (range_with_len x (n * p)))) (ap (λ (x : ℕ). x * p) (sym (on a)) ∙ suc-mul a p))
      ∙ sym (ap (λ (x : ℕ). map w (filter u (range_with_len (a * p) x))) (suc-mul n p ∙ add_comm (n * p) p)
      ∙ ap (λ xs. map w (filter u xs)) (range_split p (n * p) (a * p))
      ∙ ap (map w) (filter-append u (range_with_len (a * p) p) (range_with_len (a * p + p) (n * p)))
      ∙ map-append w (filter u (range_with_len (a * p) p)) (filter u (range_with_len (a * p + p) (n * p))))

  pub rows_kept : (n : ℕ) → filter v (flat_map h (range_with_len 0 n)) ≡ map w (filter u (range_with_len 0 (n * p)))
  rows_kept n = rows_from n 0 ∙ ap (λ (x : ℕ). map w (filter u (range_with_len x (n * p)))) (zero-mul p)

-- blocks of b numbers, with g between that do not pass
pub blocks_kept : (u v : ℕ → Bool) (b g : ℕ) → ((k i : ℕ) → i < b → v (k * (b + g) + i) ≡ u (k * (b + g) + i))
    → ((k i : ℕ) → i < g → u (k * (b + g) + b + i) ≡ false)
    → (n : ℕ) → filter v (flat_map (λ k. range_with_len (k * (b + g)) b) (range_with_len 0 n)) ≡ filter u (range_with_len 0 (n * (b + g)))
blocks_kept u v b g h none n =
    rows_kept u (b + g) v (λ x. x) (λ k. range_with_len (k * (b + g)) b)
    (λ k. block_kept u v b g (k * (b + g)) (h k) (none k) ∙ sym (map-id (filter u (range_with_len (k * (b + g)) (b + g))))) n
    ∙ map-id (filter u (range_with_len 0 (n * (b + g))))

-- rows that are left out
pub left_out : {X Y : Type 0} (d : X → Bool) (h : X → List Y) (xs : List X)
    → flat_map h (filter d xs) ≡ flat_map (λ x. cond (d x) (h x) []) xs
left_out d h [] = refl
left_out d h (x ∷ xs) = by (d x) (left_out d h xs)
  where
    by : (b : Bool) → flat_map h (filter d xs) ≡ flat_map (λ y. cond (d y) (h y) []) xs
        → flat_map h (cond b (x ∷ filter d xs) (filter d xs)) ≡ cond b (h x) [] ++ flat_map (λ y. cond (d y) (h y) []) xs
    by true e = ap (λ ys. h x ++ ys) e
    by false e = e

-- the numbers from b on, as what c makes of them, are those from a on, as what w makes of them
pub range_moved : {X : Type 0} (c w : ℕ → X) (n a b : ℕ) → ((i : ℕ) → i < n → c (b + i) ≡ w (a + i))
    → map c (range_with_len b n) ≡ map w (range_with_len a n)
range_moved c w n a b e =
    sym (filter_true (map c (range_with_len b n))) ∙ row_moved (λ x. true) (λ x. true) c w n a b (λ i l. refl) e
    ∙ ap (map w) (filter_true (range_with_len a n))

-- what holds of each number of each row
pub rows_hold : (P : ℕ → Type 0) (h : ℕ → List ℕ) (n a : ℕ) → ((k : ℕ) → a ≤ k → k < a + n → All P (h k)) → All P (flat_map h (range_with_len a n))
rows_hold P h zero a each = λ k d l. absurd (omega arith)
rows_hold P h (suc n) a each =
    All-append P (h a) (flat_map h (range_with_len (a + 1) n)) (each a (omega arith) (omega arith))
    (rows_hold P h n (a + 1) (λ k l m. each k (omega arith) (omega arith)))
