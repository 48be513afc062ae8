-- The used elements of a subframe row by row: a row is a symbol of a slot, and row 7 the first of the second slot.
use mathlib.Core.Bool.{Bool, true, false, not, cond, ◌&&◌, ◌||◌, and-true, and-false, or-false}
use mathlib.Core.List.{List, ◌∷◌, ◌++◌, map}
use mathlib.Core.Logic.{⊎_elim}
use mathlib.Core.Path.{◌≡◌, refl, sym, ap, ap₂, ◌∙◌}
use Prim.Native.Nat.{ℕ, zero, suc, ◌+◌, ◌*◌, ◌/◌, ◌%◌, ◌≤◌, ◌<◌}
use native.Mathlib.Nat.{add-zero, zero-add, zero-mul, suc-mul, add_comm}
use native.Mathlib.Omega.{arith}
use borrow.Author.Tests.{le-ltb, lt-ltb, eq-eqb, ne_eqb}
use Rattle.std.proofs.lemmas.Bool.{eqb-true}
use lib.ListN.{length}
use Rattle.std.proofs.lemmas.List.{map-append, append-nil, length-map}
use Rattle.std.proofs.lemmas.List.Elements.{filter-append}
use Rattle.std.proofs.lemmas.List.Sums.{sum-map, sum_by-cons}
use Rattle.std.specs.List.{filter, flat_map, range_with_len, sum, sum_by}
use Rattle.counting.specs.Counting.{rank, count, in_range}
use Rattle.counting.proofs.Facts.{order}
use Rattle.counting.proofs.Range.{in_range_lem, below_range, above_range}
use Rattle.counting.proofs.Rank.{rank_zero, rank_count, rank_none, count_split}
use Rattle.grid.specs.Grid.{subcarriers, symbols, slots, elements, element_of}
use Rattle.elements.specs.declared.Layout.{Layout}
use Rattle.elements.specs.Elements.{near, far, nrs_on, crs_on, nrs, crs, reference, control_region, used, count_of}
use Rattle.elements.specs.Scaffold.{Valid, Part}
use Rattle.elements.proofs.Rows.{row_used}
use Rattle.chains.proofs.Ranges.{counted}
use Rattle.chains.proofs.Rows.{range_split, none_kept}
use Rattle.plain_downlink.specs.declared.Element.{Element}
use Rattle.plain_downlink.specs.declared.References.{References}
use Rattle.plain_downlink.specs.declared.Row.{Row}

-- ---- a reference by what its row has near and far

abbrev pub at_near : Layout → ℕ → Bool
at_near g l = nrs_on g l true false || crs_on g l true false

abbrev pub at_far : Layout → ℕ → Bool
at_far g l = nrs_on g l false true || crs_on g l false true

abbrev pub stands : Layout → ℕ → ℕ → Bool
stands g l k = (at_near g l && near g k) || (at_far g l && far g k)

first_alone : (a b : Bool) → ((a && true) || (b && false)) ≡ a
first_alone a b = simp (and-true, and-false, or-false)

second_alone : (a b : Bool) → ((a && false) || (b && true)) ≡ b
second_alone a b = simp (and-true, and-false)

module _ (g : Layout) where
  at : (l : ℕ) (n f : Bool) → (n ≡ true → f ≡ true → ⊥) → ((at_near g l && n) || (at_far g l && f)) ≡ (nrs_on g l n f || crs_on g l n f)
  at l true true h = absurd (h refl refl)
  at l true false h = first_alone (at_near g l) (at_far g l)
  at l false true h = second_alone (at_near g l) (at_far g l)
  at l false false h = simp (and-false, or-false)

  -- no subcarrier is both near and far
  apart : Valid g → (k : ℕ) → near g k ≡ true → far g k ≡ true → ⊥
  apart v k n f = omega (arith, v.shift, eqb-true (k % 6) g.v n, eqb-true (k % 6) ((g.v + 3) % 6) f)

  pub stands_is : Valid g → (l k : ℕ) → stands g l k ≡ reference g l k
  unfolding nrs crs
  stands_is v l k = at l (near g k) (far g k) (apart v k)

-- ---- which elements of a row are used

module _ (g : Layout) (low width row : ℕ) (h : row < slots * symbols) where
  at_row : (k : ℕ) → k < subcarriers
      → used g low width (row * subcarriers + k)
      ≡ ((not (control_region g (row / symbols) (row % symbols)) && not (reference g (row % symbols) k)) && in_range low width k)
  at_row k i =
      let e : element_of (row / symbols) (row % symbols) k ≡ row * subcarriers + k = omega arith in
      ap (used g low width) (sym e) ∙ row_used g low width (row / symbols) (row % symbols) (omega (arith, h)) (omega arith) k i

  -- none of a row of the control region
  row_shut : g.control ≤ symbols → row < g.control → (k : ℕ) → k < subcarriers → used g low width (row * subcarriers + k) ≡ false
  row_shut c l k i =
      at_row k i ∙ (rw (eq-eqb (row / symbols) 0 (omega (arith, c, l)), lt-ltb (row % symbols) g.control (omega (arith, c, l))) refl)

  -- of any other those of the part with no reference
  module _ (l : g.control ≤ row) where
    no_control : control_region g (row / symbols) (row % symbols) ≡ false
    no_control =
        ⊎_elim (λ s. rw (le-ltb (row % symbols) g.control (omega (arith, s, l))) (and-false _))
        (λ s. rw (ne_eqb (row / symbols) 0 (λ e. omega (arith, s, e))) refl) (order row symbols)

    inside : (k : ℕ) → low ≤ k → k < low + width → k < subcarriers → not (reference g (row % symbols) k) ≡ used g low width (row * subcarriers + k)
    inside k a b i = sym (at_row k i ∙ (rw (no_control, in_range_lem low width k a b) (and-true _)))

    before : (k : ℕ) → k < low → k < subcarriers → used g low width (row * subcarriers + k) ≡ false
    before k a i = at_row k i ∙ (rw (below_range low width k a) (and-false _))

    after : (k : ℕ) → low + width ≤ k → k < subcarriers → used g low width (row * subcarriers + k) ≡ false
    after k a i = at_row k i ∙ (rw (above_range low width k a) (and-false _))

-- ---- lists: rows one after the other

module _ {X : Type 0} (u v : ℕ → Bool) (c w : ℕ → X) where
  -- what is kept of the numbers from b on, in place of those from a on
  kept_moved : (n a b : ℕ) → ((i : ℕ) → i < n → v (b + i) ≡ u (a + i)) → ((i : ℕ) → i < n → c (b + i) ≡ w (a + i))
      → map c (filter v (range_with_len b n)) ≡ map w (filter u (range_with_len a n))
  kept_moved zero a b h e = refl
  kept_moved (suc n) a b h e =
      by (v b) (u a) (ap v (sym (add-zero b)) ∙ h 0 (omega arith) ∙ ap u (add-zero a))
      (ap c (sym (add-zero b)) ∙ e 0 (omega arith) ∙ ap w (add-zero a))
      (kept_moved n (a + 1) (b + 1)
      (λ i l. ap v (omega arith) ∙ h (suc i) (omega arith) ∙ ap u (omega arith))
      (λ i l. ap c (omega arith) ∙ e (suc i) (omega arith) ∙ ap w (omega arith)))
    where
      by : (p q : Bool) → p ≡ q → c b ≡ w a
          → map c (filter v (range_with_len (b + 1) n)) ≡ map w (filter u (range_with_len (a + 1) n))
          → map c (cond p (b ∷ filter v (range_with_len (b + 1) n)) (filter v (range_with_len (b + 1) n)))
          ≡ map w (cond q (a ∷ filter u (range_with_len (a + 1) n)) (filter u (range_with_len (a + 1) n)))
      by p true i j k = rw i (ap₂ (λ x xs. x ∷ xs) j k)
      by p false i j k = rw i k

module _ (u : ℕ → Bool) where
  -- what is kept of a part, if none of the numbers before it passes, and none after it
  part_kept : (m n r a : ℕ) → ((i : ℕ) → i < m → u (a + i) ≡ false) → ((i : ℕ) → i < r → u (a + m + n + i) ≡ false)
      → filter u (range_with_len a (m + (n + r))) ≡ filter u (range_with_len (a + m) n)
  part_kept m n r a first last =
      ap (filter u) (range_split m (n + r) a) ∙ filter-append u (range_with_len a m) (range_with_len (a + m) (n + r))
      ∙ ap (λ xs. xs ++ filter u (range_with_len (a + m) (n + r))) (none_kept u m a first)
      ∙ ap (filter u) (range_split n r (a + m)) ∙ filter-append u (range_with_len (a + m) n) (range_with_len (a + m + n) r)
      ∙ ap (λ xs. filter u (range_with_len (a + m) n) ++ xs) (none_kept u r (a + m + n) last)
      ∙ append-nil (filter u (range_with_len (a + m) n))

  module _ {X R : Type 0} (p : ℕ) (w : ℕ → X) (f : ℕ → R) (h : R → List X) where
    rows_joined : (n a : ℕ) → ((r : ℕ) → a ≤ r → r < a + n → h (f r) ≡ map w (filter u (range_with_len (r * p) p)))
        → flat_map h (map f (range_with_len a n)) ≡ map w (filter u (range_with_len (a * p) (n * p)))
    rows_joined zero a row = ap (λ (x : ℕ). map w (filter u (range_with_len (a * p) x))) (sym (zero-mul p))
    rows_joined (suc n) a row =
        ap₂ (λ xs ys. xs ++ ys) (row a (omega arith) (omega arith))
        (rows_joined n (a + 1) (λ r i j. row r (omega arith) (omega arith))
        ∙ ap (λ (x : ℕ). map w (filter u (range_with_len x (n * p)))) (ap (λ (x : ℕ). x * p) (omega arith) ∙ suc-mul a p))
        ∙ sym (ap (λ (x : ℕ). map w (filter u (range_with_len (a * p) x))) (suc-mul n p ∙ add_comm (n * p) p)
        ∙ ap (λ xs. map w (filter u xs)) (range_split p (n * p) (a * p))
        ∙ ap (map w) (filter-append u (range_with_len (a * p) p) (range_with_len (a * p + p) (n * p)))
        ∙ map-append w (filter u (range_with_len (a * p) p)) (filter u (range_with_len (a * p + p) (n * p))))

  rows_summed : (p : ℕ) (h : ℕ → ℕ) (n a : ℕ) → ((r : ℕ) → a ≤ r → r < a + n → h r ≡ count u (r * p) p)
      → sum_by h (range_with_len a n) ≡ count u (a * p) (n * p)
  unfolding count
  rows_summed p h zero a row = ap (count u (a * p)) (sym (zero-mul p))
  rows_summed p h (suc n) a row =
      let s : suc n * p ≡ p + n * p = suc-mul n p ∙ add_comm (n * p) p in
      let e : (a + 1) * p ≡ a * p + p = ap (λ (x : ℕ). x * p) (omega arith) ∙ suc-mul a p in
      sum_by-cons h a (range_with_len (a + 1) n)
      ∙ ap₂ (λ (x y : ℕ). x + y) (row a (omega arith) (omega arith))
      (rows_summed p h n (a + 1) (λ r i j. row r (omega arith) (omega arith)) ∙ ap (λ (x : ℕ). count u x (n * p)) e)
      ∙ sym (ap (count u (a * p)) s ∙ count_split u (a * p) p (n * p))

-- ---- all rows from the control region on

-- element x by its row and its subcarrier
abbrev pub placed : ℕ → Element
placed x = record { row = x / subcarriers; k = x % subcarriers }

-- a row with its references, and which of its elements it gives
abbrev pub row_of : Layout → ℕ → Row
row_of g r = record { number = r; references = record { near = at_near g (r % symbols); far = at_far g (r % symbols) } }

abbrev pub is_free : Layout → References → ℕ → Bool
is_free g row k = not ((row.near && near g k) || (row.far && far g k))

abbrev pub elements_of : Layout → ℕ → ℕ → Row → List Element
elements_of g low width r = map (λ k. record { row = r.number; k = k }) (filter (is_free g r.references) (range_with_len low width))

module _ (g : Layout) (v : Valid g) (low width : ℕ) (part : Part low width) where
  row_at : (x : ℕ) → x < g.control * subcarriers → used g low width x ≡ false
  row_at x h =
      let e : x / subcarriers * subcarriers + x % subcarriers ≡ x = omega arith in
      ap (used g low width) (sym e)
      ∙ row_shut g low width (x / subcarriers) (omega (arith, v.region, h)) (omega (arith, v.region)) (omega (arith, h)) (x % subcarriers) (omega arith)

  module _ (rest n : ℕ) (whole : low + (width + rest) ≡ subcarriers) (rows : g.control + n ≡ slots * symbols) where
    row_kept : (f : ℕ → Bool) (r : ℕ) → g.control ≤ r → r < g.control + n
        → ((k : ℕ) → f k ≡ not (reference g (r % symbols) k))
        → map (λ k. record { row = r; k = k }) (filter f (range_with_len low width))
        ≡ map placed (filter (used g low width) (range_with_len (r * subcarriers) subcarriers))
    row_kept f r a b same =
        let o : r < slots * symbols = omega (arith, b, rows) in
        kept_moved (used g low width) f (λ k. record { row = r; k = k }) placed width (r * subcarriers + low) low
        (λ i h. same (low + i) ∙ inside g low width r o a (low + i) (omega arith) (omega (arith, h)) (omega (arith, h, whole)) ∙ ap (used g low width) (omega arith))
        (λ i h j. record { row = row_is i h j; k = k_is i h j })
        ∙ ap (map placed) (sym (part_kept (used g low width) low width rest (r * subcarriers)
        (λ i h. before g low width r o a i h (omega (arith, h, whole)))
        (λ i h. ap (used g low width) (omega arith) ∙ after g low width r o a (low + width + i) (omega arith) (omega (arith, h, whole)))))
        ∙ ap (λ (x : ℕ). map placed (filter (used g low width) (range_with_len (r * subcarriers) x))) whole
      where
        row_is : (i : ℕ) → i < width → r ≡ (r * subcarriers + low + i) / subcarriers
        row_is i h = omega (arith, h, whole)

        k_is : (i : ℕ) → i < width → low + i ≡ (r * subcarriers + low + i) % subcarriers
        k_is i h = omega (arith, h, whole)

    row_counted : (r : ℕ) → g.control ≤ r → r < g.control + n
        → count (λ k. not (reference g (r % symbols) k)) low width ≡ count (used g low width) (r * subcarriers) subcarriers
    row_counted r a b =
        let v : ℕ → Bool = λ k. not (reference g (r % symbols) k) in
        sym (counted v low width) ∙ sym (length-map (filter v (range_with_len low width)) (λ k. record { row = r; k = k }))
        ∙ ap length (row_kept v r a b (λ k. refl))
        ∙ length-map (filter (used g low width) (range_with_len (r * subcarriers) subcarriers)) placed
        ∙ counted (used g low width) (r * subcarriers) subcarriers

    -- how many
    pub all_counted : sum (map (λ r. count (λ k. not (reference g (r % symbols) k)) low width) (range_with_len g.control n)) ≡ count_of g low width
    all_counted =
        let u = used g low width in
        let c : g.control * subcarriers + n * subcarriers ≡ elements = omega (arith, rows) in
        let none : rank u (g.control * subcarriers) ≡ 0 =
        ap (rank u) (sym (zero-add (g.control * subcarriers)))
        ∙ rank_none u 0 (g.control * subcarriers) (λ i a b. row_at i (omega (arith, b))) ∙ rank_zero u in
        let past : count u (g.control * subcarriers) (n * subcarriers) ≡ rank u (g.control * subcarriers + n * subcarriers) =
        omega (arith, rank_count u (n * subcarriers) (g.control * subcarriers), none) in
        let h : ℕ → ℕ = λ r. count (λ k. not (reference g (r % symbols) k)) low width in
        sum-map h (range_with_len g.control n) ∙ rows_summed u subcarriers h n g.control row_counted ∙ past ∙ ap (rank u) c

    -- all of them, one after the other
    all_joined : {R : Type 0} (f : ℕ → R) (h : R → List Element)
        → ((r : ℕ) → g.control ≤ r → r < g.control + n → h (f r) ≡ map placed (filter (used g low width) (range_with_len (r * subcarriers) subcarriers)))
        → flat_map h (map f (range_with_len g.control n)) ≡ map placed (filter (used g low width) (range_with_len 0 elements))
    all_joined f h row =
        let u = used g low width in
        let c : elements ≡ g.control * subcarriers + (n * subcarriers + 0) = omega (arith, rows) in
        rows_joined u subcarriers placed f h n g.control row
        ∙ ap (map placed) (ap (λ (x : ℕ). filter u (range_with_len x (n * subcarriers))) (sym (zero-add (g.control * subcarriers)))
        ∙ sym (ap (λ (x : ℕ). filter u (range_with_len 0 x)) c
        ∙ part_kept u (g.control * subcarriers) (n * subcarriers) 0 0 (λ i h. ap u (zero-add i) ∙ row_at i h) (λ i h. absurd (omega arith))))

    -- as the code goes over them
    pub all_found : flat_map (elements_of g low width) (map (row_of g) (range_with_len g.control n))
        ≡ map placed (filter (used g low width) (range_with_len 0 elements))
    all_found =
        all_joined (row_of g) (elements_of g low width)
        (λ r a b. row_kept (is_free g (row_of g r).references) r a b (λ k. ap not (stands_is g v (r % symbols) k)))
