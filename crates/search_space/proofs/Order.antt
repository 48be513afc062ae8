-- All candidates are listed, each once and in order: computed of the labels for each of the twelve Rmax.
use mathlib.Core.Bool.{Bool, true, false, ◌&&◌, ◌||◌}
use mathlib.Core.List.{List, [], ◌∷◌}
use mathlib.Core.Path.{◌≡◌, refl, sym, ap, ◌∙◌, subst}
use mathlib.Core.Logic.{◌⊎◌, inl, inr, ⊎_elim}
use Prim.Native.Nat.{ℕ, ◌*◌, ◌/◌, ◌^◌, ◌<◌}
use native.Mathlib.Omega.{arith}
use lib.Dec.{T, eqb, ltb, eqb→eq, ltb→lt}
use lib.ListN.{length, get_or}
use borrow.Author.Tests.{eqb-true, ltb-true}
use Rattle.counting.specs.Counting.{next}
use Rattle.counting.specs.Listed.{is_one_of}
use Rattle.counting.proofs.Facts.{order, both_parts, either_case, each, each_at}
use Rattle.grid.specs.Tables.{is_repetition}
use Rattle.grid.proofs.Rules.{parts}
use Rattle.search_space.specs.declared.Candidate.{Candidate}
use Rattle.search_space.specs.Candidates.{Label, levels_of, labels_of, candidate_at, blank, list_of}
use Rattle.search_space.specs.Promised.{is_candidate, Before, ListsAll}
use Rattle.search_space.proofs.Labels.{at_rmax, label_at, counted}
use Rattle.search_space.proofs.Listing.{list_length, list_at, list_past}

-- ---- the tests

-- b begins later than a, or where a does with more copies
abbrev follows : Label → Label → Bool
follows a b = ltb (a.u * a.r) (b.u * b.r) || (eqb (a.u * a.r) (b.u * b.r) && ltb a.r b.r)

abbrev rises : List Label → Bool
rises l = each (length l) (λ k. each k (λ i. follows (label_at l i) (label_at l k)))

-- a candidate, of as many copies as an NPDCCH has
abbrev is_one : ℕ → Label → Bool
is_one rmax x = is_candidate rmax x && is_repetition x.r

abbrev are_ones : ℕ → List Label → Bool
are_ones rmax l = each (length l) (λ k. is_one rmax (label_at l k))

-- where label x stands
abbrev is_the : Label → Label → Bool
is_the x y = eqb y.r x.r && eqb y.u x.u

abbrev place : List Label → Label → ℕ
place l x = next (λ k. is_the x (label_at l k)) (length l) 0

abbrev has : List Label → Label → Bool
has l x = ltb (place l x) (length l) && is_the x (label_at l (place l x))

abbrev all : (ℕ → Bool) → List ℕ → Bool
all f [] = true
all f (x ∷ xs) = f x && all f xs

abbrev has_all : ℕ → List Label → Bool
has_all rmax l = all (λ r. each (rmax / r) (λ u. has l (record { r = r; u = u }))) (levels_of rmax)

rises_table : T (each 12 (λ k. rises (labels_of (2 ^ k))))
unfolding levels_of labels_of
rises_table = tt

ones_table : T (each 12 (λ k. are_ones (2 ^ k) (labels_of (2 ^ k))))
unfolding levels_of labels_of is_repetition
ones_table = tt

has_table : T (each 12 (λ k. has_all (2 ^ k) (labels_of (2 ^ k))))
unfolding levels_of labels_of next
has_table = tt

-- ---- what they say

all_at : (f : ℕ → Bool) (xs : List ℕ) → T (all f xs) → (x : ℕ) → is_one_of xs x ≡ true → T (f x)
all_at f [] t x h = let z : ◌≡◌ {A = ℕ} 0 1 = cc in absurd (omega arith)
all_at f (y ∷ xs) t x h =
    ⊎_elim (λ e. subst (λ (z : ℕ). T (f z)) (sym (eqb-true x y e)) (parts (f y) (all f xs) t).0)
    (λ r. all_at f xs (parts (f y) (all f xs) t).1 x r) (either_case (eqb x y) (is_one_of xs x) h)

is_true : (b : Bool) → T b → b ≡ true
is_true true t = refl
is_true false t = absurd t

either_true : (a b : Bool) → T (a || b) → T a ⊎ T b
either_true true b t = inl tt
either_true false b t = inr t

module _ (rmax : ℕ) (h : is_repetition rmax ≡ true) where
  abbrev l : List Label
  l = labels_of rmax

  pub in_turn : (i k : ℕ) → i < k → k < length l
      → ((label_at l i).u * (label_at l i).r < (label_at l k).u * (label_at l k).r)
      ⊎ (((label_at l i).u * (label_at l i).r ≡ (label_at l k).u * (label_at l k).r) × ((label_at l i).r < (label_at l k).r))
  in_turn i k a b =
      let x = label_at l i in
      let y = label_at l k in
      let t = each_at k (λ i. follows (label_at l i) y)
      (each_at (length l) (λ k. each k (λ i. follows (label_at l i) (label_at l k))) (at_rmax (λ rmax. rises (labels_of rmax)) rises_table rmax h) k b) i a in
      ⊎_elim (λ w. inl (ltb→lt (x.u * x.r) (y.u * y.r) w))
      (λ w.
      let p = parts (eqb (x.u * x.r) (y.u * y.r)) (ltb x.r y.r) w in
      inr (eqb→eq (x.u * x.r) (y.u * y.r) p.0, ltb→lt x.r y.r p.1))
      (either_true (ltb (x.u * x.r) (y.u * y.r)) (eqb (x.u * x.r) (y.u * y.r) && ltb x.r y.r) t)

  pub is_one_lem : (k : ℕ) → k < length l → (is_candidate rmax (label_at l k) ≡ true) × (is_repetition (label_at l k).r ≡ true)
  is_one_lem k a =
      let x = label_at l k in
      both_parts (is_candidate rmax x) (is_repetition x.r)
      (is_true (is_one rmax x) (each_at (length l) (λ k. is_one rmax (label_at l k))
      (at_rmax (λ rmax. are_ones rmax (labels_of rmax)) ones_table rmax h) k a))

  pub stands : (x : Label) → is_candidate rmax x ≡ true → (k : ℕ) × (k < length l) × (label_at l k ≡ x)
  stands x c =
      let p = both_parts (is_one_of (levels_of rmax) x.r) (ltb x.u (rmax / x.r)) c in
      let t = each_at (rmax / x.r) (λ u. has l (record { r = x.r; u = u }))
      (all_at (λ r. each (rmax / r) (λ u. has l (record { r = r; u = u }))) (levels_of rmax)
      (at_rmax (λ rmax. has_all rmax (labels_of rmax)) has_table rmax h) x.r p.0) x.u (ltb-true x.u (rmax / x.r) p.1) in
      let y = label_at l (place l x) in
      let q = parts (ltb (place l x) (length l)) (is_the x y) t in
      let s = parts (eqb y.r x.r) (eqb y.u x.u) q.1 in
      let e : y.r ≡ x.r = eqb→eq y.r x.r s.0 in
      let f : y.u ≡ x.u = eqb→eq y.u x.u s.1 in
      (place l x, ltb→lt (place l x) (length l) q.0, λ i. record { r = e i; u = f i })

  -- ---- of the list, at rising

  module _ (at : ℕ → ℕ) (up : (i j : ℕ) → i < j → at i < at j) where
    abbrev entry : ℕ → Candidate
    entry k = get_or (list_of at rmax) k blank

    pub entry_at : (k : ℕ) → k < length l → entry k ≡ candidate_at at (label_at l k)
    entry_at k a = list_at at rmax h k (omega (arith, (counted rmax h).0))

    sorted_at : (i k : ℕ) → i < k → k < length l → Before (entry i) (entry k)
    sorted_at i k a b =
        rw (entry_at i (omega arith), entry_at k b)
        (⊎_elim (λ w. inl (up _ _ w)) (λ w. inr (ap at w.0, w.1)) (in_turn i k a b))

    -- none stands before itself
    apart : (i k : ℕ) → i < k → k < length l → entry i ≡ entry k → ⊥
    apart i k a b e =
        let f : (entry i).first ≡ (entry k).first = ap (λ (x : Candidate). x.first) e in
        let r : (entry i).r ≡ (entry k).r = ap (λ (x : Candidate). x.r) e in
        ⊎_elim (λ w. omega arith) (λ w. omega (arith, w.1)) (sorted_at i k a b)

    pub lists_all : ListsAll at rmax (length l) (list_of at rmax)
    lists_all = record {
      size = list_length at rmax h;
      each = λ x c. let s = stands x c in (s.0, s.1, entry_at s.0 s.1 ∙ ap (candidate_at at) s.2);
      only = λ k a. (label_at l k, (is_one_lem k a).0, entry_at k a);
      sorted = sorted_at;
      once = λ i k a b e.
          ⊎_elim (λ w. absurd (apart i k w b e))
          (λ w. ⊎_elim (λ v. absurd (apart k i v a (sym e))) (λ v. omega arith) (order k i)) (order i k);
      zeros = λ k a. list_past at rmax h k (omega (arith, (counted rmax h).0));
    }
