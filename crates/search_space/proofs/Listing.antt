-- The list read off the blocks is the list of all candidates.
use mathlib.Core.Bool.{true}
use mathlib.Core.List.{List, [], ◌∷◌, map}
use mathlib.Core.Path.{◌≡◌, refl, sym, ap, ◌∙◌}
use mathlib.Core.Logic.{⊎_elim}
use Prim.Native.Nat.{ℕ, zero, suc, ◌+◌, ◌-◌, ◌≤◌, ◌<◌}
use native.Mathlib.Omega.{arith}
use lib.ListN.{length, get_or, set, replicate, length-append, length-map, length-replicate, get_or-append}
use lib.Seq.{get_or-append-add, get_or-set_same, get_or-set_other, ext_get_or}
use borrow.Author.Count.{below_more}
use borrow.Author.Tests.{lt-ltb, le-ltb}
use Rattle.counting.proofs.Facts.{order}
use Rattle.grid.specs.Tables.{is_repetition}
use Rattle.spans.specs.declared.Ends.{Ends}
use Rattle.search_space.specs.declared.Candidate.{Candidate}
use Rattle.search_space.specs.Candidates.{Label, labels_of, candidate_at, room, blank, filled_up, list_of}
use Rattle.search_space.specs.Quick.{cut_of, BlocksOf, entry_in}
use Rattle.search_space.proofs.Labels.{label_at, counted, blocked}

-- ---- a list filled in a loop: what stands below i, and what is set at i

pub set_more : {A : Type 0} (d : A) (f : ℕ → A) (l : List A) (i : ℕ) (v : A) → i < length l → ((k : ℕ) → k < i → get_or l k d ≡ f k) → v ≡ f i
    → (k : ℕ) → k < i + 1 → get_or (set l i v) k d ≡ f k
set_more d f l i v h below e =
    below_more (λ (k : ℕ). get_or (set l i v) k d ≡ f k) i
    (λ k b. get_or-set_other l i k v d (λ q. omega arith) ∙ below k b) (get_or-set_same l i v d h ∙ e)

-- ---- a list filled up with zeros

pub map_at : (f : Label → Candidate) (l : List Label) (k : ℕ) (d : Candidate) → k < length l → get_or (map f l) k d ≡ f (label_at l k)
map_at f [] k d h = absurd (omega arith)
map_at f (x ∷ l) zero d h = refl
map_at f (x ∷ l) (suc k) d h = map_at f l k d (omega arith)

blank_at : (n k : ℕ) → get_or (replicate n blank) k blank ≡ blank
blank_at zero k = refl
blank_at (suc n) zero = refl
blank_at (suc n) (suc k) = blank_at n k

module _ (at : ℕ → ℕ) (rmax : ℕ) (h : is_repetition rmax ≡ true) where
  abbrev shown : List Candidate
  shown = map (candidate_at at) (labels_of rmax)

  many : length shown ≡ (cut_of rmax).count
  many = length-map (labels_of rmax) (candidate_at at) ∙ (counted rmax h).0

  pub list_length : length (list_of at rmax) ≡ room
  unfolding list_of
  list_length =
      omega (
        arith,
        length-append shown (replicate (room - length shown) blank),
        length-replicate (room - length shown) blank,
        many,
        (counted rmax h).1,
      )

  pub list_at : (k : ℕ) → k < (cut_of rmax).count → get_or (list_of at rmax) k blank ≡ candidate_at at (label_at (labels_of rmax) k)
  unfolding list_of
  list_at k l =
      get_or-append shown (replicate (room - length shown) blank) blank k (omega (arith, many))
      ∙ map_at (candidate_at at) (labels_of rmax) k blank (omega (arith, (counted rmax h).0))

  pub list_past : (k : ℕ) → (cut_of rmax).count ≤ k → get_or (list_of at rmax) k blank ≡ blank
  unfolding list_of
  list_past k l =
      let e : k ≡ length shown + (k - length shown) = omega (arith, many) in
      ap (λ (i : ℕ). get_or (filled_up shown) i blank) e
      ∙ get_or-append-add shown (replicate (room - length shown) blank) (k - length shown) blank
      ∙ blank_at (room - length shown) (k - length shown)

  -- ---- by the ends of the blocks

  module _ (b : List Ends) (o : BlocksOf at (cut_of rmax) b) where
    entry_is : (k : ℕ) → entry_in b (cut_of rmax) k ≡ get_or (list_of at rmax) k blank
    unfolding entry_in
    entry_is k = ⊎_elim inside past (order k (cut_of rmax).count)
      where
        inside : k < (cut_of rmax).count → entry_in b (cut_of rmax) k ≡ get_or (list_of at rmax) k blank
        inside l =
            let y = blocked rmax h k l in
            let e = ap (λ (x : Ends). x.first) (o.each _ y.first) ∙ ap at (sym y.begins) in
            let f = ap (λ (x : Ends). x.last) (o.each _ y.last) ∙ ap at (sym y.ends) in
            rw (lt-ltb k (cut_of rmax).count l) (λ i. record { first = e i; r = sym y.copies i; last = f i }) ∙ sym (list_at k l)

        past : (cut_of rmax).count ≤ k → entry_in b (cut_of rmax) k ≡ get_or (list_of at rmax) k blank
        past l = rw (le-ltb k (cut_of rmax).count l) refl ∙ sym (list_past k l)

    pub list_is : (list : List Candidate) → length list ≡ room → ((k : ℕ) → k < room → get_or list k blank ≡ entry_in b (cut_of rmax) k)
        → list ≡ list_of at rmax
    list_is list n e =
        ext_get_or blank list (list_of at rmax) (n ∙ sym list_length) (λ k l. e k (omega (arith, n)) ∙ entry_is k)
