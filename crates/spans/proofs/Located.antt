-- Where a subframe stands to a run of those that pass, by how many pass before it: over any test that repeats.
use mathlib.Core.Bool.{Bool, true, false, cond, not, ◌&&◌}
use mathlib.Core.Path.{◌≡◌, refl, sym, ap, ◌∙◌}
use mathlib.Core.Logic.{◌⊎◌, inl, inr, ⊎_elim}
use Prim.Native.Nat.{ℕ, ◌+◌, ◌-◌, ◌≤◌, ◌<◌}
use native.Mathlib.Omega.{arith}
use lib.Dec.{leb, ltb}
use mir.Val.{bool_byte}
use borrow.Author.Tests.{le-leb, lt-leb, lt-ltb, le-ltb}
use Rattle.counting.specs.Counting.{rank, count, select, among_first}
use Rattle.counting.proofs.Facts.{order, truth}
use Rattle.counting.proofs.Range.{and_none}
use Rattle.counting.proofs.Rank.{rank_mono, rank_strict, rank_later, count_between}
use Rattle.counting.proofs.Period.{select_is}
use Rattle.counting.proofs.Select.{among_parts}
use Rattle.spans.specs.declared.Found.{Found}
use Rattle.spans.specs.declared.Found.TheVariants.{At, Between, Nothing}
use Rattle.spans.specs.Found.{amidst, found_among}

module _ (u : ℕ → Bool) (P : ℕ) (again : (t : ℕ) → u (t + P) ≡ u t) (some : 0 < rank u P) where
  -- ---- where a subframe stands to the K that follow the skip-th from f on

  module _ (f skip K t : ℕ) where
    abbrev start : ℕ
    start = select u P f skip

    -- the first and the last of them
    abbrev first : ℕ
    first = select u P start 0

    abbrev last : ℕ
    last = select u P start (K - 1)

    start_rank : rank u start ≡ rank u f + skip
    start_rank = (select_is u P again some f skip).before

    first_is : (start ≤ first) × (u first ≡ true) × (rank u first ≡ rank u f + skip)
    first_is =
        let n = select_is u P again some start 0 in
        (n.late, n.passes, omega (arith, n.before, start_rank))

    last_is : (u last ≡ true) × (rank u last ≡ rank u f + skip + (K - 1))
    last_is =
        let n = select_is u P again some start (K - 1) in
        (n.passes, omega (arith, n.before, start_rank))

    -- before the first, or past the last
    neither : among_first u start K t ≡ false → (amidst u P start K t ≡ false) → Nothing ≡ found_among u P start K t
    unfolding found_among
    neither n m = simp (n, m, and_none (not (u t)))

    not_early : t ≤ first → amidst u P start K t ≡ false
    not_early h = simp (le-ltb first t h)

    not_late : last ≤ t → amidst u P start K t ≡ false
    not_late h = simp (le-ltb t last h, and_none (ltb first t))

    early_is : t < start → Nothing ≡ found_among u P start K t
    unfolding among_first
    early_is h = neither (simp (lt-leb start t h)) (not_early (omega (arith, first_is.0)))

    pub early : t < f → Nothing ≡ found_among u P start K t
    early h = early_is (omega (arith, (select_is u P again some f skip).late))

    module _ (a b : ℕ) (ha : a ≡ rank u t) (hb : b ≡ rank u f) where
      pub skipped : a - b < skip → Nothing ≡ found_among u P start K t
      skipped h = early_is (rank_later u t start (omega (arith, start_rank)))

      module _ (h : f ≤ t) (l : skip ≤ a - b) where
        after : rank u f ≤ rank u t
        after = rank_mono u f t h

        reached : u t ≡ true → start ≤ t
        reached y = ⊎_elim (λ w. absurd (omega (arith, rank_strict u t start y w, start_rank, after))) (λ w. w) (order t start)

        index : u t ≡ true → a - b - skip ≡ count u start (t - start)
        index y = omega (arith, count_between u start t (reached y), start_rank)

        pub found : u t ≡ true → a - b - skip < K → At (a - b - skip) ≡ found_among u P start K t
        unfolding found_among among_first
        found y w = simp (le-leb start t (reached y), y, ← index y, lt-ltb (a - b - skip) K w)

        absent : u t ≡ false → among_first u start K t ≡ false
        unfolding among_first
        absent n = simp (n, and_none (leb start t))

        beyond : K ≤ a - b - skip → (u t ≡ true) ⊎ (u t ≡ false) → among_first u start K t ≡ false
        unfolding among_first
        beyond w (inl y) = simp (le-leb start t (reached y), y, ← index y, le-ltb (a - b - skip) K w)
        beyond w (inr n) = absent n

        pub past : K ≤ a - b - skip → Nothing ≡ found_among u P start K t
        past w = neither (beyond w (truth (u t))) (⊎_elim (λ v. not_early (alone v (order 0 K))) not_late (order t last))
          where
            -- only a run of none has its last one behind t
            alone : t < last → (0 < K) ⊎ (K ≤ 0) → t ≤ first
            alone v (inl k) = absurd (omega (arith, rank_mono u t last (omega arith), last_is.1, after))
            alone v (inr k) =
                let e : K - 1 ≡ 0 = omega arith in
                omega (arith, ap (select u P start) e)

        pub ahead : u t ≡ false → a - b - skip ≡ 0 → Nothing ≡ found_among u P start K t
        ahead n w =
            neither (absent n)
            (not_early (⊎_elim (λ v. absurd (omega (arith, rank_strict u first t first_is.1 v, first_is.2, after))) (λ v. v) (order first t)))

        pub amid : u t ≡ false → a - b - skip < K → (a - b - skip ≡ 0 → ⊥) → Between ≡ found_among u P start K t
        unfolding found_among
        amid n w z = simp (absent n, n, lt-ltb first t (rank_later u first t (past_first (order 0 (a - b - skip)))), lt-ltb t last (below (order t last)))
          where
            past_first : (0 < a - b - skip) ⊎ (a - b - skip ≤ 0) → rank u first < rank u t
            past_first (inl v) = omega (arith, first_is.2)
            past_first (inr v) = absurd (z (omega arith))

            differ : t ≡ last → ⊥
            differ e =
                let o : ◌≡◌ {A = ℕ} 1 0 = ap bool_byte (sym last_is.0 ∙ ap u (sym e) ∙ n) in
                omega arith

            below : (t < last) ⊎ (last ≤ t) → t < last
            below (inl v) = v
            below (inr v) = absurd (⊎_elim (λ x. omega (arith, rank_strict u last t last_is.0 x, last_is.1)) (λ x. differ (omega arith)) (order last t))

-- ---- what the search says

module _ (u : ℕ → Bool) (P f K t : ℕ) where
  abbrev shown : Bool → Bool → ℕ → Found
  shown b m n = cond b (At n) (cond m Between Nothing)

  at_by : (b m : Bool) (n i : ℕ) → shown b m n ≡ At i → (b ≡ true) × (n ≡ i)
  at_by true m n i h = (refl, cc)
  at_by false true n i h = let z : ◌≡◌ {A = ℕ} 0 1 = cc in absurd (omega arith)
  at_by false false n i h = let z : ◌≡◌ {A = ℕ} 0 1 = cc in absurd (omega arith)

  between_by : (b m : Bool) (n : ℕ) → shown b m n ≡ Between → (b ≡ false) × (m ≡ true)
  between_by true m n h = let z : ◌≡◌ {A = ℕ} 0 1 = cc in absurd (omega arith)
  between_by false true n h = (refl, refl)
  between_by false false n h = let z : ◌≡◌ {A = ℕ} 0 1 = cc in absurd (omega arith)

  nothing_by : (b m : Bool) (n : ℕ) → shown b m n ≡ Nothing → (b ≡ false) × (m ≡ false)
  nothing_by true m n h = let z : ◌≡◌ {A = ℕ} 0 1 = cc in absurd (omega arith)
  nothing_by false true n h = let z : ◌≡◌ {A = ℕ} 0 1 = cc in absurd (omega arith)
  nothing_by false false n h = (refl, refl)

  abbrev missed : Bool
  missed = not (u t) && amidst u P f K t

  pub at_index : (i : ℕ) → found_among u P f K t ≡ At i → (among_first u f K t ≡ true) × (count u f (t - f) ≡ i)
  unfolding found_among
  at_index i h = at_by (among_first u f K t) missed (count u f (t - f)) i h

  pub at_below : (i : ℕ) → found_among u P f K t ≡ At i → i < K
  at_below i h = omega (arith, (at_index i h).1, (among_parts u f K t (at_index i h).0).2)

  pub at_between : found_among u P f K t ≡ Between → (among_first u f K t ≡ false) × ((not (u t) && amidst u P f K t) ≡ true)
  unfolding found_among
  at_between h = between_by (among_first u f K t) missed (count u f (t - f)) h

  pub at_nothing : found_among u P f K t ≡ Nothing → (among_first u f K t ≡ false) × ((not (u t) && amidst u P f K t) ≡ false)
  unfolding found_among
  at_nothing h = nothing_by (among_first u f K t) missed (count u f (t - f)) h
