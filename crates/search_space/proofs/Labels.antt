-- The labels of the candidates, computed for each of the twelve Rmax.
use mathlib.Core.Bool.{Bool, true, ◌&&◌}
use mathlib.Core.List.{List}
use mathlib.Core.Path.{◌≡◌, sym, subst}
use mathlib.Core.Logic.{⊎_elim}
use Prim.Native.Nat.{ℕ, zero, suc, ◌+◌, ◌-◌, ◌*◌, ◌^◌, ◌≤◌, ◌<◌}
use native.Mathlib.Omega.{arith}
use lib.Dec.{T, eqb, ltb, leb, eqb→eq, ltb→lt, leb→le}
use lib.ListN.{length, get_or}
use borrow.Author.Tests.{eqb-true}
use Rattle.counting.specs.Bits.{power_below}
use Rattle.counting.proofs.Facts.{either_case, each, each_at}
use Rattle.grid.specs.Tables.{entry, is_repetition}
use Rattle.grid.proofs.Rules.{parts}
use Rattle.search_space.specs.declared.Cut.{Cut}
use Rattle.search_space.specs.Starts.{doubled_g}
use Rattle.search_space.specs.Candidates.{Label, levels_of, labels_of}
use Rattle.search_space.specs.Quick.{cut_of, first_block, last_block}

-- ---- a test that holds at each power of two holds at every Rmax

power_of : (n x : ℕ) → power_below n x ≡ true → (k : ℕ) × (k < n) × (x ≡ 2 ^ k)
power_of zero x h = let z : ◌≡◌ {A = ℕ} 0 1 = cc in absurd (omega arith)
power_of (suc n) x h =
    ⊎_elim (λ e. (n, omega arith, eqb-true x (2 ^ n) e)) (λ r. let p = power_of n x r in (p.0, omega (arith, p.1), p.2))
    (either_case (eqb x (2 ^ n)) (power_below n x) h)

pub at_rmax : (f : ℕ → Bool) → T (each 12 (λ k. f (2 ^ k))) → (rmax : ℕ) → is_repetition rmax ≡ true → T (f rmax)
unfolding is_repetition
at_rmax f t rmax h =
    let p = power_of 12 rmax h in
    subst (λ (x : ℕ). T (f x)) (sym p.2) (each_at 12 (λ k. f (2 ^ k)) t p.0 p.1)

-- label k of a list
abbrev pub label_at : List Label → ℕ → Label
label_at l k = get_or l k (record { r = 0; u = 0 })

-- ---- the rows name each candidate's blocks

abbrev in_blocks : Cut → Label → ℕ → ℕ → Bool
in_blocks x y i j =
    (eqb (y.u * y.r) (i * x.size) && eqb (y.u * y.r + y.r - 1) (j * x.size + (x.size - 1)))
    && (eqb y.r ((j + 1 - i) * x.size) && (ltb i x.many && ltb j x.many))

abbrev in_rows : Cut → List Label → Bool
in_rows x l =
    (eqb (length l) x.count && leb x.count 15)
    && each x.count (λ k. in_blocks x (label_at l k) (first_block x.row k) (last_block x.row k))

rows_table : T (each 12 (λ k. in_rows (cut_of (2 ^ k)) (labels_of (2 ^ k))))
unfolding cut_of levels_of labels_of first_block last_block
rows_table = tt

-- candidate k of a cut x: it goes from block i to block j
pub record InBlocks (x : Cut) (y : Label) (i j : ℕ) : Type 0 where
  pub begins : y.u * y.r ≡ i * x.size
  pub ends : y.u * y.r + y.r - 1 ≡ j * x.size + (x.size - 1)
  pub copies : y.r ≡ (j + 1 - i) * x.size
  pub first : i < x.many
  pub last : j < x.many

in_blocks_lem : (x : Cut) (y : Label) (i j : ℕ) → T (in_blocks x y i j) → InBlocks x y i j
in_blocks_lem x y i j t =
    let b : Bool = eqb (y.u * y.r) (i * x.size) in
    let e : Bool = eqb (y.u * y.r + y.r - 1) (j * x.size + (x.size - 1)) in
    let r : Bool = eqb y.r ((j + 1 - i) * x.size) in
    let p = parts (b && e) (r && (ltb i x.many && ltb j x.many)) t in
    let q = parts b e p.0 in
    let s = parts r (ltb i x.many && ltb j x.many) p.1 in
    let w = parts (ltb i x.many) (ltb j x.many) s.1 in
    record {
      begins = eqb→eq (y.u * y.r) (i * x.size) q.0;
      ends = eqb→eq (y.u * y.r + y.r - 1) (j * x.size + (x.size - 1)) q.1;
      copies = eqb→eq y.r ((j + 1 - i) * x.size) s.0;
      first = ltb→lt i x.many w.0;
      last = ltb→lt j x.many w.1;
    }

module _ (rmax : ℕ) (h : is_repetition rmax ≡ true) where
  abbrev x : Cut
  x = cut_of rmax

  abbrev labels : List Label
  labels = labels_of rmax

  abbrev in_row : ℕ → Bool
  in_row k = in_blocks x (label_at labels k) (first_block x.row k) (last_block x.row k)

  sized : T (eqb (length labels) x.count && leb x.count 15) × T (each x.count in_row)
  sized =
      parts (eqb (length labels) x.count && leb x.count 15) (each x.count in_row)
      (at_rmax (λ rmax. in_rows (cut_of rmax) (labels_of rmax)) rows_table rmax h)

  pub counted : (length labels ≡ x.count) × (x.count ≤ 15)
  counted =
      let a = parts (eqb (length labels) x.count) (leb x.count 15) sized.0 in
      (eqb→eq (length labels) x.count a.0, leb→le x.count 15 a.1)

  pub blocked : (k : ℕ) → k < x.count → InBlocks x (label_at labels k) (first_block x.row k) (last_block x.row k)
  blocked k l = in_blocks_lem x (label_at labels k) (first_block x.row k) (last_block x.row k) (each_at x.count in_row sized.1 k l)

-- ---- what stands in the rows

abbrev in_order : ℕ → ℕ → Bool
in_order row k = leb (first_block row k) (last_block row k) && ltb (last_block row k) 8

order_table : T (each 4 (λ row. each 15 (in_order row)))
unfolding first_block last_block
order_table = tt

pub in_order_lem : (row k : ℕ) → row < 4 → k < 15 → (first_block row k ≤ last_block row k) × (last_block row k < 8)
in_order_lem row k h l =
    let p = parts (leb (first_block row k) (last_block row k)) (ltb (last_block row k) 8)
    (each_at 15 (in_order row) (each_at 4 (λ row. each 15 (in_order row)) order_table row h) k l) in
    (leb→le (first_block row k) (last_block row k) p.0, ltb→lt (last_block row k) 8 p.1)

pub doubled_bound : (k : ℕ) → k < 8 → entry doubled_g k ≤ 128
doubled_bound k h = leb→le (entry doubled_g k) 128 (each_at 8 (λ k. leb (entry doubled_g k) 128) tt k h)
