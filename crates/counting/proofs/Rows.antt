-- Numbers in rows of T: where a number passes by its row and by its place in the row.
use mathlib.Core.Bool.{Bool, true, false, ◌&&◌}
use mathlib.Core.Path.{◌≡◌, refl, sym, ap, ◌∙◌}
use Prim.Native.Nat.{ℕ, zero, suc, ◌+◌, ◌*◌, ◌≤◌, ◌<◌}
use native.Mathlib.Nat.{zero-add, zero-mul, one-mul, suc-mul, add-mul}
use native.Mathlib.Omega.{arith}
use mir.Val.{bool_byte}
use Rattle.counting.specs.Counting.{rank, count}
use Rattle.counting.proofs.Rank.{rank_zero, rank_suc, rank_none, rank_count, count_same, count_from_zero}

-- a test that also asks b
rank_and : (v : ℕ → Bool) (b : Bool) (k : ℕ) → rank (λ i. b && v i) k ≡ bool_byte b * rank v k
rank_and v true k = sym (one-mul (rank v k))
rank_and v false k =
    ap (rank (λ i. false)) (sym (zero-add k)) ∙ rank_none (λ i. false) 0 k (λ i p q. refl) ∙ rank_zero (λ i. false) ∙ sym (zero-mul (rank v k))

module _ (T : ℕ) (u row col : ℕ → Bool) (cell : (l k : ℕ) → k < T → u (l * T + k) ≡ (row l && col k)) where
  in_row : (l k : ℕ) → k ≤ T → count u (l * T) k ≡ bool_byte (row l) * rank col k
  in_row l k h =
      count_same u (λ i. row l && col i) k (l * T) 0 (λ i p. cell l i (omega arith) ∙ ap (λ (x : ℕ). row l && col x) (sym (zero-add i)))
      ∙ count_from_zero (λ i. row l && col i) k ∙ rank_and col (row l) k

  whole_rows : (l : ℕ) → rank u (l * T) ≡ rank row l * rank col T
  whole_rows zero =
      ap (rank u) (zero-mul T) ∙ rank_zero u ∙ sym (ap (λ (x : ℕ). x * rank col T) (rank_zero row) ∙ zero-mul (rank col T))
  whole_rows (suc l) =
      ap (rank u) (suc-mul l T)
      ∙ omega (
        arith,
        rank_count u T (l * T),
        in_row l T (omega arith),
        whole_rows l,
        ap (λ (x : ℕ). x * rank col T) (rank_suc row l),
        add-mul (rank row l) (bool_byte (row l)) (rank col T),
      )

  pub rank_rows : (l k : ℕ) → k ≤ T → rank u (l * T + k) ≡ rank row l * rank col T + bool_byte (row l) * rank col k
  rank_rows l k h = omega (arith, rank_count u k (l * T), in_row l k h, whole_rows l)
