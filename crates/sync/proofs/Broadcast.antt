-- The subframes of NPBCH and of SIB1: they repeat, and how many a period has.
use mathlib.Core.Path.{◌≡◌, refl, sym, ap, ◌∙◌}
use Prim.Native.Nat.{ℕ, zero, suc, ◌+◌, ◌*◌, ◌%◌, ◌<◌}
use native.Mathlib.Nat.{mod-eq_of_lt}
use native.Mathlib.Omega.{arith}
use lib.Dec.{T, eqb, eqb→eq}
use Rattle.counting.specs.Counting.{rank}
use Rattle.counting.proofs.Facts.{each, each_at}
use Rattle.counting.proofs.Rank.{rank_same}
use Rattle.counting.proofs.Period.{rank_whole}
use Rattle.sync.specs.Sync.{npbch, by_schedule, sib1_copies, sib1}
use Rattle.sync.proofs.Taken.{sib1_mod}

-- ---- NPBCH

-- 64 frames
pub npbch_again : (t : ℕ) → npbch (t + 640) ≡ npbch t
npbch_again t = let e : (t + 640) % 10 ≡ t % 10 = omega arith in rw e refl

pub npbch_rank : rank npbch 640 ≡ 64
unfolding rank
npbch_rank = refl

-- ---- SIB1

sib1_short : (a k t : ℕ) → sib1 a k (t + 640) ≡ sib1 a k t
sib1_short a k t =
    let e : (t + 640) % 640 ≡ t % 640 = omega arith in
    sib1_mod a k (t + 640) ∙ ap (sib1 (a % 4) (k % 3)) e ∙ sym (sib1_mod a k t)

-- 256 frames
pub sib1_again : (a k t : ℕ) → sib1 a k (t + 2560) ≡ sib1 a k t
sib1_again a k t =
    let e : t + 2560 ≡ t + 640 + 640 + 640 + 640 = omega arith in
    ap (sib1 a k) e ∙ sib1_short a k (t + 640 + 640 + 640) ∙ sib1_short a k (t + 640 + 640) ∙ sib1_short a k (t + 640) ∙ sib1_short a k t

rank_table : T (each 4 (λ a. each 3 (λ k. eqb (rank (sib1 a k) 640) (by_schedule k 8 16 32))))
unfolding rank
rank_table = tt

rank_at : (a k : ℕ) → a < 4 → k < 3 → rank (sib1 a k) 640 ≡ by_schedule k 8 16 32
rank_at a k ha hk =
    eqb→eq (rank (sib1 a k) 640) (by_schedule k 8 16 32)
    (each_at 3 (λ k. eqb (rank (sib1 a k) 640) (by_schedule k 8 16 32))
    (each_at 4 (λ a. each 3 (λ k. eqb (rank (sib1 a k) 640) (by_schedule k 8 16 32))) rank_table a ha) k hk)

four_times : (r : ℕ) → r < 3 → 4 * by_schedule r 8 16 32 ≡ by_schedule r 4 8 16 * 8
four_times zero h = refl
four_times (suc zero) h = refl
four_times (suc (suc zero)) h = refl
four_times (suc (suc (suc r))) h = absurd (omega arith)

-- each copy has eight
pub sib1_rank : (a k : ℕ) → rank (sib1 a k) 2560 ≡ sib1_copies k * 8
sib1_rank a k =
    let e : rank (sib1 a k) 640 ≡ rank (sib1 (a % 4) (k % 3)) 640 =
    rank_same (sib1 a k) (sib1 (a % 4) (k % 3)) 640 (λ t h. sib1_mod a k t ∙ ap (sib1 (a % 4) (k % 3)) (mod-eq_of_lt h)) in
    rank_whole (sib1 a k) 640 (sib1_short a k) 4
    ∙ ap (λ (x : ℕ). 4 * x) (e ∙ rank_at (a % 4) (k % 3) (omega arith) (omega arith)) ∙ four_times (k % 3) (omega arith)
