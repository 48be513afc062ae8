-- One window: in a stretch in which no copy begins but at its start, what is wanted goes first, and the rest is remaining.
use mathlib.Core.Bool.{Bool, true, false, not, ◌&&◌}
use mathlib.Core.Path.{◌≡◌, refl, sym, ap}
use Prim.Native.Nat.{ℕ, zero, suc, ◌+◌, ◌-◌, ◌≤◌, ◌<◌}
use native.Mathlib.Nat.{add-zero, add-suc}
use native.Mathlib.Omega.{arith}
use lib.Dec.{ltb}
use mir.Val.{bool_byte}
use borrow.Author.Tests.{lt-ltb, le-ltb}
use mathlib.Core.Logic.{⊎_elim}
use Rattle.counting.specs.Counting.{rank, count}
use Rattle.counting.proofs.Facts.{order}
use Rattle.counting.proofs.Rank.{rank_suc, rank_count, rank_mono}
use Rattle.messages.specs.Messages.{begun, wants, takes}

pub and_true : (b : Bool) → (b && not false) ≡ b
and_true true = refl
and_true false = refl

-- one more of a stretch
pub count_last : (u : ℕ → Bool) (t y : ℕ) → count u t (suc y) ≡ count u t y + bool_byte (u (t + y))
count_last u t y = omega (arith, rank_count u y t, rank_count u (suc y) t, ap (rank u) (add-suc t y), rank_suc u (t + y))

-- one more of c that are free: b wanted ones go first
kept : (b : Bool) (w c n : ℕ) → w ≡ n - c → c + bool_byte b - n ≡ c - n + bool_byte (b && not (b && ltb 0 w))
kept false w c n e = omega arith
kept true w c n e =
    ⊎_elim (λ l. rw (lt-ltb 0 w l) (omega arith)) (λ l. rw (le-ltb 0 w l) (omega arith)) (order 0 w)

-- one more subframe, of which w are wanted: it remains, or is one that is not wanted any more
gone : (b : Bool) (w : ℕ) → bool_byte (b && not (b && ltb 0 w)) + w ≡ bool_byte b + (w - bool_byte b)
gone false w = omega arith
gone true w = ⊎_elim (λ l. rw (lt-ltb 0 w l) (omega arith)) (λ l. rw (le-ltb 0 w l) (omega arith)) (order 0 w)

module _ (step size : ℕ) (free : ℕ → Bool) where
  -- subframe x is remaining
  abbrev pub untaken : ℕ → Bool
  untaken x = free x && not (takes step size free x)

  pub wants_suc : (x : ℕ) → wants step size free (suc x) ≡ wants step size free x + begun step size x - bool_byte (free x)
  unfolding wants
  wants_suc x = refl

  -- what all copies want that begin before subframe x
  unfoldable pub all_begun : ℕ → ℕ
  all_begun zero = 0
  all_begun (suc x) = all_begun x + begun step size x

  -- of the first x subframes those that are free remain, or went to what is not wanted any more
  pub all_counted : (x : ℕ) → rank untaken x + all_begun x ≡ rank free x + wants step size free x
  unfolding all_begun rank wants
  all_counted zero = refl
  all_counted (suc x) =
      omega (arith, all_counted x, gone (free x) (wants step size free x + begun step size x))

  module _ (x n : ℕ) (calm : (i : ℕ) → 0 < i → i < n → begun step size (x + i) ≡ 0) where
    abbrev pub here : ℕ
    here = wants step size free x + begun step size x

    -- what is wanted at each subframe of the stretch
    pub wants_now : (y : ℕ) → y < n → wants step size free (x + y) + begun step size (x + y) ≡ here - (rank free (x + y) - rank free x)
    wants_now zero l = rw (add-zero x) (omega arith)
    wants_now (suc y) l =
        omega (
          arith,
          wants_now y (omega arith),
          ap (wants step size free) (add-suc x y),
          wants_suc (x + y),
          calm (suc y) (omega arith) l,
          ap (rank free) (add-suc x y),
          rank_suc free (x + y),
          rank_mono free x (x + y) (omega arith),
        )

    -- and after it
    pub wants_then : 0 < n → wants step size free (x + n) ≡ here - (rank free (x + n) - rank free x)
    wants_then h =
        let e : suc (x + (n - 1)) ≡ x + n = omega arith in
        omega (
          arith,
          wants_now (n - 1) (omega arith),
          ap (wants step size free) (sym e),
          wants_suc (x + (n - 1)),
          ap (rank free) (sym e),
          rank_suc free (x + (n - 1)),
          rank_mono free x (x + (n - 1)) (omega arith),
        )

    -- what is remaining of the stretch's first y subframes
    pub untaken_on : (y : ℕ) → y ≤ n → rank untaken (x + y) ≡ rank untaken x + (rank free (x + y) - rank free x - here)
    untaken_on zero l = rw (add-zero x) (omega arith)
    untaken_on (suc y) l =
        omega (
          arith,
          untaken_on y (omega arith),
          ap (rank untaken) (add-suc x y),
          rank_suc untaken (x + y),
          ap (rank free) (add-suc x y),
          rank_suc free (x + y),
          rank_mono free x (x + y) (omega arith),
          kept (free (x + y)) (wants step size free (x + y) + begun step size (x + y)) (rank free (x + y) - rank free x) here (wants_now y (omega arith)),
        )
