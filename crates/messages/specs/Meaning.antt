-- What 02 says of a window, word for word: "a copy begins at every such frame counted from its start. Each copy, in
-- order, takes the first 2 or 8 subframes still free from there, and stops at the window's end." The definitions in
-- Messages keep one count instead; proofs/Meaning shows that what remains after an entry is the same.
use Rattle.std.specs.Prelude.{Bool, true, false, not, ◌&&◌, ◌≡◌, ℕ, zero, suc, ◌+◌, ◌*◌, ◌/◌, ◌%◌, ◌<◌, ltb}
use Rattle.counting.specs.Counting.{among_first}
use Rattle.messages.specs.declared.Schedule.{Schedule}
use Rattle.messages.specs.declared.Messages.{Messages}
use Rattle.messages.specs.Messages.{all_periods, opens_at, is_read, remains, after1, after2, after3}

-- of a window of `length` subframes, free before its first copy: what is still free after the first n copies. Copy n,
-- from 0, takes the first `size` still free from subframe n * step on, and none past the window's end
unfoldable pub still_free : ℕ → ℕ → ℕ → (ℕ → Bool) → ℕ → ℕ → Bool
still_free length step size free zero x = free x
still_free length step size free (suc n) x =
    let before = still_free length step size free n in
    before x && not (ltb x length && among_first before (n * step) size x)

-- a window of entry j opens in subframe o
pub record Opens (ms : Messages) (j : ℕ) (s : Schedule) (o : ℕ) : Type 0 where
  pub begins : o % 10 ≡ 0
  pub there : o / 10 % s.period ≡ opens_at ms j s

-- t is subframe x of the window that opened in subframe o; all is counted 40,960 subframes on, so that o may lie
-- before 0
pub record InWindow (ms : Messages) (j : ℕ) (s : Schedule) (t o x : ℕ) : Type 0 where
  pub opens : Opens ms j s o
  pub inside : x < ms.window
  pub place : o + x ≡ t + all_periods

-- what remains after entry j, of which as many copies begin as its window has room for
pub record Meant (ms : Messages) (j : ℕ) (s : Schedule) (u : ℕ → Bool) : Type 0 where
  pub in_window : (t o x : ℕ) → InWindow ms j s t o x
      → remains ms j s u t
      ≡ still_free ms.window (10 * s.every) s.size (λ y. u (o + y)) (ms.window / (10 * s.every)) x
  pub elsewhere : (t : ℕ) → ((o x : ℕ) → InWindow ms j s t o x → ⊥) → remains ms j s u t ≡ u t

-- one that is not read takes nothing
pub record LaidBy (ms : Messages) (j : ℕ) (s : Schedule) (u : ℕ → Bool) : Type 0 where
  pub read : is_read ms j ≡ true → Meant ms j s u
  pub unread : is_read ms j ≡ false → (t : ℕ) → remains ms j s u t ≡ u t

-- "Each schedule is laid over what the anchor and bitmap allow, earlier entries first": each over what the earlier
-- ones leave of u
pub record AllLaid (ms : Messages) (u : ℕ → Bool) : Type 0 where
  pub first : LaidBy ms 1 ms.s1 u
  pub second : LaidBy ms 2 ms.s2 (after1 ms u)
  pub third : LaidBy ms 3 ms.s3 (after2 ms u)
  pub fourth : LaidBy ms 4 ms.s4 (after3 ms u)
