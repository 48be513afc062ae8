-- Counting and selecting the numbers that pass a test. The test is any u: usable subframes, available slots, eligible
-- elements.
use Rattle.std.specs.Prelude.{Bool, true, false, ◌&&◌, ℕ, zero, suc, ◌+◌, ◌-◌, leb, ltb}
use mir.Val.{bool_byte}

-- how many numbers below t pass (bool_byte is 1 for true, 0 for false)
unfoldable pub rank : (ℕ → Bool) → ℕ → ℕ
rank u zero = 0
rank u (suc t) = rank u t + bool_byte (u t)

-- how many of the n numbers from f on pass
unfoldable pub count : (ℕ → Bool) → ℕ → ℕ → ℕ
count u f zero = 0
count u f (suc n) = bool_byte (u f) + count u (suc f) n

-- the first that passes from f on, looked for among d numbers
unfoldable pub next : (ℕ → Bool) → ℕ → ℕ → ℕ
next u zero f = f
next u (suc d) f = elim (u f) [ true ↦ f | false ↦ next u d (suc f) ]

-- the j-th that passes from f on, counted from 0, each looked for among d numbers
unfoldable pub select : (ℕ → Bool) → ℕ → ℕ → ℕ → ℕ
select u d f zero = next u d f
select u d f (suc j) = next u d (suc (select u d f j))

-- t is one of the first K that pass from f on
unfoldable pub among_first : (ℕ → Bool) → ℕ → ℕ → ℕ → Bool
among_first u f K t = leb f t && (u t && ltb (count u f (t - f)) K)

-- x is one of the n numbers from a on
abbrev pub in_range : ℕ → ℕ → ℕ → Bool
in_range a n x = leb a x && ltb x (a + n)
