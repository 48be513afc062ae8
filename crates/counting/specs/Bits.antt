-- The binary digits of a number, the lowest first.
use Rattle.std.specs.Prelude.{Bool, false, ◌||◌, get_or, List, ℕ, zero, suc, ◌/◌, ◌%◌, ◌^◌, ◌-◌, eqb}

-- digit i of m is 1
abbrev pub bit_at : ℕ → ℕ → Bool
bit_at m i = eqb (m / 2 ^ i % 2) 1

-- x is one of 2^0 to 2^(n - 1)
abbrev pub power_below : ℕ → ℕ → Bool
power_below zero x = false
power_below (suc n) x = eqb x (2 ^ n) || power_below n x

-- bit i of bytes b, the first bit the highest of byte 0
abbrev pub bit_of : List ℕ → ℕ → Bool
bit_of b i = bit_at (get_or b (i / 8) 0) (7 - i % 8)
