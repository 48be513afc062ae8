-- The bitmap of usable subframes: 01 "The cell".
use Rattle.std.specs.Prelude.{Bool, true, cond, not, ◌&&◌, ◌||◌, List, ℕ, ◌%◌, eqb, ltb, length, get_or}
use Rattle.counting.specs.Bits.{bit_of}

-- 0, 2 or 5 bytes for 0, 10 or 40 bits; other lengths are refused
unfoldable pub bytes_of : ℕ → ℕ
bytes_of bits = cond (eqb bits 0) 0 (cond (eqb bits 10) 2 5)

unfoldable pub listed_length : ℕ → Bool
listed_length bits = eqb bits 0 || (eqb bits 10 || eqb bits 40)

-- for 10 bits, the low six bits of byte 1 are set
abbrev pub spare_set : ℕ → List ℕ → Bool
spare_set bits b = eqb bits 10 && not (eqb (get_or b 1 0 % 64) 0)

-- length not listed, buffer too short, or spare bits set
unfoldable pub bad_bitmap : ℕ → List ℕ → Bool
bad_bitmap bits own = not (listed_length bits) || (ltb (length own) (bytes_of bits) || spare_set bits own)

-- bit t mod 10, or t mod 40, allows subframe t; length 0 allows all
unfoldable pub allowed : List ℕ → ℕ → ℕ → Bool
allowed b bits t = cond (eqb bits 0) true (bit_of b (t % bits))
