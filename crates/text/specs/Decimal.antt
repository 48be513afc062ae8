-- For the code alone. A number from its decimal digits.
use Rattle.std.specs.Prelude.{Bool, true, cond, not, ◌&&◌, List, [], ◌∷◌, ℕ, ◌+◌, ◌*◌, ◌-◌, eqb}
use Rattle.std.specs.Prelude.{leb, ltb, length, Option, Some, None}

-- the bytes of the digits 0 to 9
unfoldable pub is_digit : ℕ → Bool
is_digit b = leb 48 b && leb b 57

-- every byte is a digit
unfoldable pub all_digits : List ℕ → Bool
all_digits [] = true
all_digits (b ∷ s) = is_digit b && all_digits s

-- the number x with the digits s after its own
unfoldable pub followed_by : ℕ → List ℕ → ℕ
followed_by x [] = x
followed_by x (b ∷ s) = followed_by (x * 10 + (b - 48)) s

-- at least one digit, nothing else, and a number below 2^64
unfoldable pub decimal_of : List ℕ → Option ℕ
decimal_of s =
    let x = followed_by 0 s in
    cond (not (eqb (length s) 0) && (all_digits s && ltb x 18446744073709551616)) (Some x) None
