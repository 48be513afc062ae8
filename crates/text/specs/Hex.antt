-- For the code alone. Bytes in hex.
use Rattle.std.specs.Prelude.{cond, ◌&&◌, List, [], ◌∷◌, ℕ, ◌+◌, ◌*◌, ◌-◌, leb, length, Option, Some, None}
use Rattle.std.specs.Prelude.{Result, Ok, Err}
use Rattle.text.specs.declared.hex.HexError.{HexError}
use Rattle.text.specs.declared.hex.HexError.TheVariants.{NotHex, TooLong}

-- a hex digit's number, in either case
unfoldable pub digit_of : ℕ → Option ℕ
digit_of b =
    cond (leb 48 b && leb b 57) (Some (b - 48))
    (cond (leb 97 b && leb b 102) (Some (b - 87))
    (cond (leb 65 b && leb b 70) (Some (b - 55)) None))

-- the byte of two digits' numbers, where both are there
unfoldable pub both : Option ℕ → Option ℕ → Option ℕ
both (Some high) (Some low) = Some (16 * high + low)
both high low = None

-- the byte of two digits
unfoldable pub pair_of : ℕ → ℕ → Option ℕ
pair_of high low = both (digit_of high) (digit_of low)

-- a byte and those after it, where all are there
unfoldable pub before : Option ℕ → Option (List ℕ) → Option (List ℕ)
before (Some byte) (Some bytes) = Some (byte ∷ bytes)
before byte bytes = None

-- the bytes of pairs of digits
unfoldable pub pairs_of : List ℕ → Option (List ℕ)
pairs_of [] = Some []
pairs_of (a ∷ []) = None
pairs_of (a ∷ b ∷ s) = before (pair_of a b) (pairs_of s)

-- the bytes of a text, at least one
unfoldable pub bytes_of : List ℕ → Option (List ℕ)
bytes_of [] = None
bytes_of (a ∷ s) = pairs_of (a ∷ s)

-- at most n bytes; what is no hex is told before what is too long
unfoldable pub within : ℕ → Option (List ℕ) → Result (List ℕ) HexError
within n None = Err NotHex
within n (Some bytes) = cond (leb (length bytes) n) (Ok bytes) (Err TooLong)
