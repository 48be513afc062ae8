-- QPSK symbols and the level: 01 "Questions" (fill) and refusal 16; TS 36.211 clause 7.1.2.
use Rattle.std.specs.Prelude.{Bool, true, false, ◌&&◌, List, ℕ, ◌+◌, ◌*◌, Float}
use Rattle.std.specs.Float.Ieee as Ieee
use Rattle.std.specs.Float.{binary32}
use Rattle.counting.specs.Bits.{bit_of}
use Rattle.symbol.specs.declared.Symbol.{Symbol}

-- the level times the f32 with pattern 0x3F3504F3, rounded once to the nearest
abbrev pub size_of : Float → Float
size_of level = Ieee.mul binary32 level (Ieee.of_bits binary32 0x3F3504F3)

-- plus for bit 0, minus for bit 1
abbrev pub signed : Bool → Float → Float
signed false x = x
signed true x = Ieee.neg x

-- symbol c of the codeword: real from bit 2c, imaginary from bit 2c + 1 of the bits, the first bit the highest of
-- byte 0
unfoldable pub symbol_of : List ℕ → Float → ℕ → Symbol
symbol_of bits level c =
    record { re = signed (bit_of bits (2 * c)) (size_of level); im = signed (bit_of bits (2 * c + 1)) (size_of level) }

-- from 2^-20 to 2^20; a comparison with a NaN is false
unfoldable pub level_in_range : Float → Bool
level_in_range level =
    Ieee.le (Ieee.of_bits binary32 0x35800000) level && Ieee.le level (Ieee.of_bits binary32 0x49800000)
