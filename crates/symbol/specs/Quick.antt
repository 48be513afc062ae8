-- For the code alone. What the quick code's own functions say.
use Rattle.std.specs.Prelude.{true, false, List, [], ◌∷◌, ℕ, ◌+◌, ◌*◌, Float, get_or}
use Rattle.std.specs.Float.{nan}
use mir.Val.{bool_byte}
use Rattle.counting.specs.Bits.{bit_of}
use Rattle.symbol.specs.declared.Symbol.{Symbol}
use Rattle.symbol.specs.Scaffold.{qpsk_of}
use Rattle.symbol.specs.Outgoing.{plus_zero}

-- the four symbols at a level, by their two bits
abbrev pub symbols_of : Float → List Symbol
symbols_of level =
    qpsk_of false false level ∷ qpsk_of false true level ∷ qpsk_of true false level ∷ qpsk_of true true level ∷ []

-- what is written where nothing goes out
abbrev pub silence : Symbol
silence = record { re = plus_zero; im = plus_zero }

-- of four symbols, the one of bits 2c and 2c + 1 (unset: where there are fewer)
abbrev pub unset : Symbol
unset = record { re = nan; im = nan }

unfoldable pub picked_of : List Symbol → List ℕ → ℕ → Symbol
picked_of four bits c = get_or four (2 * bool_byte (bit_of bits (2 * c)) + bool_byte (bit_of bits (2 * c + 1))) unset
