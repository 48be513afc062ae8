-- Of the four symbols at a level, the one that is looked up is that of the two bits.
use mathlib.Core.Bool.{Bool, true, false}
use mathlib.Core.List.{List}
use mathlib.Core.Path.{◌≡◌, refl, ap, ◌∙◌}
use Prim.Native.Nat.{ℕ, ◌+◌, ◌*◌}
use lib.Ieee.{Float}
use lib.ListN.{get_or}
use mir.Val.{bool_byte}
use Rattle.counting.specs.Bits.{bit_of}
use Rattle.symbol.specs.declared.Symbol.{Symbol}
use Rattle.symbol.specs.Symbol.{symbol_of}
use Rattle.symbol.specs.Scaffold.{qpsk_of}
use Rattle.symbol.specs.Quick.{symbols_of, unset, picked_of}

by_bits : (a b : Bool) (level : Float) → get_or (symbols_of level) (2 * bool_byte a + bool_byte b) unset ≡ qpsk_of a b level
by_bits true true level = refl
by_bits true false level = refl
by_bits false true level = refl
by_bits false false level = refl

pub picked : (bits : List ℕ) (level : Float) (c : ℕ) (four : List Symbol) → four ≡ symbols_of level → picked_of four bits c ≡ symbol_of bits level c
unfolding picked_of symbol_of
picked bits level c four e =
    ap (λ (x : List Symbol). get_or x (2 * bool_byte (bit_of bits (2 * c)) + bool_byte (bit_of bits (2 * c + 1))) unset) e
    ∙ by_bits (bit_of bits (2 * c)) (bit_of bits (2 * c + 1)) level
