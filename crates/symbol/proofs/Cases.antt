-- The ends of the level's range, and the four symbols of one byte.
use mathlib.Core.Bool.{Bool, true, false}
use mathlib.Core.List.{[], ◌∷◌}
use mathlib.Core.Path.{◌≡◌, refl}
use Prim.Native.Nat.{ℕ}
use lib.Ieee as Ieee
use lib.Ieee.{Float, nan, binary32}
use Rattle.symbol.specs.Symbol.{symbol_of, level_in_range}
use Rattle.symbol.specs.Scaffold.{qpsk_of}

abbrev accepted : ℕ → Bool
accepted pattern = level_in_range (Ieee.of_bits binary32 pattern)

pub record Levels : Type 0 where
  pub lowest : accepted 0x35800000 ≡ true
  pub highest : accepted 0x49800000 ≡ true
  pub below_lowest : accepted 0x357fffff ≡ false
  pub above_highest : accepted 0x49800001 ≡ false
  pub minus_one : accepted 0xbf800000 ≡ false
  pub infinite : accepted 0x7f800000 ≡ false
  pub not_a_number : level_in_range nan ≡ false

pub levels : Levels
unfolding level_in_range Ieee.le Ieee.lt Ieee.eq Ieee.of_bits Ieee.of_fields
levels = record {
  lowest = refl;
  highest = refl;
  below_lowest = refl;
  above_highest = refl;
  minus_one = refl;
  infinite = refl;
  not_a_number = refl;
}

-- 0x1b: bits 00, 01, 10, 11
pub record Symbols (level : Float) : Type 0 where
  pub both : symbol_of (0x1b ∷ []) level 0 ≡ qpsk_of false false level
  pub minus_imaginary : symbol_of (0x1b ∷ []) level 1 ≡ qpsk_of false true level
  pub minus_real : symbol_of (0x1b ∷ []) level 2 ≡ qpsk_of true false level
  pub minus_both : symbol_of (0x1b ∷ []) level 3 ≡ qpsk_of true true level

pub symbols : (level : Float) → Symbols level
unfolding symbol_of
symbols level = record { both = refl; minus_imaginary = refl; minus_real = refl; minus_both = refl }
