use mathlib.Core.List.{List}
use mathlib.Core.Path.{◌≡◌, refl, ap, ap₂}
use Prim.Native.Nat.{ℕ, zero, suc, ◌+◌, ◌-◌, ◌*◌, ◌/◌, ◌%◌, ◌^◌, ◌<◌}
use native.Mathlib.Omega.{arith}
use lib.Dec.{eqb}
use lib.ListN.{get_or}
use lib.Pow.{shr-shr}
use mir.Val.{bool_byte}
use Rattle.counting.specs.Bits.{bit_at}
use Rattle.counting.specs.Bits.{bit_of}
use Rattle.symbol.specs.Quick.{unset, picked_of}
use Rattle.symbol.proofs.symbol_at.Goals as goal

digit : (d : ℕ) → d < 2 → bool_byte (eqb d 1) ≡ d
digit zero h = refl
digit (suc zero) h = refl
digit (suc (suc d)) h = absurd (omega arith)

two_digits : (b i : ℕ) → b / 2 ^ i % 4 ≡ 2 * bool_byte (bit_at b (i + 1)) + bool_byte (bit_at b i)
two_digits b i = omega (arith, shr-shr b i 1, digit (b / 2 ^ (i + 1) % 2) (omega arith), digit (b / 2 ^ i % 2) (omega arith))

-- bits 2c and 2c + 1 by byte and digit
pair : (bits : List ℕ) (c : ℕ)
    → get_or bits (c / 4) 0 / 2 ^ (6 - 2 * (c % 4)) % 4 ≡ 2 * bool_byte (bit_of bits (2 * c)) + bool_byte (bit_of bits (2 * c + 1))
pair bits c =
    let first : bit_at (get_or bits (c / 4) 0) (6 - 2 * (c % 4) + 1) ≡ bit_of bits (2 * c) = ap₂ (λ (n i : ℕ). bit_at (get_or bits n 0) i) (omega arith) (omega arith) in
    let byte : c / 4 ≡ (2 * c + 1) / 8 = omega arith in
    let second : bit_at (get_or bits (c / 4) 0) (6 - 2 * (c % 4)) ≡ bit_of bits (2 * c + 1) = ap₂ (λ (n i : ℕ). bit_at (get_or bits n 0) i) byte (omega arith) in
    omega (arith, two_digits (get_or bits (c / 4) 0) (6 - 2 * (c % 4)), ap bool_byte first, ap bool_byte second)

pub returns : goal.returns
unfolding picked_of
returns c =
    let a = c.args in
    ap (λ (i : ℕ). get_or a.four i unset) (pair a.bits.now a.c)
