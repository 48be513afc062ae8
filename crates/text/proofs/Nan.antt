-- The one NaN, and its pattern.
use mathlib.Core.Path.{◌≡◌, refl}
use mathlib.Core.Bool.{true}
use lib.Ieee.{Float, nan, inf, fin, binary32, of_fields, of_bits, to_bits, is_nan}

pub is_the_nan : (x : Float) → is_nan x ≡ true → nan ≡ x
unfolding is_nan
is_the_nan nan e = refl
is_the_nan (inf s) e = cc
is_the_nan (fin s m e) h = cc

pub of_pattern : of_bits binary32 0x7fc0_0000 ≡ nan
unfolding of_bits of_fields
of_pattern = refl

pub pattern : 0x7fc0_0000 ≡ to_bits binary32 nan
unfolding to_bits
pattern = refl
