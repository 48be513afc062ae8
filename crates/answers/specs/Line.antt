-- For the code alone. The text of numbers and of bytes.
use Rattle.std.specs.Prelude.{ℕ, ◌^◌, ◌-◌, List, [], ◌∷◌, ◌++◌, false, decimal, codes, length, replicate}
use Rattle.std.specs.Fmt.{padded_integral, format_spec, digits}
use Rattle.std.specs.List.{flat_map}

-- numbers, each after its name, and what follows them
abbrev pub values_then : List (List ℕ × ℕ) → List ℕ → List ℕ
values_then [] rest = rest
values_then (value ∷ more) rest = value.0 ++ (decimal value.1 ++ values_then more rest)

-- what each plan's line begins with, and what follows
abbrev pub plan_then : ℕ → ℕ → ℕ → ℕ → ℕ → List ℕ → List ℕ
plan_then number first last copies places rest =
    values_then
    ((codes "no=", number) ∷ (codes " first=", first) ∷ (codes " last=", last) ∷ (codes " copies=", copies) ∷
    (codes " places=", places) ∷ [])
    rest

-- where an element stands, and what follows
abbrev pub place_then : ℕ → ℕ → ℕ → ℕ → List ℕ → List ℕ
place_then slot l k symbol rest =
    values_then ((codes " slot=", slot) ∷ (codes " l=", l) ∷ (codes " k=", k) ∷ (codes " symbol=", symbol) ∷ []) rest

-- a number at the right of a column so wide: spaces before its digits
abbrev pub aligned : ℕ → ℕ → List ℕ
aligned width n = replicate (width - length (decimal n)) 32 ++ decimal n

-- a number in so many hex digits, in more where it needs them
abbrev pub hex : ℕ → ℕ → List ℕ
hex width x = padded_integral (format_spec 32 0 4 width (2 ^ 64 - 1)) false [] (digits 16 false x)

-- bytes in two hex digits each, a minus for none
abbrev pub hex_of : List ℕ → List ℕ
hex_of [] = codes "-"
hex_of (b ∷ more) = flat_map (λ x. hex 2 x) (b ∷ more)
