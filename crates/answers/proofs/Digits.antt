-- The digits of a number in hex, one by one, as `hex` of specs/Line.antt has them.
use Rattle.std.proofs.Common.{◌≡◌, refl, sym, ap, ◌∙◌, ℕ, zero, suc, ◌+◌, ◌*◌, ◌-◌, ◌/◌, ◌%◌, ◌^◌, ◌<◌, ◌≤◌, Bool, true, false, eqb}
use Rattle.std.proofs.Common.{List, [], ◌∷◌, ◌++◌, length, get_or, ⊎_elim, arith, T, ◌&&◌, cond, ltb, eqb→eq}
use lib.Ieee.Fits.{and_l, and_r}
use Rattle.std.proofs.lemmas.Bool.{cases_lt, eq-eqb, ne_eqb}
use Rattle.std.proofs.lemmas.List.{replicate-append-replicate, append-nil, append_assoc}
use Rattle.std.proofs.Math.ListN.{replicate}
use Rattle.std.proofs.Math.Nat.{pow-suc}
use Rattle.std.specs.Fmt.{padded_integral, digits, digits_onto, digit_glyph, char_count}
use Rattle.std.specs.Str.{IsAscii}
use Rattle.answers.specs.Line.{hex}
use Rattle.answers.specs.declared.hex.TheConstants.{PAIRS}

-- so many of the last digits, before what stands already
abbrev pub digits_before : ℕ → ℕ → List ℕ → List ℕ
digits_before zero n rest = rest
digits_before (suc k) n rest = digits_before k (n / 16) (digit_glyph false (n % 16) ∷ rest)

zeros_before : (k : ℕ) (rest : List ℕ) → digits_before k 0 rest ≡ replicate k 48 ++ rest
zeros_before zero rest = refl
zeros_before (suc k) rest =
    zeros_before k (48 ∷ rest)
    ∙ sym (append_assoc (replicate k 48) (48 ∷ []) rest)
    ∙ ap (λ l. l ++ rest) (replicate-append-replicate k 1 48 ∙ ap (λ m. replicate m 48) {y = suc k} (omega arith))

-- a number has a digit at least
longer : (k n : ℕ) (rest : List ℕ) → suc (length rest) ≤ length (digits_onto (suc k) 16 false n rest)
longer zero n rest =
    ⊎_elim
    (λ (small : n < 16). let last : eqb (n / 16) 0 ≡ true = eq-eqb (n / 16) 0 (omega arith) in rw last (omega arith))
    (λ (large : 16 ≤ n). let more : eqb (n / 16) 0 ≡ false = ne_eqb (n / 16) 0 (λ e. omega arith) in rw more (omega arith))
    (cases_lt n 16)
longer (suc k) n rest =
    ⊎_elim
    (λ (small : n < 16). let last : eqb (n / 16) 0 ≡ true = eq-eqb (n / 16) 0 (omega arith) in rw last (omega arith))
    (λ (large : 16 ≤ n).
    let more : eqb (n / 16) 0 ≡ false = ne_eqb (n / 16) 0 (λ e. omega arith) in
    rw more (omega (arith, longer k (n / 16) (digit_glyph false (n % 16) ∷ rest))))
    (cases_lt n 16)

-- zeros, and the digits that a number needs: so many digits
filled : (j k n : ℕ) (rest : List ℕ) → j ≤ k → n < 16 ^ suc j →
    replicate (suc j - (length (digits_onto (suc k) 16 false n rest) - length rest)) 48
    ++ digits_onto (suc k) 16 false n rest ≡ digits_before (suc j) n rest
filled zero k n rest le h =
    let last : eqb (n / 16) 0 ≡ true = eq-eqb (n / 16) 0 (omega arith) in
    rw last (let none : 1 - (suc (length rest) - length rest) ≡ 0 = omega arith in rw none refl)
filled (suc j) zero n rest le h = absurd (omega arith)
filled (suc j) (suc k) n rest le h =
    ⊎_elim
    (λ (small : n < 16).
    let last : eqb (n / 16) 0 ≡ true = eq-eqb (n / 16) 0 (omega arith) in
    let none : n / 16 ≡ 0 = omega arith in
    let some : suc (suc j) - (suc (length rest) - length rest) ≡ suc j = omega arith in
    rw (last, some) (sym (ap (λ m. digits_before (suc j) m (digit_glyph false (n % 16) ∷ rest)) none
    ∙ zeros_before (suc j) (digit_glyph false (n % 16) ∷ rest))))
    (λ (large : 16 ≤ n).
    let more : eqb (n / 16) 0 ≡ false = ne_eqb (n / 16) 0 (λ e. omega arith) in
    let rest1 : List ℕ = digit_glyph false (n % 16) ∷ rest in
    let all : List ℕ = digits_onto (suc k) 16 false (n / 16) rest1 in
    let front : n / 16 < 16 ^ suc j = omega (arith, pow-suc 16 (suc j)) in
    let count : suc (suc j) - (length all - length rest) ≡ suc j - (length all - length rest1) =
    omega (arith, longer k (n / 16) rest1) in
    rw more (ap (λ m. replicate m 48 ++ all) count ∙ filled j k (n / 16) rest1 (omega arith) front))
    (cases_lt n 16)

-- a number that fits its width in hex is so many digits
hex_digits : (j n : ℕ) → suc j ≤ 64 → n < 16 ^ suc j → hex (suc j) n ≡ digits_before (suc j) n []
unfolding padded_integral char_count digits
hex_digits j n le h =
    let all : List ℕ = digits_onto 64 16 false n [] in
    let same : suc j - length all - 0 - 0 ≡ suc j - (length all - 0) = omega arith in
    rw (append-nil all) (ap (λ m. replicate m 48 ++ all) same ∙ filled j 63 n [] (omega arith) h)

-- the two digits of a byte
abbrev pub pair : ℕ → List ℕ
pair b = digit_glyph false (b / 16) ∷ digit_glyph false (b % 16) ∷ []

pub byte_digits : (n : ℕ) → n < 256 → hex 2 n ≡ pair n
byte_digits n h =
    let high : n / 16 % 16 ≡ n / 16 = omega arith in hex_digits 1 n (omega arith) (omega arith) ∙ rw high refl

pub word_digits : (n : ℕ) → n < 2 ^ 32 →
    hex 8 n ≡ pair (n / 0x100_0000) ++ (pair (n / 0x1_0000 % 0x100) ++ (pair (n / 0x100 % 0x100) ++ pair (n % 0x100)))
word_digits n h =
    let two : n / 16 / 16 ≡ n / 0x100 = omega arith in
    let four : n / 0x100 / 16 / 16 ≡ n / 0x1_0000 = omega arith in
    let six : n / 0x1_0000 / 16 / 16 ≡ n / 0x100_0000 = omega arith in
    let first : n / 0x100_0000 / 16 % 16 ≡ n / 0x100_0000 / 16 = omega arith in
    let third : n / 0x1_0000 / 16 % 16 ≡ n / 0x1_0000 % 0x100 / 16 = omega arith in
    let fourth : n / 0x1_0000 % 16 ≡ n / 0x1_0000 % 0x100 % 16 = omega arith in
    let fifth : n / 0x100 / 16 % 16 ≡ n / 0x100 % 0x100 / 16 = omega arith in
    let sixth : n / 0x100 % 16 ≡ n / 0x100 % 0x100 % 16 = omega arith in
    let seventh : n / 16 % 16 ≡ n % 0x100 / 16 = omega arith in
    let last : n % 16 ≡ n % 0x100 % 16 = omega arith in
    hex_digits 7 n (omega arith) (omega arith)
    ∙ rw (two, four, six, first, third, fourth, fifth, sixth, seventh, last) refl

-- each of the bytes is ASCII, one after the other
abbrev pub EachAscii : List ℕ → Type 0
EachAscii [] = Unit
EachAscii (b ∷ bs) = (b < 128) × EachAscii bs

pub each_ascii : (bs : List ℕ) → EachAscii bs → IsAscii bs
each_ascii [] each i = omega arith
each_ascii (b ∷ bs) each zero = each.0
each_ascii (b ∷ bs) each (suc i) = each_ascii bs each.1 i

-- the first places of the table hold the digits of the first bytes: a test, which computes
abbrev hold_pairs : ℕ → Bool
hold_pairs zero = true
hold_pairs (suc b) =
    eqb (get_or PAIRS (2 * b) 0) (digit_glyph false (b / 16))
    && (eqb (get_or PAIRS (2 * b + 1) 0) (digit_glyph false (b % 16)) && hold_pairs b)

held : (n b : ℕ) → T (hold_pairs n) → b < n →
    (get_or PAIRS (2 * b) 0 ≡ digit_glyph false (b / 16)) × (get_or PAIRS (2 * b + 1) 0 ≡ digit_glyph false (b % 16))
held zero b t h = absurd (omega arith)
held (suc n) b t h =
    ⊎_elim
    (λ (below : b < n). held n b (and_r _ (hold_pairs n) (and_r _ (_ && hold_pairs n) t)) below)
    (λ (top : n ≤ b).
    let e : b ≡ n = omega arith in
    rw e (eqb→eq _ _ (and_l _ (_ && hold_pairs n) t), eqb→eq _ _ (and_l _ (hold_pairs n) (and_r _ (_ && hold_pairs n) t))))
    (cases_lt b n)

pub held_pair : (b : ℕ) → b < 256 →
    (get_or PAIRS (2 * b) 0 ≡ digit_glyph false (b / 16)) × (get_or PAIRS (2 * b + 1) 0 ≡ digit_glyph false (b % 16))
held_pair b h = held 256 b tt h

pub glyph_ascii : (d : ℕ) → d < 16 → digit_glyph false d < 128
glyph_ascii d h = either (ltb d 10)
  where
    either : (b : Bool) → cond b (48 + d) (87 + d) < 128
    either true = omega arith
    either false = omega arith
