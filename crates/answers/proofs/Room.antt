-- How long the text of a number is, and how long a text is to which it was added.
use Rattle.std.proofs.Common.{◌≡◌, ℕ, zero, suc, ◌+◌, ◌/◌, ◌%◌, ◌^◌, ◌<◌, ◌≤◌, true, false, eqb, ⊎_elim, ap}
use Rattle.std.proofs.Common.{List, [], ◌∷◌, ◌++◌, length, length-append, decimal, OnOk, Result, Ok, Err, arith}
use Rattle.std.proofs.lemmas.Bool.{cases_lt, eq-eqb, ne_eqb}
use Rattle.std.proofs.lemmas.Fmt.{length-decimal-le}
use Rattle.std.proofs.lemmas.List.{length-replicate}
use Rattle.std.proofs.lemmas.Str.{IsUtf8-from_ascii}
use Rattle.std.proofs.Math.Nat.{pow-suc}
use Rattle.std.specs.Fmt.{padded_integral, digits, digits_onto, digit_glyph, char_count}
use Rattle.answers.specs.Line.{hex}

pub decimal_short : (n : ℕ) → n < 2 ^ 64 → length (decimal n) ≤ 20
decimal_short n h = length-decimal-le 20 n (omega arith) (omega arith) h

-- no more hex digits are put before the others than the number has
digits_onto_short : (k j n : ℕ) (acc : List ℕ) → n < 16 ^ suc j →
    length (digits_onto k 16 false n acc) ≤ suc j + length acc
digits_onto_short zero j n acc h = omega arith
digits_onto_short (suc k) zero n acc h =
    let last : eqb (n / 16) 0 ≡ true = eq-eqb (n / 16) 0 (omega arith) in rw last (omega arith)
digits_onto_short (suc k) (suc j) n acc h =
    ⊎_elim
    (λ (small : n < 16). let last : eqb (n / 16) 0 ≡ true = eq-eqb (n / 16) 0 (omega arith) in rw last (omega arith))
    (λ (large : 16 ≤ n).
    let more : eqb (n / 16) 0 ≡ false = ne_eqb (n / 16) 0 (λ e. omega arith) in
    let front : n / 16 < 16 ^ suc j = omega (arith, pow-suc 16 (suc j)) in
    rw more (omega (arith, digits_onto_short k j (n / 16) (digit_glyph false (n % 16) ∷ acc) front)))
    (cases_lt n 16)

digits_short : (j n : ℕ) → n < 16 ^ suc j → length (digits 16 false n) ≤ suc j
unfolding digits
digits_short j n h = omega (arith, digits_onto_short 64 j n [] h)

-- a number that fits its width in hex has just that width
hex_short : (j n : ℕ) → n < 16 ^ suc j → length (hex (suc j) n) ≤ suc j
unfolding padded_integral char_count
hex_short j n h = simp (length-append, length-replicate) (omega (arith, digits_short j n h))

pub word_short : (n : ℕ) → n < 2 ^ 32 → length (hex 8 n) ≤ 8
word_short n h = hex_short 7 n (omega arith)

pub byte_short : (n : ℕ) → n < 256 → length (hex 2 n) ≤ 2
byte_short n h = hex_short 1 n (omega arith)

-- a text grew by no more than what was added to it
pub room : {T E : Type 0} (r : Result T E) (old new text : List ℕ) (n : ℕ) → OnOk r (new ≡ old ++ text) →
    length text ≤ n → OnOk r (length new ≤ length old + n)
room (Ok x) old new text n e h = omega (arith, length-append {A = ℕ}, ap length e)
room (Err x) old new text n e h = e

pub ruleset rooms = (room, length-append, decimal_short, word_short, byte_short, IsUtf8-from_ascii)
