-- Laws of hex digits that are read by pairs.
use Rattle.std.proofs.Common.{◌≡◌, refl, sym, ap, ◌∙◌, ℕ, ◌+◌, ◌*◌, ◌-◌, ◌≤◌, ◌<◌, List, [], ◌∷◌, ◌++◌, length, arith, get_or, drop, take, rules}
use Rattle.std.specs.Prelude.{Option, Some, None, Ok, Err}
use Rattle.std.specs.Option.{option_map}
use Rattle.std.proofs.lemmas.Bool.{cond-true, cond-false, le-leb, lt-leb}
use Rattle.std.proofs.lemmas.List.{append_assoc, append-nil, length-append, length-drop, take_all, take_more_set}
use Rattle.std.proofs.Math.ListN.{set}
use Rattle.text.specs.Hex.{pair_of, before, pairs_of, bytes_of, within}
use Rattle.text.specs.declared.hex.HexError.TheVariants.{NotHex, TooLong}

-- the bytes read of a text, so many, which the room keeps where it is not full
pub record Reads (n : ℕ) (s room : List ℕ) (count : ℕ) (rest : List ℕ) : Type 0 where
  pub front : List ℕ
  pub counted : length front ≡ count
  pub kept : count ≤ n → take count room ≡ front
  pub read : pairs_of s ≡ option_map (λ bs. front ++ bs) (pairs_of rest)

-- nothing is read yet
none_yet : (o : Option (List ℕ)) → o ≡ option_map (λ bs. [] ++ bs) o
none_yet None = refl
none_yet (Some bs) = refl

pub reads_begun : (n : ℕ) (s room : List ℕ) → Reads n s room 0 s
reads_begun n s room = record { front = []; counted = refl; kept = λ _. refl; read = none_yet (pairs_of s) }

-- a pair's byte goes to the end of those read
goes_on : (out : List ℕ) (x : ℕ) (o : Option (List ℕ)) → option_map (λ bs. out ++ bs) (before (Some x) o) ≡ option_map (λ bs. (out ++ x ∷ []) ++ bs) o
unfolding before
goes_on out x None = refl
goes_on out x (Some bs) = ap Some (sym (append_assoc out (x ∷ []) bs))

-- a pair that is none
no_pair : (out : List ℕ) (o : Option (List ℕ)) → None ≡ option_map (λ bs. out ++ bs) (before None o)
unfolding before
no_pair out None = refl
no_pair out (Some bs) = refl

-- what is left of a text that a pattern cut
after : (s : List ℕ) → take (length s - 2) (drop 2 s) ≡ drop 2 s
after s = take_all (length s - 2) (drop 2 s) (search rules)

pub halved : (count n : ℕ) (s : List ℕ) → 2 * count + length s ≡ n → 2 ≤ length s → 2 * (count + 1) + length (take (length s - 2) (drop 2 s)) ≡ n
halved count n s e h = rw (after s, length-drop 2 s) (omega arith)

-- a pair is read
taken : (s : List ℕ) → 2 ≤ length s → pairs_of s ≡ before (pair_of (get_or s 0 0) (get_or s 1 0)) (pairs_of (drop 2 s))
unfolding pairs_of
taken [] h = absurd (omega arith)
taken (a ∷ []) h = absurd (omega arith)
taken (a ∷ b ∷ s) h = refl

pub pair_read : (out s : List ℕ) (x : ℕ) → 2 ≤ length s → Some x ≡ pair_of (get_or s 0 0) (get_or s 1 0) → option_map (λ bs. out ++ bs) (pairs_of s) ≡ option_map (λ bs. (out ++ x ∷ []) ++ bs) (pairs_of (take (length s - 2) (drop 2 s)))
pair_read out s x h e =
    ap (option_map (λ bs. out ++ bs)) (taken s h ∙ ap (λ o. before o (pairs_of (drop 2 s))) (sym e))
    ∙ goes_on out x (pairs_of (drop 2 s))
    ∙ ap (λ l. option_map (λ bs. (out ++ x ∷ []) ++ bs) (pairs_of l)) (sym (after s))

pub none_read : (out s : List ℕ) → 2 ≤ length s → None ≡ pair_of (get_or s 0 0) (get_or s 1 0) → None ≡ option_map (λ bs. out ++ bs) (pairs_of s)
none_read out s h e =
    no_pair out (pairs_of (drop 2 s))
    ∙ sym (ap (option_map (λ bs. out ++ bs)) (taken s h ∙ ap (λ o. before o (pairs_of (drop 2 s))) (sym e)))

-- nothing is left, or one digit
pub all_read : (out s : List ℕ) → length s ≡ 0 → Some out ≡ option_map (λ bs. out ++ bs) (pairs_of s)
unfolding pairs_of
all_read out [] h = ap Some (sym (append-nil out))
all_read out (a ∷ s) h = absurd (omega arith)

pub one_left : (out s : List ℕ) → length s < 2 → (length s ≡ 0 → ⊥) → None ≡ option_map (λ bs. out ++ bs) (pairs_of s)
unfolding pairs_of
one_left out [] h n = absurd (n refl)
one_left out (a ∷ []) h n = refl
one_left out (a ∷ b ∷ s) h n = absurd (omega arith)

-- a text that is not empty
pub some_text : (s : List ℕ) → (length s ≡ 0 → ⊥) → bytes_of s ≡ pairs_of s
unfolding bytes_of
some_text [] h = absurd (h refl)
some_text (a ∷ s) h = refl

pub no_text : (s : List ℕ) → length s ≡ 0 → None ≡ bytes_of s
unfolding bytes_of
no_text [] h = refl
no_text (a ∷ s) h = absurd (omega arith)

-- a pair more is read, and its byte is kept, or there is no room for it
pub reads_kept : (n : ℕ) (s room : List ℕ) (count : ℕ) (rest : List ℕ) (x : ℕ) → Reads n s room count rest → 2 ≤ length rest → Some x ≡ pair_of (get_or rest 0 0) (get_or rest 1 0) → count < length room → Reads n s (set room count x) (count + 1) (take (length rest - 2) (drop 2 rest))
reads_kept n s room count rest x r h e fits = record {
  front = r.front ++ x ∷ [];
  counted = simp length-append (ap (λ k. k + 1) r.counted);
  kept = λ m. take_more_set room count x fits ∙ ap (λ l. l ++ x ∷ []) (r.kept (omega arith));
  read = r.read ∙ pair_read r.front rest x h e;
}

pub reads_full : (n : ℕ) (s room : List ℕ) (count : ℕ) (rest : List ℕ) (x : ℕ) → Reads n s room count rest → 2 ≤ length rest → Some x ≡ pair_of (get_or rest 0 0) (get_or rest 1 0) → n ≤ count → Reads n s room (count + 1) (take (length rest - 2) (drop 2 rest))
reads_full n s room count rest x r h e full = record {
  front = r.front ++ x ∷ [];
  counted = simp length-append (ap (λ k. k + 1) r.counted);
  kept = λ m. absurd (omega arith);
  read = r.read ∙ pair_read r.front rest x h e;
}

-- what is answered
pub not_hex : (n : ℕ) (s : List ℕ) → None ≡ bytes_of s → Err NotHex ≡ within n (bytes_of s)
unfolding within
not_hex n s e = ap (within n) e

-- the bytes that the first so many of a room are, if there are no more
fits_within : (n : ℕ) (o : Option (List ℕ)) (front bytes : List ℕ) → Some front ≡ o → length front ≤ n → bytes ≡ front → Ok bytes ≡ within n o
unfolding within
fits_within n o front bytes e h k = ap Ok k ∙ sym (cond-true _ (Ok front) (Err TooLong) (le-leb (length front) n h)) ∙ ap (within n) e

is_past : (n : ℕ) (o : Option (List ℕ)) (front : List ℕ) → Some front ≡ o → n < length front → Err TooLong ≡ within n o
unfolding within
is_past n o front e h = sym (cond-false _ (Ok front) (Err TooLong) (lt-leb (length front) n h)) ∙ ap (within n) e

read_whole : (n : ℕ) (s room : List ℕ) (count : ℕ) (rest : List ℕ) (r : Reads n s room count rest) → length rest ≡ 0 → (length s ≡ 0 → ⊥) → Some r.front ≡ bytes_of s
read_whole n s room count rest r z h = all_read r.front rest z ∙ sym (some_text s h ∙ r.read)

pub kept_whole : (n : ℕ) (s room : List ℕ) (count : ℕ) (rest : List ℕ) → Reads n s room count rest → length rest ≡ 0 → (length s ≡ 0 → ⊥) → count ≤ n → Ok (take count room) ≡ within n (bytes_of s)
kept_whole n s room count rest r z h m =
    fits_within n _ r.front _ (read_whole n s room count rest r z h) (omega (arith, r.counted)) (r.kept m)

pub too_long : (n : ℕ) (s room : List ℕ) (count : ℕ) (rest : List ℕ) → Reads n s room count rest → length rest ≡ 0 → (length s ≡ 0 → ⊥) → n < count → Err TooLong ≡ within n (bytes_of s)
too_long n s room count rest r z h m = is_past n _ r.front (read_whole n s room count rest r z h) (omega (arith, r.counted))
