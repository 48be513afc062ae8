-- Laws of what a call replies.
use mathlib.Core.List.{List, [], ◌∷◌, ◌++◌}
use mathlib.Core.Path.{◌≡◌, refl, sym, ap, ap₂, ◌∙◌}
use Prim.Native.Nat.{ℕ, zero, suc, ◌+◌, ◌*◌, ◌≤◌}
use native.Mathlib.Nat.{add-zero}
use native.Mathlib.Omega.{arith}
use lib.ListN.{length, get_or, drop, set}
use lib.Seq.{sets, sets-eq}
use Rattle.search_space.specs.declared.Candidate.{Candidate}
use Rattle.search_space.specs.Candidates.{blank}
use Rattle.buffers.specs.Buffers.{candidate_numbers, laid, put}

-- stores from the front on
pub stored : {A : Type 0} (vs s : List A) → length vs ≤ length s → sets s 0 vs ≡ laid vs s
stored vs s h =
    let e : 0 + length vs ≡ length vs = omega arith in
    sets-eq vs s 0 (omega arith) ∙ ap (λ (n : ℕ). vs ++ drop n s) e

-- a run of stores, and one that follows it
pub sets_on : {A : Type 0} (vs ws s : List A) (i : ℕ) → sets s i (vs ++ ws) ≡ sets (sets s i vs) (i + length vs) ws
sets_on [] ws s i = ap (λ (n : ℕ). sets s n ws) (sym (add-zero i))
sets_on (v ∷ vs) ws s i =
    let e : suc i + length vs ≡ i + suc (length vs) = omega arith in
    sets_on vs ws (set s i v) (suc i) ∙ ap (λ (n : ℕ). sets (sets (set s i v) (suc i) vs) n ws) e

-- three numbers put, and then those after them
pub put_on : {r : ℕ} {mid left : List ℕ} (a b c : ℕ) (rest s : List ℕ) → 3 + length rest ≤ length s
    → ◌≡◌ {A = ℕ × List ℕ} (r, mid) (put (a ∷ b ∷ c ∷ []) s) → left ≡ sets mid 3 rest
    → ◌≡◌ {A = ℕ × List ℕ} (r, left) (put (a ∷ b ∷ c ∷ rest) s)
put_on {r} {mid} {left} a b c rest s h e f =
    let front = a ∷ b ∷ c ∷ [] in
    ap₂ (λ (x : ℕ × List ℕ) (l : List ℕ). (x.0, l)) e
    (f ∙ ap (λ (x : ℕ × List ℕ). sets x.1 3 rest) e ∙ ap (λ (l : List ℕ). sets l 3 rest) (sym (stored front s (omega arith)))
    ∙ sym (sets_on front rest s 0) ∙ stored (front ++ rest) s (omega arith))

-- the numbers of one candidate more
pub one_more : (list : List Candidate) (k n : ℕ) → candidate_numbers list k (suc n) ≡ candidate_numbers list k n ++ candidate_numbers list (k + n) 1
one_more list k zero = ap (λ (j : ℕ). candidate_numbers list j 1) (sym (add-zero k))
one_more list k (suc n) =
    let e : suc k + n ≡ k + suc n = omega arith in
    ap (λ (l : List ℕ). (get_or list k blank).first ∷ (get_or list k blank).r ∷ (get_or list k blank).last ∷ l)
    (one_more list (suc k) n ∙ ap (λ (j : ℕ). candidate_numbers list (suc k) n ++ candidate_numbers list j 1) e)

pub three_each : (list : List Candidate) (k n : ℕ) → length (candidate_numbers list k n) ≡ 3 * n
three_each list k zero = refl
three_each list k (suc n) = omega (arith, three_each list (suc k) n)

-- three numbers stored after those of n candidates
pub laid_next : (list : List Candidate) (s t : List ℕ) (n : ℕ) → t ≡ sets s 3 (candidate_numbers list 0 n)
    → let x = get_or list n blank in let i = 3 * n + 3 in
    set (set (set t i x.first) (i + 1) x.r) (i + 2) x.last ≡ sets s 3 (candidate_numbers list 0 (n + 1))
laid_next list s t n e =
    let x = get_or list n blank in
    let xs = candidate_numbers list 0 n in
    let j : 3 * n + 3 + 1 ≡ suc (3 * n + 3) = omega arith in
    let k : 3 * n + 3 + 2 ≡ suc (suc (3 * n + 3)) = omega arith in
    let i : 3 * n + 3 ≡ 3 + length xs = omega (arith, three_each list 0 n) in
    let z : 0 + n ≡ n = omega arith in
    let m : n + 1 ≡ suc n = omega arith in
    ap₂ (λ (j k : ℕ). set (set (set t (3 * n + 3) x.first) j x.r) k x.last) j k
    ∙ ap (λ (j : ℕ). sets t j (candidate_numbers list n 1)) i
    ∙ ap (λ (l : List ℕ). sets l (3 + length xs) (candidate_numbers list n 1)) e
    ∙ sym (sets_on xs (candidate_numbers list n 1) s 3)
    ∙ ap (λ (j : ℕ). sets s 3 (xs ++ candidate_numbers list j 1)) (sym z)
    ∙ ap (sets s 3) (sym (one_more list 0 n))
    ∙ ap (λ (j : ℕ). sets s 3 (candidate_numbers list 0 j)) (sym m)
