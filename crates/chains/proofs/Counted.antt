-- What `count` and `last` of a chain say, by the list that the chain gives.
use mathlib.Core.List.{List, [], ◌∷◌}
use mathlib.Core.Path.{◌≡◌, refl, sym, ap, subst, ◌∙◌}
use Prim.Native.Nat.{ℕ, zero, suc, ◌+◌, ◌^◌, ◌<◌}
use native.Mathlib.Numerals.{add-one}
use native.Mathlib.Omega.{arith}
use lib.ListN.{length, take}
use Rattle.std.specs.Prelude.{Option, Some, None, slice_get}
use Rattle.std.specs.List.{fold, last_or}
use Rattle.std.specs.Iterator.{Yields, Drains}
use Rattle.std.specs.Iterator.Runs.{EachRunFrom, Trigger, YieldsRun}
use Rattle.std.proofs.lemmas.Option.{none-some}
use Rattle.std.proofs.lemmas.Iterator.{YieldsList}
use Rattle.std.proofs.lemmas.Iterator.Adapters.{at_most_from_yields_List, total_from_yields_List}

-- that the count fits a word, by the list's length
pub runs_fit : {S A B : Type 0} {steps : S → Option A → S → Type 0} {v : A → B} {s : S} {all : List B}
    → YieldsList steps v s all → length all < 2 ^ 64
    → EachRunFrom steps s (λ p. Trigger (2 ^ 64) → 0 + p.len < 2 ^ 64)
unfolding YieldsRun
runs_fit {steps = steps} {all = all} road few p a at b =
    let run = subst (λ u. Yields steps u p.items p.gave.0.0) at p.gave.0.1 in
    omega (arith, few, p.long, (at_most_from_yields_List {n = length all} road (omega arith)).runs p.items p.gave.0.0 run)

-- the last of the list
as_fold : {A : Type 0} (o : Option A) (xs : List A) → last_or o xs ≡ fold (λ a x. Some x) o xs
as_fold o [] = refl
as_fold o (x ∷ xs) = as_fold (Some x) xs

pub last_of_list : {S A : Type 0} {steps : S → Option A → S → Type 0} {s : S} {all : List A} (r : Option A)
    → ((xs : List A) × Drains steps s xs × (r ≡ last_or None xs)) → YieldsList steps (λ x. x) s all → r ≡ last_or None all
last_of_list {all = all} r ran road =
    total_from_yields_List (λ a x. Some x) None r (ran.0, λ u. ran.1, ran.2 ∙ as_fold None ran.0) road ∙ sym (as_fold None all)

-- the last of the first k + 1 is the one with k before it
last_of_first : {A : Type 0} (ys : List A) (k : ℕ) (o : Option A) (t : A) → slice_get ys k ≡ Some t
    → last_or o (take (suc k) ys) ≡ Some t
last_of_first [] k o t h = absurd (none-some t h)
last_of_first (y ∷ ys) zero o t h = h
last_of_first (y ∷ ys) (suc k) o t h = last_of_first ys k (Some y) t h

pub last_taken : {A : Type 0} (ys : List A) (k : ℕ) (t : A) → slice_get ys k ≡ Some t → last_or None (take (k + 1) ys) ≡ Some t
last_taken ys k t h = ap (λ (n : ℕ). last_or None (take n ys)) (add-one k) ∙ last_of_first ys k None t h
