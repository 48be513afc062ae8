-- A step by what forward answers at the walk's position, of any grant.
use mathlib.Core.Bool.{Bool, true, false, cond, ◌&&◌}
use mathlib.Core.List.{List}
use mathlib.Core.Path.{◌≡◌, refl, sym, ap, ◌∙◌}
use mathlib.Core.Logic.{◌⊎◌, inl, inr}
use Prim.Native.Nat.{ℕ, ◌^◌, ◌<◌}
use native.Mathlib.Decide.{ℕ_discrete}
use lib.Dec.{eqb}
use borrow.Author.Tests.{eq-eqb, ne_eqb}
use Rattle.walk.specs.declared.Walk.{Walk}
use Rattle.walk.specs.declared.WalkPlace.{WalkPlace}
use Rattle.walk.specs.Step.{refused_step, finished_step, Moved, Asked, asked_of, unmoved, moved, stepped_of}
use Rattle.walk.specs.Quick.{walk_at, is_end, stopped_at}
use Rattle.walk.proofs.Agreeing.{Agrees, agrees}
use Rattle.walk.proofs.Moving.{answered, stops}
use Rattle.walk.proofs.Steps.{next_small}
use Rattle.buffers.specs.Buffers.{put_stepped}
use Rattle.buffers.specs.Scaffold.{put_moved, moved_by}

module _ (q : Asked) (a : Agrees q) (p : ℕ) where
  -- where forward refuses
  stop_as : {end : Bool} (n : ℕ) → end ≡ (eqb n 14 && is_end q p) → cond end finished_step (refused_step n) ≡ stopped_at q p n
  unfolding stopped_at
  stop_as n e = rw e (by (eqb n 14) (is_end q p))
    where
      by : (x y : Bool) → cond (x && y) finished_step (refused_step n) ≡ cond x (cond y finished_step (refused_step n)) (refused_step n)
      by true y = refl
      by false y = refl

  moved_by_lem : {end : Bool} → end ≡ (eqb (q.at p).no 14 && is_end q p) → moved_by end (q.at p) p ≡ moved q p
  moved_by_lem {end} e = by (ℕ_discrete (q.at p).no 0)
    where
      by : Dec ((q.at p).no ≡ 0) → moved_by end (q.at p) p ≡ moved q p
      by (yes z) = rw (eq-eqb (q.at p).no 0 z) (answered q a p (q.at p) refl z)
      by (no n) = rw (ne_eqb (q.at p).no 0 n) (ap (λ (x : WalkPlace). unmoved x p) (stop_as _ e) ∙ stops q a p (q.at p) refl n)

-- `end` is what plan says where forward answers 14, and else the failed test
abbrev pub Asking : ℕ → Bool → Bool → Type 0
Asking n is end = ((n ≡ 14) × (end ≡ is)) ⊎ ((n ≡ 14 → ⊥) × (end ≡ eqb n 14))

end_as : (n : ℕ) (is : Bool) {end : Bool} → Asking n is end → end ≡ (eqb n 14 && is)
end_as n is (inl h) = rw (eq-eqb n 14 h.0) h.1
end_as n is (inr h) = let f = ne_eqb n 14 h.0 in rw f (h.1 ∙ f)

-- a is what forward answers at the walk's position
module _ (w : Walk) (anchor other : List ℕ) (a : WalkPlace) (e : a ≡ walk_at w anchor other) where
  pub next_fits : a.no ≡ 0 → w.p < 2 ^ 63
  next_fits z = next_small w anchor other (sym (ap (λ (x : WalkPlace). x.no) e) ∙ z)

  pub stepped_by : {end : Bool} (walk s : List ℕ) → Asking a.no (is_end (asked_of w anchor other) w.p) end
      → put_moved (moved_by end a w.p) walk s ≡ put_stepped (stepped_of w anchor other) walk s
  unfolding stepped_of
  stepped_by {end} walk s asking =
      let q = asked_of w anchor other in
      let f = end_as a.no (is_end q w.p) asking ∙ ap (λ (x : WalkPlace). eqb x.no 14 && is_end q w.p) e in
      ap (λ (m : Moved). put_moved m walk s)
      (ap (λ (x : WalkPlace). moved_by end x w.p) e ∙ moved_by_lem q (agrees w.cell anchor other w.grant) w.p f)
