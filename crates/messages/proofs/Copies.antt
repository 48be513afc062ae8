-- One window laid copy by copy is the queue: the n-th copy has what it wants beside what the earlier ones want.
use mathlib.Core.Bool.{Bool, true, false, cond, not, ◌&&◌}
use mathlib.Core.Path.{◌≡◌, refl, sym, ap, ap₂, ◌∙◌}
use mathlib.Core.Logic.{⊎_elim}
use Prim.Native.Nat.{ℕ, zero, suc, ◌+◌, ◌-◌, ◌*◌, ◌%◌, ◌≤◌, ◌<◌}
use native.Mathlib.Nat.{add-zero, add-suc, zero-mul, suc-mul, mul-mod_left}
use native.Mathlib.Omega.{arith}
use lib.Dec.{ltb}
use lib.Arith.{digits_mod}
use mir.Val.{bool_byte}
use borrow.Author.Tests.{lt-ltb, le-ltb, le-leb, lt-leb, eq-eqb, ne_eqb}
use Rattle.counting.specs.Counting.{count, among_first}
use Rattle.counting.proofs.Facts.{order, byte_le}
use Rattle.counting.proofs.Range.{and_none}
use Rattle.messages.specs.Messages.{begun, wants}
use Rattle.messages.specs.Meaning.{still_free}
use Rattle.messages.proofs.Queue.{and_true, count_last, untaken}

-- a free subframe goes to the earlier copies while they want w, then to this one, which has had k of a
gives : (b c : Bool) (w a k : ℕ) → c ≡ (b && not (ltb 0 w)) → w + (a - k) - bool_byte b ≡ w - bool_byte b + (a - (k + bool_byte c))
gives b c w a k e =
    ⊎_elim (λ l. omega (arith, ap bool_byte (e ∙ ap (λ (t : Bool). b && not t) (lt-ltb 0 w l) ∙ and_none b), byte_le b))
    (λ l. omega (arith, ap bool_byte (e ∙ ap (λ (t : Bool). b && not t) (le-ltb 0 w l) ∙ and_true b))) (order 0 w)

-- it is not still free if it was not, or if this one takes it
rests : (f b : Bool) (w a k : ℕ) → b ≡ (f && not (ltb 0 w)) → (b && not (b && ltb k a)) ≡ (f && not (ltb 0 (w + (a - k))))
rests false b w a k e = rw e refl
rests true b w a k e =
    ⊎_elim (λ l. rw (e, lt-ltb 0 w l, lt-ltb 0 (w + (a - k)) (omega arith)) refl)
    (λ l. ⊎_elim (λ h. rw (e, le-ltb 0 w l, lt-ltb k a h, lt-ltb 0 (w + (a - k)) (omega arith)) refl)
    (λ h. rw (e, le-ltb 0 w l, le-ltb k a h, le-ltb 0 (w + (a - k)) (omega arith)) refl) (order k a)) (order 0 w)

module _ (step size : ℕ) (free : ℕ → Bool) (some : 0 < step) where
  -- the queue of the first n copies
  begun_of : ℕ → ℕ → ℕ
  begun_of n x = cond (ltb x (n * step)) (begun step size x) 0

  wants_of : ℕ → ℕ → ℕ
  wants_of n zero = 0
  wants_of n (suc x) = wants_of n x + begun_of n x - bool_byte (free x)

  needs_of : ℕ → ℕ → ℕ
  needs_of n x = wants_of n x + begun_of n x

  begun_early : (n x : ℕ) → x < n * step → begun_of n x ≡ begun step size x
  unfolding begun_of
  begun_early n x h = rw (lt-ltb x (n * step) h) refl

  begun_late : (n x : ℕ) → n * step ≤ x → begun_of n x ≡ 0
  unfolding begun_of
  begun_late n x h = rw (le-ltb x (n * step) h) refl

  wants_on : (n x : ℕ) → wants_of n (suc x) ≡ needs_of n x - bool_byte (free x)
  unfolding wants_of needs_of
  wants_on n x = refl

  -- the whole queue's, up to the last copy's end
  wants_same : (n x : ℕ) → x ≤ n * step → wants_of n x ≡ wants step size free x
  unfolding wants_of wants
  wants_same n zero h = refl
  wants_same n (suc x) h =
      ap₂ (λ (a b : ℕ). a + b - bool_byte (free x)) (wants_same n x (omega arith)) (begun_early n x (omega arith))

  needs_same : (n x : ℕ) → x < n * step → needs_of n x ≡ wants step size free x + begun step size x
  unfolding needs_of
  needs_same n x h = ap₂ (λ (a b : ℕ). a + b) (wants_same n x (omega arith)) (begun_early n x h)

  module _ (n : ℕ) where
    abbrev B : ℕ
    B = n * step

    -- copy n begins at its place, and no later copy of the first n + 1
    begun_here : begun_of (suc n) B ≡ size
    begun_here = begun_early (suc n) B (omega (arith, suc-mul n step)) ∙ ap (λ (b : Bool). cond b size 0) (eq-eqb (B % step) 0 (mul-mod_left n step))

    begun_after : (y : ℕ) → 0 < y → begun_of (suc n) (B + y) ≡ 0
    begun_after y p = ⊎_elim inside (λ h. begun_late (suc n) (B + y) (omega (arith, suc-mul n step))) (order y step)
      where
        inside : y < step → begun_of (suc n) (B + y) ≡ 0
        inside h =
            let e : (B + y) % step ≡ y = digits_mod n h in
            begun_early (suc n) (B + y) (omega (arith, suc-mul n step))
            ∙ ap (λ (b : Bool). cond b size 0) (ne_eqb ((B + y) % step) 0 (λ z. omega (arith, e, z)))

    needs_before : (x : ℕ) → x < B → needs_of (suc n) x ≡ needs_of n x
    needs_before x h = needs_same (suc n) x (omega (arith, suc-mul n step)) ∙ sym (needs_same n x h)

    module _ (length : ℕ) (so_far : (x : ℕ) → x < length → still_free length step size free n x ≡ (free x && not (ltb 0 (needs_of n x)))) where
      abbrev before : ℕ → Bool
      before = still_free length step size free n

      -- beside what the earlier copies want: what this one has not had yet
      needs_beside : (y : ℕ) → B + y < length → needs_of (suc n) (B + y) ≡ needs_of n (B + y) + (size - count before B y)
      unfolding needs_of count
      needs_beside zero l =
          rw (add-zero B)
          (omega (
            arith,
            wants_same (suc n) B (omega (arith, suc-mul n step)),
            wants_same n B (omega arith),
            begun_here,
            begun_late n B (omega arith),
          ))
      needs_beside (suc y) l =
          omega (
            arith,
            ap (wants_of (suc n)) (add-suc B y),
            ap (wants_of n) (add-suc B y),
            wants_on (suc n) (B + y),
            wants_on n (B + y),
            begun_after (suc y) (omega arith),
            begun_late n (B + suc y) (omega arith),
            needs_beside y (omega arith),
            count_last before B y,
            gives (free (B + y)) (before (B + y)) (needs_of n (B + y)) size (count before B y) (so_far (B + y) (omega arith)),
          )

      one_more : (x : ℕ) → x < length → still_free length step size free (suc n) x ≡ (free x && not (ltb 0 (needs_of (suc n) x)))
      unfolding still_free among_first
      one_more x h = ⊎_elim earlier later (order x B)
        where
          earlier : x < B → (before x && not (ltb x length && among_first before B size x)) ≡ (free x && not (ltb 0 (needs_of (suc n) x)))
          earlier l = rw (lt-leb B x l, and_none (ltb x length), and_true (before x), needs_before x l) (so_far x h)

          later : B ≤ x → (before x && not (ltb x length && among_first before B size x)) ≡ (free x && not (ltb 0 (needs_of (suc n) x)))
          later l =
              let e : B + (x - B) ≡ x = omega arith in
              let k : needs_of (suc n) x ≡ needs_of n x + (size - count before B (x - B)) =
              ap (needs_of (suc n)) (sym e) ∙ needs_beside (x - B) (omega arith)
              ∙ ap (λ (z : ℕ). needs_of n z + (size - count before B (x - B))) e in
              rw (le-leb B x l, lt-ltb x length h, k)
              (rests (free x) (before x) (needs_of n x) size (count before B (x - B)) (so_far x h))

  wants_none : (x : ℕ) → wants_of 0 x ≡ 0
  unfolding wants_of
  wants_none zero = refl
  wants_none (suc x) = omega (arith, wants_none x, begun_late 0 x (omega (arith, zero-mul step)))

  -- after n copies that is still free which is free and wanted by none of them
  laid : (length n x : ℕ) → x < length → still_free length step size free n x ≡ (free x && not (ltb 0 (needs_of n x)))
  unfolding still_free needs_of
  laid length zero x h =
      let e : needs_of 0 x ≡ 0 = omega (arith, wants_none x, begun_late 0 x (omega (arith, zero-mul step))) in
      rw e (sym (and_true (free x)))
  laid length (suc n) x h = one_more n length (laid length n) x h

  -- laid copy by copy, or by the queue
  pub laid_as_queue : (length n x : ℕ) → x < length → x < n * step → still_free length step size free n x ≡ untaken step size free x
  laid_as_queue length n x h l =
      laid length n x h ∙ ap (λ (w : ℕ). free x && not (ltb 0 w)) (needs_same n x l) ∙ both_free (free x) (ltb 0 (wants step size free x + begun step size x))
    where
      both_free : (a b : Bool) → (a && not b) ≡ (a && not (a && b))
      both_free true b = refl
      both_free false b = refl
