-- Laws of every answer, whatever is asked and however it is shown.
use mathlib.Core.Bool.{Bool, true, false, cond, ◌&&◌}
use mathlib.Core.Path.{◌≡◌, refl, sym, ap, ap₂, ◌∙◌}
use Prim.Native.Nat.{ℕ, ◌+◌, ◌*◌, ◌≤◌, ◌<◌}
use native.Mathlib.Omega.{arith}
use native.Mathlib.Decide.{ℕ_discrete}
use lib.Dec.{eqb, ltb}
use borrow.Author.Tests.{eq-eqb, ne_eqb, lt-ltb, le-ltb}
use Rattle.sending.specs.Sending.{Sending, places_of, Spot, spot_at, Content}
use Rattle.sending.specs.Answer.{Question, answer_of, place_at, forward_by, back_of, refused_back, back_at}

-- the same question: the same number, and the same sending where there is none
pub record Same (q r : Question) : Type 0 where
  pub number : q.no ≡ r.no
  pub sending : q.no ≡ 0 → q.sending ≡ r.sending

module _ {A : Type 0} (zeros : ℕ → A) where
  pub accepted : (n : ℕ) (a : A) → n ≡ 0 → answer_of zeros n a ≡ a
  unfolding answer_of
  accepted n a e = rw (eq-eqb n 0 e) refl

  pub refused : (n : ℕ) (a : A) → (n ≡ 0 → ⊥) → answer_of zeros n a ≡ zeros n
  unfolding answer_of
  refused n a h = rw (ne_eqb n 0 h) refl

  -- an answer's number is its question's
  pub number_of : (number : A → ℕ) → ((m : ℕ) → number (zeros m) ≡ m) → (n : ℕ) (a : A) → number a ≡ 0 → number (answer_of zeros n a) ≡ n
  number_of number z n a h = by (ℕ_discrete n 0)
    where
      by : Dec (n ≡ 0) → number (answer_of zeros n a) ≡ n
      by (yes e) = ap number (accepted n a e) ∙ h ∙ sym e
      by (no r) = ap number (refused n a r) ∙ z n

  -- so where that is 0 the question is accepted
  pub accepts : (number : A → ℕ) → ((m : ℕ) → number (zeros m) ≡ m) → (n : ℕ) (a : A) → number a ≡ 0 → number (answer_of zeros n a) ≡ 0
      → n ≡ 0
  accepts number z n a h e = sym (number_of number z n a h) ∙ e

  -- what holds of an answer and of every refusal holds of what is answered
  pub answer_all : (P : A → Type 0) → ((m : ℕ) → P (zeros m)) → (n : ℕ) (a : A) → P a → P (answer_of zeros n a)
  unfolding answer_of
  answer_all P z n a h = by (eqb n 0)
    where
      by : (b : Bool) → P (cond b a (zeros n))
      by true = h
      by false = z n

  -- an answer is read where its question is accepted alone
  pub answer_path : (n m : ℕ) (a b : A) → n ≡ m → (n ≡ 0 → a ≡ b) → answer_of zeros n a ≡ answer_of zeros m b
  answer_path n m a b e f = by (ℕ_discrete n 0)
    where
      by : Dec (n ≡ 0) → answer_of zeros n a ≡ answer_of zeros m b
      by (yes z) = ap₂ (answer_of zeros) e (f z)
      by (no h) = refused n a h ∙ ap zeros e ∙ sym (refused m b (λ z. h (e ∙ z)))

  -- whatever is read of the sending
  pub answer_same : (f : Sending → A) (q r : Question) → Same q r
      → answer_of zeros q.no (f q.sending) ≡ answer_of zeros r.no (f r.sending)
  answer_same f q r s = answer_path q.no r.no (f q.sending) (f r.sending) s.number (λ z. ap f (s.sending z))

  -- the code's two ends of question q: it got number n, or it is accepted and worked out over a sending S
  module _ (f : Sending → A) (q : Question) where
    pub refused_as : (n : ℕ) → n ≡ q.no → (n ≡ 0 → ⊥) → zeros n ≡ answer_of zeros q.no (f q.sending)
    refused_as n e h = sym (refused n (f q.sending) h) ∙ ap (λ (m : ℕ). answer_of zeros m (f q.sending)) e

    pub accepted_as : (S : Sending) → q.no ≡ 0 → S ≡ q.sending → f S ≡ answer_of zeros q.no (f q.sending)
    accepted_as S e s = ap f s ∙ sym (accepted q.no (f q.sending) e)

  module _ (shown : Spot → A) (S : Sending) (p : ℕ) where
    pub inside_at : p < places_of S → place_at zeros shown S p ≡ shown (spot_at S p)
    unfolding place_at
    inside_at h = rw (lt-ltb p (places_of S) h) refl

    pub past_at : places_of S ≤ p → place_at zeros shown S p ≡ zeros 14
    unfolding place_at
    past_at h = rw (le-ltb p (places_of S) h) refl

  -- forward's three answers
  module _ (shown : Spot → A) (q : Question) (p : ℕ) where
    pub forward_refused : (q.no ≡ 0 → ⊥) → forward_by zeros shown q p ≡ zeros q.no
    forward_refused h = refused q.no _ h

    pub forward_inside : q.no ≡ 0 → p < places_of q.sending → forward_by zeros shown q p ≡ shown (spot_at q.sending p)
    forward_inside e h = accepted q.no _ e ∙ inside_at shown q.sending p h

    pub forward_past : q.no ≡ 0 → places_of q.sending ≤ p → forward_by zeros shown q p ≡ zeros 14
    forward_past e h = accepted q.no _ e ∙ past_at shown q.sending p h

-- a kind that is answered is at most the sending's kinds
pub kind_most : (S : Sending) (m : ℕ) → ((t x : ℕ) → S.kind t x ≤ m) → (inside : Bool) (t x : ℕ) → (back_at S inside t x).kind ≤ m
unfolding back_at
kind_most S m h false t x = omega arith
kind_most S m h true t x = by (S.sent t && S.used x)
  where
    by : (b : Bool) → (back_of (cond b (Content.ours (S.carry (S.index t) * S.W + S.number x) (S.index t * S.W + S.number x)) (Content.not_ours (S.kind t x)))).kind ≤ m
    by true = omega arith
    by false = h t x

-- what stands outside the grid
pub outside_at : (S : Sending) (inside : Bool) (t x : ℕ) → inside ≡ false → back_at S inside t x ≡ refused_back 14
unfolding back_at
outside_at S inside t x h = rw h refl

-- an answer shown further
module _ {A B : Type 0} (g : A → B) (zeros : ℕ → A) where
  cond_map : (b : Bool) (x y : A) → g (cond b x y) ≡ cond b (g x) (g y)
  cond_map true x y = refl
  cond_map false x y = refl

  pub answer_map : (n : ℕ) (a : A) → g (answer_of zeros n a) ≡ answer_of (λ m. g (zeros m)) n (g a)
  unfolding answer_of
  answer_map n a = cond_map (eqb n 0) a (zeros n)

  pub forward_map : (shown : Spot → A) (q : Question) (p : ℕ)
      → g (forward_by zeros shown q p) ≡ forward_by (λ n. g (zeros n)) (λ s. g (shown s)) q p
  unfolding place_at
  forward_map shown q p =
      answer_map q.no (place_at zeros shown q.sending p)
      ∙ ap (answer_of (λ n. g (zeros n)) q.no) (cond_map (ltb p (places_of q.sending)) (shown (spot_at q.sending p)) (zeros 14))
