-- The cause beside backward's answer, by what the search found, over any test u of what is usable.
use mathlib.Core.Bool.{Bool, true, false, cond, not, ◌&&◌}
use mathlib.Core.Path.{◌≡◌, refl, ap}
use Prim.Native.Nat.{ℕ}
use native.Mathlib.Omega.{arith}
use mir.Val.{bool_byte}
use Rattle.counting.proofs.Select.{among_parts}
use Rattle.grid.specs.Grid.{element_of}
use Rattle.cell.specs.declared.Cause.{Cause}
use Rattle.cell.specs.declared.Cause.TheVariants.{None}
use Rattle.spans.specs.Found.{amidst}
use Rattle.sending.specs.declared.Back.{Back}
use Rattle.sending.specs.Answer.{back_at}
use Rattle.downlink.specs.declared.Burst.{Burst}
use Rattle.downlink.specs.Mapping.{sent_subframes, first_of, is_sent, sending_of}
use Rattle.downlink.specs.Answers.{inside_grid, is_between, cause_at, back_why}

module _ (u : ℕ → Bool) (P : ℕ) (why : ℕ → Cause) (b : Burst) (t slot l k : ℕ) where
  abbrev told : Cause
  told = cause_at (sending_of u P b) why t slot l k

  abbrev missed : Bool
  missed = not (u t) && amidst u P (first_of u P b) (sent_subframes b) t

  pub joined : (x : Back) (d : Cause) → x ≡ back_at (sending_of u P b) (inside_grid slot l k) t (element_of slot l k) → d ≡ told
      → record { back = x; cause = d } ≡ back_why (sending_of u P b) why t slot l k
  unfolding back_why
  joined x d e f = λ i. record { back = e i; cause = f i }

  pub outside_none : inside_grid slot l k ≡ false → None ≡ told
  unfolding cause_at
  outside_none h = rw h refl

  none_by : (a m : Bool) (x : Cause) → (not a && m) ≡ false → None ≡ cond m (cond a None x) None
  none_by true true x h = refl
  none_by true false x h = refl
  none_by false true x h = let z : ◌≡◌ {A = ℕ} 1 0 = ap bool_byte h in absurd (omega arith)
  none_by false false x h = refl

  some_by : (a m : Bool) (x : Cause) → (not a && m) ≡ true → x ≡ cond m (cond a None x) None
  some_by true m x h = let z : ◌≡◌ {A = ℕ} 0 1 = ap bool_byte h in absurd (omega arith)
  some_by false true x h = refl
  some_by false false x h = let z : ◌≡◌ {A = ℕ} 0 1 = ap bool_byte h in absurd (omega arith)

  -- w is the cause of a subframe that is not usable
  module _ (w : Cause) (cause : why t ≡ cond (u t) None w) (inside : inside_grid slot l k ≡ true) where
    pub unmissed_none : missed ≡ false → None ≡ told
    unfolding cause_at is_between
    unmissed_none h = rw (inside, cause) (none_by (u t) (amidst u P (first_of u P b) (sent_subframes b) t) w h)

    pub missed_why : missed ≡ true → w ≡ told
    unfolding cause_at is_between
    missed_why h = rw (inside, cause) (some_by (u t) (amidst u P (first_of u P b) (sent_subframes b) t) w h)

    -- a subframe that is sent is usable
    pub sent_none : is_sent u P b t ≡ true → None ≡ told
    sent_none h =
        let y : u t ≡ true = (among_parts u (first_of u P b) (sent_subframes b) t h).1 in
        unmissed_none (ap (λ (a : Bool). not a && amidst u P (first_of u P b) (sent_subframes b) t) y)
