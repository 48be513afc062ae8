use mathlib.Core.Bool.{Bool, true, ◌&&◌}
use mathlib.Core.Path.{◌≡◌, sym, ◌∙◌}
use Prim.Native.Nat.{ℕ, ◌+◌, ◌-◌, ◌*◌}
use native.Mathlib.Nat.{div-div-eq-div-mul}
use native.Mathlib.Omega.{arith}
use Rattle.counting.proofs.Facts.{both_parts}
use Rattle.nprach.specs.declared.Window.{Window}
use Rattle.nprach.specs.Windows.{units_of_ms, shares_tone, is_listed}
use Rattle.nprach.specs.Quick.{closure_of}
use Rattle.nprach.proofs.Listing.{Numbers, numbers}
use Rattle.nprach.proofs.Granted.closure.Goals as goal

-- a window that concerns the tones is listed
numbered : (a n : ℕ) (read : Bool) (w : Window) → (read ≡ true → is_listed w ≡ true) → (read && shares_tone a n w) ≡ true → Numbers w
numbered a n read w h e = numbers w (h (both_parts read (shares_tone a n w) e).0)

pub overflow_sub-w : goal.overflow_sub-w
overflow_sub-w c = omega (arith, (numbered _ _ _ c.args.w c.requires (sym c.concerns.ensures ∙ c.if-concerns.true)).start_to)

pub overflow_add-w : goal.overflow_add-w
overflow_add-w c = omega (arith, (numbered _ _ _ c.args.w c.requires (sym c.concerns.ensures ∙ c.if-concerns.true)).length_to, c.args.self.lasting)

pub returns-then-concerns : goal.returns-then-concerns
unfolding closure_of
returns-then-concerns c =
    let w = c.args.w in
    let ms = c.args.self.ms in
    rw (sym c.concerns.ensures ∙ c.if-concerns.true) (λ j. record {
      period = c.over_ms.ensures j;
      phase = c.over_ms-then-concerns.ensures j;
      closed = (c.over_ms-then-concerns-2.ensures ∙ div-div-eq-div-mul (w.length + (units_of_ms * ms - 1)) units_of_ms ms) j;
    })

pub returns-else-concerns : goal.returns-else-concerns
unfolding closure_of
returns-else-concerns c =
    rw (sym c.concerns.ensures ∙ c.if-concerns.false) (λ j. record { period = c.over_ms-else-concerns.ensures j; phase = 0; closed = 0 })
