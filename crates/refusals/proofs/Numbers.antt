-- No reason has the number 0, which stands for no refusal; and what a refused test makes of the tests after it.
use mathlib.Core.Bool.{false, cond}
use mathlib.Core.Path.{◌≡◌, refl, ap, ◌∙◌}
use Prim.Native.Nat.{ℕ}
use lib.Dec.{eqb}
use borrow.Author.Tests.{eqb-false}
use Rattle.std.specs.Prelude.{Result, IsErrAnd}
use Rattle.std.proofs.lemmas.Result.{err_from_is_err_and}
use Rattle.refusals.specs.declared.Refusal.{Refusal}
use Rattle.refusals.specs.declared.Refusal.TheVariants as refusal
use Rattle.refusals.specs.Refusal.{number_of, refused_by}

pub numbered : (r : Refusal) → eqb (number_of r) 0 ≡ false
numbered refusal.Carrier = refl
numbered refusal.Identity = refl
numbered refusal.NarrowbandPorts = refl
numbered refusal.CellPorts = refl
numbered refusal.ControlRegion = refl
numbered refusal.Sib1Schedule = refl
numbered refusal.BadBitmap = refl
numbered refusal.EmptyBitmap = refl
numbered refusal.LateSubframe = refl
numbered refusal.LargeField = refl
numbered refusal.SubcarrierField = refl
numbered refusal.Repetitions = refl
numbered refusal.Mcs = refl
numbered refusal.NoSuchPlace = refl
numbered refusal.Length = refl
numbered refusal.Level = refl
numbered refusal.TwoPorts = refl
numbered refusal.NeverUsable = refl
numbered refusal.WindowsNotListed = refl
numbered refusal.NeverFree = refl
numbered refusal.MessagesNotListed = refl
numbered refusal.ShortPeriod = refl
numbered refusal.LateOffset = refl
numbered refusal.PortsDiffer = refl
numbered refusal.NoBroadcast = refl

pub never_0 : (r : Refusal) → number_of r ≡ 0 → ⊥
never_0 r = eqb-false (number_of r) 0 (numbered r)

-- a refusal stands, whatever the tests after it are
pub stands : (r : Refusal) (x a : ℕ) → number_of r ≡ a → number_of r ≡ cond (eqb a 0) x a
stands r x a e = simp (← e, numbered r)

-- at the exit of a `?`
pub passed_on : {A : Type 0} (e : Refusal) (r : Result A Refusal) → IsErrAnd r (λ y. y ≡ e) → refused_by r ≡ number_of e
passed_on e r h = let p = err_from_is_err_and r h in rw (p.1, p.2) refl
