-- The chain 1 to 5, 24, 6: each return has the tests before it false.
use mathlib.Core.Bool.{Bool, true, false, cond, not, ◌||◌}
use mathlib.Core.Path.{◌≡◌, refl, sym, ◌∙◌}
use Prim.Native.Nat.{ℕ}
use lib.Dec.{eqb, ltb}
use borrow.Author.Tests.{lt-ltb, le-ltb}
use Rattle.refusals.proofs.Numbers.{stands, passed_on}
use Rattle.cell.specs.declared.CellConfig.{CellConfig}
use Rattle.cell.specs.Judge.{cell_ports_listed, control_listed, ports_differ, numbers_refusal}
use Rattle.cell.specs.Quick.{band_refusal}
use Rattle.cell.proofs.numbers_refusal.Goals as goal

pub returns-then-c : goal.returns-then-c
unfolding numbers_refusal
returns-then-c c = simp c.if-c.true

pub returns-then-c-gt503 : goal.returns-then-c-gt503
unfolding numbers_refusal
returns-then-c-gt503 c = simp (c.if-c.false, lt-ltb _ _ c.if-c-gt503.true)

pub returns-then-not-c : goal.returns-then-not-c
unfolding numbers_refusal
returns-then-not-c c = simp (c.if-c.false, le-ltb _ _ c.if-c-gt503.false, c.if-not-c.true)

-- what follows three tests, in two parts
parted : (a b d : Bool) (x : ℕ) → cond a 4 (cond b 5 (cond d 24 x))
    ≡ cond (eqb (cond a 4 (cond b 5 (cond d 24 0))) 0) x (cond a 4 (cond b 5 (cond d 24 0)))
parted true b d x = refl
parted false true d x = refl
parted false false true x = refl
parted false false false x = refl

past_three : (c : CellConfig) → (ltb 3 c.mode || ltb 1 c.carrier) ≡ false → ltb 503 c.identity ≡ false
    → (eqb c.nports 1 || eqb c.nports 2) ≡ true
    → numbers_refusal c ≡ cond (eqb (band_refusal c) 0) (cond (ltb 11 c.sib1) 6 0) (band_refusal c)
unfolding numbers_refusal band_refusal
past_three c a b d =
    rw (a, b, d) (parted (not (cell_ports_listed c)) (not (control_listed c)) (ports_differ c) (cond (ltb 11 c.sib1) 6 0))

pub returns-in_err-band_refusal : goal.returns-in_err-band_refusal
returns-in_err-band_refusal c =
    passed_on _ _ c.from_residual.ensures.1 ∙ stands _ _ _ c.in_err-band_refusal.ensures
    ∙ sym (past_three c.args.c c.if-c.false (le-ltb _ _ c.if-c-gt503.false) c.if-not-c.false)

pub returns-then-c-gt11 : goal.returns-then-c-gt11
returns-then-c-gt11 c =
    sym (past_three c.args.c c.if-c.false (le-ltb _ _ c.if-c-gt503.false) c.if-not-c.false
    ∙ simp (← c.in_ok-band_refusal.ensures, lt-ltb _ _ c.if-c-gt11.true))

pub returns : goal.returns
returns c =
    sym (past_three c.args.c c.if-c.false (le-ltb _ _ c.if-c-gt503.false) c.if-not-c.false
    ∙ simp (← c.in_ok-band_refusal.ensures, le-ltb _ _ c.if-c-gt11.false))
