-- 4, 5 and 24, in-band and in the other modes: each return has the tests before it false.
use mathlib.Core.Path.{◌≡◌}
use native.Mathlib.Omega.{arith}
use borrow.Author.Tests.{lt-ltb, le-ltb, eq-eqb, ne_eqb}
use Rattle.cell.specs.Quick.{band_refusal}
use Rattle.cell.proofs.band_refusal.Goals as goal

pub returns-then-not-c : goal.returns-then-not-c
unfolding band_refusal
returns-then-not-c c = simp (lt-ltb _ _ c.if-c-lt2.true, c.if-not-c.true)

pub returns-then-not-c-2 : goal.returns-then-not-c-2
unfolding band_refusal
returns-then-not-c-2 c =
    simp (lt-ltb _ _ c.if-c-lt2.true, c.if-not-c.false, c.if-not-c-2.true)

pub returns-then-c : goal.returns-then-c
unfolding band_refusal
returns-then-c c =
    simp (lt-ltb _ _ c.if-c-lt2.true, c.if-not-c.false, c.if-not-c-2.false, c.if-c.true)

pub returns-then-c-lt2 : goal.returns-then-c-lt2
unfolding band_refusal
returns-then-c-lt2 c =
    simp (lt-ltb _ _ c.if-c-lt2.true, c.if-not-c.false, c.if-not-c-2.false, c.if-c.false)

pub returns-then-c-ne0 : goal.returns-then-c-ne0
unfolding band_refusal
returns-then-c-ne0 c = simp (le-ltb _ _ c.if-c-lt2.false, ne_eqb _ _ c.if-c-ne0.true)

pub returns-then-c-ne0-2 : goal.returns-then-c-ne0-2
unfolding band_refusal
returns-then-c-ne0-2 c =
    simp (le-ltb _ _ c.if-c-lt2.false, eq-eqb _ _ c.if-c-ne0.false, ne_eqb _ _ c.if-c-ne0-2.true)

pub returns : goal.returns
unfolding band_refusal
returns c =
    let mode = c.args.c.mode in
    simp (
      le-ltb _ _ c.if-c-lt2.false,
      eq-eqb _ _ c.if-c-ne0.false,
      eq-eqb _ _ c.if-c-ne0-2.false,
      ne_eqb mode 0 (λ (z : mode ≡ 0). omega (arith, z, c.if-c-lt2.false)),
    )
