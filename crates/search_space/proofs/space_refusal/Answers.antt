-- Each return has the tests before it false.
use mathlib.Core.Path.{sym, ◌∙◌}
use Prim.Native.Nat.{◌*◌, ◌/◌, ◌≤◌, ◌^◌}
use native.Mathlib.Nat.{mul-le-mul}
use native.Mathlib.Omega.{arith}
use borrow.Author.Tests.{lt-ltb, le-ltb, le-leb, lt-leb}
use Rattle.refusals.proofs.Numbers.{stands, passed_on}
use Rattle.search_space.specs.Refusals.{space_refusal}
use Rattle.search_space.proofs.Accepting.{fielded}
use Rattle.search_space.proofs.space_refusal.Goals as goal

pub returns-in_err-fields_refusal : goal.returns-in_err-fields_refusal
unfolding space_refusal
returns-in_err-fields_refusal c = passed_on _ _ c.from_residual.ensures.1 ∙ stands _ _ _ c.in_err-fields_refusal.ensures

pub doubled_period-doubled-requires : goal.doubled_period-doubled-requires
doubled_period-doubled-requires c =
    let f = fielded c.args.s (sym c.in_ok-fields_refusal.ensures) in
    (f.rmax, f.g)

pub returns-then-doubled-lt8 : goal.returns-then-doubled-lt8
unfolding space_refusal
returns-then-doubled-lt8 c =
    simp (← c.in_ok-fields_refusal.ensures, ← c.doubled_period-doubled.ensures.0, lt-ltb _ _ c.if-doubled-lt8.true)

pub overflow_mul-s : goal.overflow_mul-s
overflow_mul-s c =
    let small = mul-le-mul {n₂ = 3} {m₂ = 2 ^ 17} (fielded c.args.s (sym c.in_ok-fields_refusal.ensures)).alpha (omega (arith, c.doubled_period-doubled.ensures.1)) in
    let product : c.args.s.alpha * (c.doubled_period-doubled.result / 2) ≤ 3 * 2 ^ 17 = small in
    omega (arith, product)

pub returns-then-s-doubled-ge-HYPERFRAME : goal.returns-then-s-doubled-ge-HYPERFRAME
unfolding space_refusal
returns-then-s-doubled-ge-HYPERFRAME c =
    simp (
      ← c.in_ok-fields_refusal.ensures,
      ← c.doubled_period-doubled.ensures.0,
      le-ltb _ _ c.if-doubled-lt8.false,
      le-leb _ _ c.if-s-doubled-ge-HYPERFRAME.true,
    )

pub returns : goal.returns
unfolding space_refusal
returns c =
    simp (
      ← c.in_ok-fields_refusal.ensures,
      ← c.doubled_period-doubled.ensures.0,
      le-ltb _ _ c.if-doubled-lt8.false,
      lt-leb _ _ c.if-s-doubled-ge-HYPERFRAME.false,
    )
