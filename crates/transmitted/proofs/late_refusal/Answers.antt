use Prim.Native.Nat.{◌*◌, ◌≤◌, ◌^◌}
use native.Mathlib.Nat.{mul-le-mul}
use native.Mathlib.Omega.{arith}
use borrow.Author.Tests.{eq-eqb, ne_eqb}
use Rattle.grid.specs.Grid.{elements}
use Rattle.elements.proofs.Laws.{count_le}
use Rattle.transmitted.specs.Refusals.{late_refusal}
use Rattle.transmitted.proofs.late_refusal.Goals.{Start}
use Rattle.transmitted.proofs.late_refusal.Goals as goal

-- the codeword's symbols fit a word
symbols : (c : Start) → c.args.b.codeword * c.args.w ≤ 2 ^ 8 * elements
symbols c =
    let b = c.args.b in
    let few : c.args.w ≤ elements = omega (arith, c.requires.1, count_le b.layout b.low b.width) in
    mul-le-mul c.requires.0.codeword_small few

pub returns-then-i-sent_subframes : goal.returns-then-i-sent_subframes
unfolding late_refusal
returns-then-i-sent_subframes c = simp (← c.sent_subframes.ensures.0, c.if-i-sent_subframes.true)

pub returns-then-bits-codeword : goal.returns-then-bits-codeword
unfolding late_refusal
returns-then-bits-codeword c =
    simp (← c.sent_subframes.ensures.0, c.if-i-sent_subframes.false, ← c.requires.1, c.if-bits-codeword.true)

pub returns-then-not-in_range : goal.returns-then-not-in_range
unfolding late_refusal
returns-then-not-in_range c =
    simp (← c.sent_subframes.ensures.0, c.if-i-sent_subframes.false, ← c.requires.1, c.if-bits-codeword.false, ← c.in_range.ensures, c.if-not-in_range.true)

pub returns-then-b-eq2 : goal.returns-then-b-eq2
unfolding late_refusal
returns-then-b-eq2 c =
    simp (← c.sent_subframes.ensures.0, c.if-i-sent_subframes.false, ← c.requires.1, c.if-bits-codeword.false, ← c.in_range.ensures, c.if-not-in_range.false, eq-eqb _ _ c.if-b-eq2.true)

pub returns : goal.returns
unfolding late_refusal
returns c =
    simp (← c.sent_subframes.ensures.0, c.if-i-sent_subframes.false, ← c.requires.1, c.if-bits-codeword.false, ← c.in_range.ensures, c.if-not-in_range.false, ne_eqb _ _ c.if-b-eq2.false)

pub overflow_mul-codeword : goal.overflow_mul-codeword
overflow_mul-codeword c = omega (arith, symbols c.before.before.before.before)

pub overflow_add-codeword : goal.overflow_add-codeword
overflow_add-codeword c = omega (arith, symbols c.before.before.before.before)
