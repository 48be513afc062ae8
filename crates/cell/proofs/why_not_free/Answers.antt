-- Each return has the tests before it false.
use borrow.Author.Tests.{eq-eqb, ne_eqb}
use Rattle.cell.specs.Usable.{anchor_cause}
use Rattle.cell.specs.Quick.{why_not_free}
use Rattle.cell.proofs.why_not_free.Goals as goal

pub returns-then-c-ne0 : goal.returns-then-c-ne0
unfolding why_not_free anchor_cause
returns-then-c-ne0 c = simp (ne_eqb _ _ c.if-c-ne0.true)

pub returns-then-is_npbch : goal.returns-then-is_npbch
unfolding why_not_free anchor_cause
returns-then-is_npbch c =
    simp (eq-eqb _ _ c.if-c-ne0.false, ← c.is_npbch.ensures, c.if-is_npbch.true)

pub returns-then-is_npss : goal.returns-then-is_npss
unfolding why_not_free anchor_cause
returns-then-is_npss c =
    simp (eq-eqb _ _ c.if-c-ne0.false, ← c.is_npbch.ensures, c.if-is_npbch.false, ← c.is_npss.ensures, c.if-is_npss.true)

pub returns-then-is_nsss : goal.returns-then-is_nsss
unfolding why_not_free anchor_cause
returns-then-is_nsss c =
    simp (
      eq-eqb _ _ c.if-c-ne0.false,
      ← c.is_npbch.ensures,
      c.if-is_npbch.false,
      ← c.is_npss.ensures,
      c.if-is_npss.false,
      ← c.is_nsss.ensures,
      c.if-is_nsss.true,
    )

pub returns-then-is_sib1 : goal.returns-then-is_sib1
unfolding why_not_free anchor_cause
returns-then-is_sib1 c =
    simp (
      eq-eqb _ _ c.if-c-ne0.false,
      ← c.is_npbch.ensures,
      c.if-is_npbch.false,
      ← c.is_npss.ensures,
      c.if-is_npss.false,
      ← c.is_nsss.ensures,
      c.if-is_nsss.false,
      ← c.is_sib1.ensures,
      c.if-is_sib1.true,
    )

pub returns : goal.returns
unfolding why_not_free anchor_cause
returns c =
    simp (
      eq-eqb _ _ c.if-c-ne0.false,
      ← c.is_npbch.ensures,
      c.if-is_npbch.false,
      ← c.is_npss.ensures,
      c.if-is_npss.false,
      ← c.is_nsss.ensures,
      c.if-is_nsss.false,
      ← c.is_sib1.ensures,
      c.if-is_sib1.false,
    )
