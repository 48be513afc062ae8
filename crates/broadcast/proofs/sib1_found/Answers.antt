use mathlib.Core.Path.{sym, ◌∙◌}
use native.Mathlib.Omega.{arith}
use Rattle.broadcast.proofs.sib1_found.Goals as goal

pub returns-then-not-is_sib1 : goal.returns-then-not-is_sib1
returns-then-not-is_sib1 c = sym c.is_sib1.ensures ∙ c.if-not-is_sib1.true

pub sib1_index-requires : goal.sib1_index-requires
sib1_index-requires c = (omega arith, sym c.is_sib1.ensures ∙ c.if-not-is_sib1.false)

pub returns : goal.returns
returns c = (sym c.is_sib1.ensures ∙ c.if-not-is_sib1.false, c.sib1_index.ensures.0, c.sib1_index.ensures.1)
