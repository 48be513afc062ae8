use mathlib.Core.Path.{sym, ◌∙◌}
use native.Mathlib.Omega.{arith}
use Rattle.broadcast.proofs.Frames.{npbch_before}
use Rattle.broadcast.proofs.npbch_found.Goals as goal

pub returns-then-not-is_npbch : goal.returns-then-not-is_npbch
returns-then-not-is_npbch c = sym c.is_npbch.ensures ∙ c.if-not-is_npbch.true

pub returns : goal.returns
returns c =
    let own = sym c.is_npbch.ensures ∙ c.if-not-is_npbch.false in
    (own, sym (npbch_before _ (omega arith) own), omega arith)
