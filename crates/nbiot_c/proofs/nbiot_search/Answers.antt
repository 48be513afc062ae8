use mathlib.Core.Path.{◌∙◌}
use borrow.Author.Tests.{le-ltb}
use Rattle.buffers.proofs.Parts.{to_end}
use Rattle.nbiot_c.proofs.nbiot_search.Goals as goal

pub returns : goal.returns
returns c = simp (le-ltb _ _ c.if-cell-lt8.false, le-ltb _ _ c.if-space-lt4.false, le-ltb _ _ c.if-answer-lt48.false) (c.put_search.ensures ∙ simp (c.search_lent-a.ensures, c.search_space_at-s.ensures, c.config_at-c.ensures, to_end))
