-- What goes out at an element of a transmitted subframe of an NPDSCH: 01 "Questions" (fill, one element).
use Rattle.std.specs.Prelude.{cond, List, ℕ, eqb}
use Rattle.cell.specs.declared.Cell.{Cell}
use Rattle.sending.specs.Sending.{Content, ours, not_ours, content_at}
use Rattle.npdsch.specs.declared.NpdschGrant.{NpdschGrant}
use Rattle.npdsch.specs.Questions.{question_of}
use Rattle.symbol.specs.declared.Outgoing.{Outgoing}
use Rattle.symbol.specs.declared.Outgoing.TheVariants.{Ours}

-- ours by its symbol, a reference by its kind; nothing at a plain element
abbrev pub goes_out : Content → Outgoing
goes_out (ours symbol position) = Ours symbol
goes_out (not_ours kind) = cond (eqb kind 0) Outgoing.Silent (Outgoing.Reference kind)

-- at element x of transmitted subframe i
unfoldable pub outgoing_of : Cell → List ℕ → List ℕ → NpdschGrant → ℕ → ℕ → Outgoing
outgoing_of c anchor non_anchor g i x =
    let S = (question_of c anchor non_anchor g).sending in
    goes_out (content_at S (S.time i) x)
