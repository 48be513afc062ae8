use mathlib.Core.Path.{refl, sym, ◌∙◌}
use borrow.Author.Tests.{eqb-true, eqb-false}
use Rattle.cell.proofs.Accepted.{form_bitmap}
use Rattle.cell.proofs.Judging.{refused_eight, on, refused_eighteen, accepted}
use Rattle.cell.proofs.formed.Goals as goal

pub load-m-requires : goal.load-m-requires
load-m-requires c = form_bitmap _ _ c.requires

pub returns-then-m-eq0 : goal.returns-then-m-eq0
returns-then-m-eq0 c = refused_eight _ _ _ c.requires c.load-m.ensures c.if-m-eq0.true

pub is_empty-requires : goal.is_empty-requires
is_empty-requires c =
    on _ _ _ c.requires c.load-m.ensures c.if-m-eq0.false _ c.pattern-p.ensures _ (rw c.messages_in-ms.ensures refl)

pub returns-then-is_empty : goal.returns-then-is_empty
returns-then-is_empty c =
    refused_eighteen _ _ _ c.requires c.load-m.ensures c.if-m-eq0.false _ c.pattern-p.ensures _ (rw c.messages_in-ms.ensures refl)
    (eqb-true _ 0 (sym c.is_empty.ensures ∙ c.if-is_empty.true))

pub returns : goal.returns
returns c =
    accepted _ _ _ c.requires c.load-m.ensures c.if-m-eq0.false _ c.pattern-p.ensures _ (rw c.messages_in-ms.ensures refl)
    (eqb-false _ 0 (sym c.is_empty.ensures ∙ c.if-is_empty.false))
