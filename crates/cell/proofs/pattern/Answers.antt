use borrow.Author.Tests.{eq-eqb, ne_eqb}
use Rattle.cell.proofs.Showing.{shows_anchor, shows_other}
use Rattle.cell.proofs.pattern.Goals as goal

pub returns-then-c-eq0 : goal.returns-then-c-eq0
returns-then-c-eq0 c =
    let a = c.args in
    rw (c.withheld.ensures, c.pattern.ensures)
    (record { shows = λ own f l. shows_anchor a.c own a.m f l (eq-eqb _ _ c.if-c-eq0.true) })

pub returns : goal.returns
returns c =
    let a = c.args in
    record { shows = λ own f l. shows_other a.c own a.m f l (ne_eqb _ _ c.if-c-eq0.false) }
