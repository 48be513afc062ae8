use mathlib.Core.Path.{◌≡◌, sym}
use native.Mathlib.Omega.{arith}
use Rattle.elements.specs.Quick.{rows, six_in_rows}
use Rattle.elements.proofs.Closed.{closed, rows_second, rows_counted}
use Rattle.elements.proofs.count.Goals as goal

pub returns : goal.returns
returns c =
    let g = c.args.g in
    let counted : c.closed_count.result ≡ six_in_rows g rows =
    omega (arith, c.closed_count.ensures, closed g c.requires.0, rows_second g c.requires.0 rows (omega arith)) in
    rw (c.count.ensures.0, counted) (sym (rows_counted g c.requires.0 c.args.from c.args.width c.requires.1 rows (omega arith)))
