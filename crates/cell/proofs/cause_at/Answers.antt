use Rattle.subframes.specs.Scaffold.{lent_again}
use Rattle.cell.proofs.cause_at.Goals as goal

pub returns : goal.returns
returns c = rw (c.numbers-si.ensures, lent_again _) at c.cause_lent.ensures
