use Rattle.subframes.specs.Scaffold.{lent_again}
use Rattle.cell.proofs.accept.Goals as goal

pub returns : goal.returns
returns c = rw (c.numbers-si.ensures, lent_again _) at c.accept_lent.ensures
