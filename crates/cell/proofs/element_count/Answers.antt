use Rattle.subframes.specs.Scaffold.{lent_again}
use Rattle.cell.proofs.element_count.Goals as goal

pub returns : goal.returns
returns c = rw (c.numbers-si.ensures, lent_again _) at c.count_lent.ensures
