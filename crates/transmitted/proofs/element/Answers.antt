use Rattle.subframes.specs.Scaffold.{lent_again}
use Rattle.transmitted.proofs.element.Goals as goal

pub returns : goal.returns
returns c = rw (c.numbers-si.ensures, lent_again _) at c.element_lent.ensures
