use Rattle.subframes.specs.Scaffold.{lent_again}
use Rattle.downlink.proofs.backward.Goals as goal

pub returns : goal.returns
returns g c = rw (c.numbers-si.ensures, lent_again _) at c.backward_lent.ensures
