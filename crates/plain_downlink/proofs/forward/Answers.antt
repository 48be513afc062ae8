use Rattle.subframes.specs.Scaffold.{lent_again}
use Rattle.plain_downlink.proofs.forward.Goals as goal

pub returns : goal.returns
returns g c = rw (c.numbers-si.ensures, lent_again _) at c.forward_lent.ensures
