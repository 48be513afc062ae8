use Rattle.subframes.specs.Scaffold.{lent_again}
use Rattle.search_space.proofs.search.Goals as goal

pub returns : goal.returns
returns c = rw (c.numbers-si.ensures, lent_again _) at c.search_lent.ensures
