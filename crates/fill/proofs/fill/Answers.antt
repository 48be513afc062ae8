use Rattle.subframes.specs.Scaffold.{lent_again}
use Rattle.fill.proofs.fill.Goals as goal

pub numbers-si-requires : goal.numbers-si-requires
numbers-si-requires c = tt

pub fill_lent-requires : goal.fill_lent-requires
fill_lent-requires c = tt

pub returns : goal.returns
returns c = let f = c in rw (f.numbers-si.ensures, lent_again _) at f.fill_lent.ensures
