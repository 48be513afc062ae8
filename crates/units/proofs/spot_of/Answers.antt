use Rattle.units.proofs.Finding.{spotted}
use Rattle.units.proofs.spot_of.Goals as goal

pub returns : goal.returns
returns c = (spotted c.args.table c.requires.0 c.args.t c.requires.1 c.quotient-n.result c.quotient-n.ensures).2
