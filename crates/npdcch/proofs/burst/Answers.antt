use Rattle.npdcch.proofs.Accepting.{accepted_ncce}
use Rattle.npdcch.proofs.burst.Goals as goal

pub first_subcarrier-low-requires : goal.first_subcarrier-low-requires
first_subcarrier-low-requires c = accepted_ncce _ c.requires

pub returns : goal.returns
returns c = simp (c.used_subcarriers-width.ensures, c.first_subcarrier-low.ensures, c.layout-layout.ensures)
