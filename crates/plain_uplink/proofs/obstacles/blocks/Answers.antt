use mathlib.Core.Path.{refl}
use Rattle.plain_uplink.specs.Obstacles.{blocks}
use Rattle.plain_uplink.proofs.obstacles.blocks.Goals as goal

pub returns-in-None : goal.returns-in-None
unfolding blocks
returns-in-None c = rw c.in-None.is refl

pub returns-in-Some : goal.returns-in-Some
unfolding blocks
returns-in-Some c = rw c.in-Some.is refl
