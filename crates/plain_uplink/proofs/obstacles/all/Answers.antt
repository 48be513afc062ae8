use mathlib.Core.List.{[], ◌∷◌}
use mathlib.Core.Path.{refl}
use Prim.Native.Nat.{zero, suc}
use native.Mathlib.Omega.{arith}
use Rattle.std.specs.List.{All}
use Rattle.nprach.proofs.Listing.{listed_1, listed_2, listed_3, listed_4}
use Rattle.plain_uplink.specs.Obstacles.{Sound}
use Rattle.plain_uplink.proofs.obstacles.all.Goals as goal

pub one-w1-requires : goal.one-w1-requires
one-w1-requires c = (c.requires.1, c.requires.2, c.requires.3, listed_1 c.args.ws c.requires.4)

pub one-w2-requires : goal.one-w2-requires
one-w2-requires c = (c.requires.1, c.requires.2, c.requires.3, listed_2 c.args.ws c.requires.4)

pub one-w3-requires : goal.one-w3-requires
one-w3-requires c = (c.requires.1, c.requires.2, c.requires.3, listed_3 c.args.ws c.requires.4)

pub one-w4-requires : goal.one-w4-requires
one-w4-requires c = (c.requires.1, c.requires.2, c.requires.3, listed_4 c.args.ws c.requires.4)

-- what holds of each of four
each : {X : Type 0} (P : X → Type 0) (w x y z : X) → P w → P x → P y → P z → All P (w ∷ x ∷ y ∷ z ∷ [])
each P w x y z a b c d zero e h = a
each P w x y z a b c d (suc zero) e h = b
each P w x y z a b c d (suc (suc zero)) e h = c
each P w x y z a b c d (suc (suc (suc zero))) e h = d
each P w x y z a b c d (suc (suc (suc (suc k)))) e h = absurd (omega arith)

pub returns : goal.returns
returns c = (
  rw (c.one-w1.ensures.0, c.one-w2.ensures.0, c.one-w3.ensures.0, c.one-w4.ensures.0) refl,
  record {
    ms_from = c.requires.0;
    ms_to = c.requires.1;
    windows = each Sound _ _ _ _ c.one-w1.ensures.1 c.one-w2.ensures.1 c.one-w3.ensures.1 c.one-w4.ensures.1;
  },
)
