use mathlib.Core.Path.{refl}
use Rattle.symbol.proofs.symbols.Goals as goal

pub returns : goal.returns
returns c = rw (c.qpsk-d.ensures, c.qpsk-c.ensures, c.qpsk-b.ensures, c.qpsk-a.ensures) refl
