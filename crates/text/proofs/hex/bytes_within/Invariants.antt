-- The bytes read, of which the room keeps the first, stand before those of the rest.
use Rattle.std.proofs.Common.{◌≡◌, ◌+◌, ◌*◌, length}
use Rattle.text.proofs.Hexwise.{Reads}
use Rattle.text.proofs.hex.bytes_within.Given as goal

abbrev pub invariant-loop-rest : goal.invariant-loop-rest
invariant-loop-rest g l = record {
  long : length l.room ≡ g.row.N;
  halves : 2 * l.count + length l.rest ≡ length l.s;
  reads : Reads g.row.N l.s l.room l.count l.rest;
}

abbrev pub decreases-loop-rest : goal.decreases-loop-rest
decreases-loop-rest g l = length l.rest
