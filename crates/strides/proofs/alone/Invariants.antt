use mathlib.Core.Path.{◌≡◌}
use Prim.Native.Nat.{◌+◌, ◌*◌, ◌^◌, ◌≤◌, ◌<◌}
use Rattle.counting.specs.Counting.{rank}
use Rattle.spans.specs.Pattern.{allows}
use Rattle.units.specs.Quick.{begin_of, place_of}
use Rattle.strides.specs.Quick.{lone_want, lone_rest}
use Rattle.strides.proofs.alone.Given as goal

abbrev pub invariant-loop-i : goal.invariant-loop-i
invariant-loop-i l = record {
  wanted : l.want ≡ lone_want (allows l.p) l.table l.l l.l.start l.i;
  rested : l.rest ≡ lone_rest (allows l.p) l.table l.l l.l.start l.i;
  small : l.want ≤ 8 * place_of l.l (l.l.start + l.i);
  free : l.free ≡ rank (allows l.p) (begin_of l.table (l.l.start + l.i));
  few : l.rest < 2 ^ 29;
}
