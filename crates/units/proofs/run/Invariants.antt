use mathlib.Core.Path.{◌≡◌}
use Prim.Native.Nat.{◌+◌, ◌-◌}
use Rattle.counting.specs.Counting.{rank}
use Rattle.spans.specs.Pattern.{allows}
use Rattle.units.specs.Quick.{begin_of, Small, wants_from, rest_from}
use Rattle.units.proofs.run.Given as goal

abbrev pub invariant-loop-n : goal.invariant-loop-n
invariant-loop-n l =
    record {
      small : Small l.table l.n l.wants;
      free : l.free ≡ rank (allows l.p) (begin_of l.table l.n);
      wanted : l.wants ≡ wants_from l.table (allows l.p) l.fn.s.n l.initial.wants (l.n - l.fn.s.n);
      counted : l.k + rest_from l.table (allows l.p) l.fn.s.n l.initial.wants (l.n - l.fn.s.n) ≡ l.initial.k;
    }
