use Prim.Native.Nat.{ℕ, ◌+◌, ◌*◌, ◌-◌}
use mathlib.Core.Path.{◌≡◌, sym}
use native.Mathlib.Omega.{arith}
use Rattle.counting.specs.Counting.{rank}
use Rattle.counting.proofs.Rank.{rank_le}
use Rattle.spans.specs.declared.Counted.{Counted}
use Rattle.spans.specs.Pattern.{span, with_sib1, allows}
use Rattle.spans.proofs.Laws.{spans_rank, sib1_le}
use Rattle.spans.proofs.Counted.whole_spans.Goals as goal

-- the sum, h of the n spans with SIB1
sum : (s : Counted) (h n : ℕ) → h ≡ rank (with_sib1 s.pattern) n
    → h * s.sib1_ones + (n - h) * s.usual_ones ≡ rank (allows s.pattern) (span * n)
sum s h n e = rw (e, s.counts.sib1, s.counts.usual) (sym (spans_rank s.pattern s.regular n))

pub overflow_mul-result : goal.overflow_mul-result
overflow_mul-result c = omega (arith, sum c.args.self _ _ c.sib1_before-h.ensures, rank_le (allows c.args.self.pattern) (span * c.args.s))

pub overflow_sub-result : goal.overflow_sub-result
overflow_sub-result c = omega (arith, c.sib1_before-h.ensures, sib1_le c.args.self.pattern c.args.self.regular c.args.s)

pub overflow_mul-result-2 : goal.overflow_mul-result-2
overflow_mul-result-2 c = omega (arith, sum c.args.self _ _ c.sib1_before-h.ensures, rank_le (allows c.args.self.pattern) (span * c.args.s))

pub overflow_add-result : goal.overflow_add-result
overflow_add-result c = omega (arith, sum c.args.self _ _ c.sib1_before-h.ensures, rank_le (allows c.args.self.pattern) (span * c.args.s))

pub returns : goal.returns
returns c = sum c.args.self _ _ c.sib1_before-h.ensures
