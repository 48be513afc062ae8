use Prim.Native.Nat.{ℕ, ◌-◌, ◌/◌, ◌%◌, ◌^◌}
use mathlib.Core.Path.{ap, ◌∙◌}
use lib.Count.{ones}
use native.Mathlib.Omega.{arith}
use Rattle.counting.proofs.Rank.{rank_le}
use Rattle.spans.specs.Pattern.{span, allows}
use Rattle.spans.proofs.Laws.{rank_quick}
use Rattle.spans.proofs.Counted.rank_of.Goals as goal

pub returns : goal.returns
returns c =
    rank_quick c.args.self.pattern c.args.self.regular c.args.t c.whole_spans.result c.ones_of-part.result c.whole_spans.ensures
    (c.ones_of-part.ensures ∙ ap (λ (m : ℕ). ones (m / 2 ^ (40 - c.args.t % span))) c.mask_at.ensures)

pub overflow_add-result : goal.overflow_add-result
overflow_add-result c = omega (arith, returns c, rank_le (allows c.args.self.pattern) c.args.t)
