use mathlib.Core.Path.{sym, ap, ◌∙◌}
use native.Mathlib.Omega.{arith}
use lib.ListN.{length}
use Rattle.cell.proofs.Accepted.{accepted_bitmap, in_force_lem, none_in_force}
use Rattle.cell.proofs.in_force.Goals as goal

pub slice_bounds-result-end : goal.slice_bounds-result-end
slice_bounds-result-end c =
    omega (arith, c.bytes-n.ensures, ap length c.own-own.ensures, (accepted_bitmap c.args.c c.args.anchor.now c.args.other.now (sym c.judge.ensures ∙ c.if-judge-eq0.true)).long)

pub returns-then-judge-eq0 : goal.returns-then-judge-eq0
returns-then-judge-eq0 c =
    in_force_lem c.args.c c.args.anchor.now c.args.other.now c.bytes-n.result c.own-own.result.now (sym c.judge.ensures ∙ c.if-judge-eq0.true) c.bytes-n.ensures c.own-own.ensures

pub returns : goal.returns
returns c =
    none_in_force _ _ _ (λ z. c.if-judge-eq0.false (c.judge.ensures ∙ z))
