use mathlib.Core.Path.{sym, ◌∙◌}
use native.Mathlib.Omega.{arith}
use Rattle.sync.proofs.Broadcast.{npbch_rank}
use Rattle.broadcast.specs.Channels.{npbch_of}
use Rattle.broadcast.proofs.Channels.{npbch_sent, fits, forward_refused, forward_past, forward_at, index_below}
use Rattle.broadcast.proofs.Frames.{npbch_at}
use Rattle.broadcast.proofs.placed_npbch.Goals as goal

pub returns-in_err-refusal : goal.returns-in_err-refusal
returns-in_err-refusal c =
    forward_refused c.args.c _ _ (npbch_of c.args.c.config) (npbch_sent c.args.c.config) _ _ c.from_residual.ensures.1 c.in_err-refusal.ensures c.args.p

pub located-requires : goal.located-requires
located-requires c =
    fits c.args.c _ _ (npbch_of c.args.c.config) (npbch_sent c.args.c.config) (sym c.in_ok-refusal.ensures) _ c.npbch_burst-b.ensures

pub returns-in_err-at : goal.returns-in_err-at
returns-in_err-at c =
    forward_past c.args.c _ _ (npbch_of c.args.c.config) (npbch_sent c.args.c.config) (sym c.in_ok-refusal.ensures) _ c.npbch_burst-b.ensures c.args.p
    _ _ c.from_residual-in_err-at.ensures.1 c.in_err-at.ensures.0 c.in_err-at.ensures.1

pub overflow_mul-at : goal.overflow_mul-at
overflow_mul-at c =
    let below = index_below c.args.c _ _ (npbch_of c.args.c.config) (npbch_sent c.args.c.config) (sym c.in_ok-refusal.ensures) _ c.npbch_burst-b.ensures _ _ c.in_ok-at.ensures in
    omega (arith, below, npbch_rank)

pub returns : goal.returns
returns c =
    let below = index_below c.args.c _ _ (npbch_of c.args.c.config) (npbch_sent c.args.c.config) (sym c.in_ok-refusal.ensures) _ c.npbch_burst-b.ensures _ _ c.in_ok-at.ensures in
    c.place.ensures
    ∙ forward_at c.args.c _ _ (npbch_of c.args.c.config) (npbch_sent c.args.c.config) (sym c.in_ok-refusal.ensures) _ c.npbch_burst-b.ensures c.args.p
    _ c.in_ok-at.ensures _ (sym (npbch_at _ (omega (arith, below, npbch_rank))))
