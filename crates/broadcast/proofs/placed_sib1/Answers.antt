use mathlib.Core.Path.{sym, ap, ◌∙◌}
use Prim.Native.Nat.{ℕ, ◌+◌, ◌*◌}
use native.Mathlib.Omega.{arith}
use Rattle.downlink.specs.Mapping.{sent_subframes}
use Rattle.broadcast.specs.Channels.{sib1_of}
use Rattle.broadcast.proofs.Channels.{sib1_sent, fits, forward_refused, forward_past, forward_at}
use Rattle.broadcast.proofs.Frames.{sib1_at}
use Rattle.broadcast.proofs.placed_sib1.Goals as goal

pub returns-in_err-refusal : goal.returns-in_err-refusal
returns-in_err-refusal c =
    forward_refused c.args.c _ _ (sib1_of c.args.c.config) (sib1_sent c.args.c.config) _ _ c.from_residual.ensures.1 c.in_err-refusal.ensures c.args.p

pub located-requires : goal.located-requires
located-requires c =
    fits c.args.c _ _ (sib1_of c.args.c.config) (sib1_sent c.args.c.config) (sym c.in_ok-refusal.ensures) _ c.sib1_burst-b.ensures

pub returns-in_err-at : goal.returns-in_err-at
returns-in_err-at c =
    forward_past c.args.c _ _ (sib1_of c.args.c.config) (sib1_sent c.args.c.config) (sym c.in_ok-refusal.ensures) _ c.sib1_burst-b.ensures c.args.p
    _ _ c.from_residual-in_err-at.ensures.1 c.in_err-at.ensures.0 c.in_err-at.ensures.1

pub sib1_frame-frame-requires : goal.sib1_frame-frame-requires
sib1_frame-frame-requires c = omega (arith, c.in_ok-at.ensures.sent, ap sent_subframes c.sib1_burst-b.ensures)

pub returns : goal.returns
returns c =
    let below = ap sent_subframes c.sib1_burst-b.ensures in
    c.place.ensures
    ∙ forward_at c.args.c _ _ (sib1_of c.args.c.config) (sib1_sent c.args.c.config) (sym c.in_ok-refusal.ensures) _ c.sib1_burst-b.ensures c.args.p
    _ c.in_ok-at.ensures _
    (ap (λ (f : ℕ). 10 * f + 4) c.sib1_frame-frame.ensures
    ∙ sym (sib1_at c.args.c.config.identity c.args.c.config.sib1 _ (omega (arith, c.in_ok-at.ensures.sent, below))))
