use mathlib.Core.Path.{sym, ap, ◌∙◌}
use mathlib.Core.Bool.{not}
use Prim.Native.Nat.{◌+◌}
use Rattle.uplink.specs.Timing.{group_at}
use Rattle.plain_uplink.proofs.Clear.{none_stands}
use Rattle.plain_uplink.proofs.slots.is_open.Goals as goal

pub returns-then-not-any : goal.returns-then-not-any
returns-then-not-any c =
    let s = c.args.s in
    let h = c.if-not-any.true in
    ap not h ∙ sym (none_stands c.args.os (group_at s (s.first + c.args.x)) (sym c.requires.2 ∙ h))
