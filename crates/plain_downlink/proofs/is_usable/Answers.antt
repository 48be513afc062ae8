use mathlib.Core.Path.{sym, ap, ◌∙◌}
use Rattle.cell.specs.Usable.{none}
use Rattle.cell.specs.Quick.{lent_cell}
use Rattle.plain_downlink.proofs.Seen.{seen_none, some_cause}
use Rattle.plain_downlink.proofs.is_usable.Goals as goal

pub returns-in-None : goal.returns-in-None
returns-in-None c =
    let a = c.args in
    ap none (sym c.in-None.is ∙ c.why.ensures) ∙ seen_none (lent_cell a.c a.si.now) a.p a.laid a.t

pub returns-in_default : goal.returns-in_default
returns-in_default c =
    let a = c.args in
    sym (some_cause c.why.result c.in_default.not-None) ∙ ap none c.why.ensures ∙ seen_none (lent_cell a.c a.si.now) a.p a.laid a.t
