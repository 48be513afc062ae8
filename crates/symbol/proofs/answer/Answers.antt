use mathlib.Core.Path.{sym, ap, ◌∙◌}
use Rattle.symbol.specs.Outgoing.{sent_of, answer_of}
use Rattle.symbol.proofs.Picked.{picked}
use Rattle.symbol.proofs.answer.Goals as goal

pub returns-in-Ours : goal.returns-in-Ours
returns-in-Ours c =
    let k = c in
    let a = k.args in
    ap sent_of (c.symbol_at-s.ensures ∙ picked a.bits.now a.level _ _ c.symbols.ensures) ∙ sym (ap (answer_of a.bits.now a.level) c.in-Ours.is)

pub symbol_at-s-requires : goal.symbol_at-s-requires
symbol_at-s-requires c = let k = c in k.requires.has _ c.in-Ours.is
