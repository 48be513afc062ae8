use mathlib.Core.Path.{sym}
use native.Mathlib.Omega.{arith}
use Rattle.uplink.proofs.Lines.{data_before, data_after, after_references, data_symbol_parts}
use Rattle.uplink.proofs.data.data_symbols_before.Goals as goal

pub returns-then-l-s : goal.returns-then-l-s
returns-then-l-s c = sym (data_before c.args.s c.requires.0 c.args.l (omega arith))

pub returns-else-l-s : goal.returns-else-l-s
returns-else-l-s c =
    let a = c in
    sym (data_after a.args.s a.requires.0 a.args.l (after_references a.args.s a.requires.0 a.args.l a.requires.1 c.if-l-s.false)
    (omega (arith, (data_symbol_parts a.args.s a.requires.0 a.args.l a.requires.1).0)))
