use mathlib.Core.Path.{◌≡◌, sym, ap, ◌∙◌}
use Prim.Native.Nat.{◌+◌, ◌-◌, ◌*◌}
use native.Mathlib.Omega.{arith}
use Rattle.counting.proofs.Rank.{rank_le}
use Rattle.grid.specs.Grid.{subcarriers, symbols, element_of}
use Rattle.elements.specs.Elements.{used, number_of}
use Rattle.elements.proofs.Closed.{row_six, rows_counted}
use Rattle.elements.proofs.Summed.row_start.Goals as goal

pub overflow_sub-six : goal.overflow_sub-six
overflow_sub-six c =
    let s = c.args.self in
    rw (c.before-4.ensures.0, c.before-3.ensures.0, c.before-2.ensures.0)
    (row_six s.layout s.valid c.args.slot c.args.l c.requires.0 c.requires.1 c.requires.2).0

pub returns : goal.returns
returns c =
    let s = c.args.self in
    let n = c.args.ncces in
    let slot = c.args.slot in
    let l = c.args.l in
    let at : subcarriers * (slot * symbols + l) ≡ element_of slot l 0 = omega arith in
    let counted : c.count.result * (slot * c.before-2.result + c.before-3.result - c.before-4.result)
    ≡ number_of s.layout n.from n.width (element_of slot l 0) =
    rw (c.count.ensures.0, c.before-4.ensures.0, c.before-3.ensures.0, c.before-2.ensures.0, (row_six s.layout s.valid slot l c.requires.0 c.requires.1 c.requires.2).1)
    (sym (rows_counted s.layout s.valid n.from n.width n.part (slot * symbols + l) (omega (arith, c.requires.0, c.requires.1)))
    ∙ ap (number_of s.layout n.from n.width) at) in
    (counted, omega (arith, counted, rank_le (used s.layout n.from n.width) (element_of slot l 0), c.requires.0, c.requires.1))
