use native.Mathlib.Omega.{arith}
use Rattle.elements.proofs.Laws.{count_some, count_le}
use Rattle.downlink.proofs.used_elements.Goals as goal

pub returns : goal.returns
returns c =
    let g = c.args.b in (
      c.count.ensures,
      omega (arith, c.count.ensures, count_some g.layout g.low g.width c.requires.part),
      omega (arith, c.count.ensures, count_le g.layout g.low g.width),
    )
