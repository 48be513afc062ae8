use Rattle.std.proofs.Common.{◌≡◌, ap, length, arith, rules}
use Rattle.std.specs.Str.Iter.{lines_rest}
use Rattle.answers.proofs.told.write_lines_of.Goals as goal

pub loop-line-init : goal.loop-line-init
loop-line-init c =
    let same : c.into_iter-line-iterator.result ≡ c.lines-line-items.result = search rules in
    (search rules, omega (arith, ap (λ it. length (lines_rest it)) same, c.lines-line-items.ensures.len), omega arith)
