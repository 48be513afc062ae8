use mathlib.Core.Path.{ap, ◌∙◌}
use native.Mathlib.Omega.{arith}
use Rattle.std.proofs.lemmas.Grind.{common_steps}
use Rattle.spans.specs.Pattern.{allows}
use Rattle.strides.specs.Quick.{alone_of}
use Rattle.strides.proofs.rest_of.Goals as goal

pub returns : goal.returns
returns c =
    let e = c.alone-rest.ensures.0 ∙ ap (alone_of c.args.table (allows c.args.p)) c.lane.ensures in
    (record { each = λ i x h. grind (arith, common_steps, c.requires.2.each i x, e) }, e)
