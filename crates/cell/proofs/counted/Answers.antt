use mathlib.Core.Path.{sym, ap, ◌∙◌, subst}
use Rattle.grid.specs.Grid.{subcarriers}
use Rattle.elements.specs.declared.Layout.{Layout}
use Rattle.elements.specs.Elements.{count_of}
use Rattle.elements.specs.Scaffold.{Valid}
use Rattle.elements.proofs.Laws.{all_used, whole_part}
use Rattle.refusals.proofs.Numbers.{numbered}
use Rattle.cell.specs.Layout.{layout_of}
use Rattle.cell.specs.Quick.{count_after}
use Rattle.cell.proofs.Accepted.{layout_valid}
use Rattle.cell.proofs.counted.Goals as goal

pub count-requires : goal.count-requires
count-requires c =
    (subst Valid (sym c.layout.ensures) (layout_valid _ (c.requires (rw c.in-Ok.is))), whole_part)

pub returns-in-Ok : goal.returns-in-Ok
unfolding count_after
returns-in-Ok c =
    let counted = c.count.ensures ∙ ap (λ (g : Layout). count_of g 0 subcarriers) c.layout.ensures in
    simp (c.in-Ok.is, counted, all_used (layout_of c.args.c))

pub returns-in-Err : goal.returns-in-Err
unfolding count_after
returns-in-Err c = simp (c.in-Err.is, c.number.ensures, numbered c.in-Err.refusal)
