use mathlib.Core.Path.{sym, ◌∙◌}
use Rattle.cell.proofs.Accepted.{config_bitmap}
use Rattle.cell.proofs.Judging.{eight_alone, eighteen_alone, accepted_alone}
use Rattle.cell.proofs.formed_alone.Goals as goal

pub load-m-requires : goal.load-m-requires
load-m-requires c = config_bitmap _ _ c.requires

pub returns-then-m-eq0 : goal.returns-then-m-eq0
returns-then-m-eq0 c = λ ms silent. eight_alone _ _ ms silent _ c.requires c.load-m.ensures c.if-m-eq0.true

pub is_empty-requires : goal.is_empty-requires
is_empty-requires c = (c.pattern-p.ensures.shows _ (config_bitmap _ _ c.requires) c.load-m.ensures).regular

pub returns-then-is_empty : goal.returns-then-is_empty
returns-then-is_empty c =
    λ ms silent.
    eighteen_alone _ _ ms silent _ c.requires c.load-m.ensures c.if-m-eq0.false _ c.pattern-p.ensures
    (sym c.is_empty.ensures ∙ c.if-is_empty.true)

pub returns : goal.returns
returns c =
    λ ms silent.
    accepted_alone _ _ ms silent _ c.requires c.load-m.ensures c.if-m-eq0.false _ c.pattern-p.ensures
    (sym c.is_empty.ensures ∙ c.if-is_empty.false)
