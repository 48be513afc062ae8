use Rattle.nprach.proofs.Closing.{closures_usable, closures_chained, leveled}
use Rattle.nprach.proofs.Spaced.{scaled, nested_on}
use Rattle.nprach.proofs.nested_closures.Goals as goal

pub nest-requires : goal.nest-requires
nest-requires c =
    let a = c.args in
    let w = scaled a.spacing a.tone a.tones _ _ c.narrow_tones-scale.ensures c.group_ms.ensures c.requires.0 in
    rw c.closures.ensures (
      closures_usable c.group_ms.result w.0 w.1 _ _ a.ws c.requires.1,
      closures_chained c.group_ms.result w.0 w.1 _ _ a.ws c.requires.1,
    )

pub returns : goal.returns
returns c =
    let a = c.args in
    let w = scaled a.spacing a.tone a.tones _ _ c.narrow_tones-scale.ensures c.group_ms.ensures c.requires.0 in
    nested_on a.spacing a.tone a.tones _ _ a.ws _ c.narrow_tones-scale.ensures c.group_ms.ensures
    (leveled c.group_ms.result w.0 w.1 _ _ a.ws c.requires.1 _ (rw (← c.closures.ensures) c.nest.ensures))
