use mathlib.Core.Path.{refl}
use Rattle.messages.specs.Quick.{is_silent}
use Rattle.subframes.specs.Subframes.{messages_in}
use Rattle.subframes.proofs.are_none.Goals as goal

pub returns : goal.returns
unfolding messages_in is_silent
returns c = λ short. rw short refl
