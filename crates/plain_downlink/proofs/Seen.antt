-- No cause is seen at a subframe that is left, and some cause at any other.
use mathlib.Core.Bool.{Bool, true, false, cond, ◌&&◌}
use mathlib.Core.Path.{◌≡◌, refl}
use Prim.Native.Nat.{ℕ}
use Rattle.spans.specs.declared.Pattern.{Pattern}
use Rattle.spans.specs.Pattern.{allows}
use Rattle.subframes.specs.Scaffold.{left_in}
use Rattle.cell.specs.declared.Cell.{Cell}
use Rattle.cell.specs.declared.Cause.{Cause}
use Rattle.cell.specs.declared.Cause.TheVariants.{None, Npbch, Npss, Nsss, Sib1, Message, Bitmap}
use Rattle.cell.specs.Usable.{none, anchor_cause}
use Rattle.cell.specs.Quick.{why_not_free, why_not, seen}

by : (left message : Bool) (x : Cause) → none (cond left None (cond message Message (cond (none x) Bitmap x))) ≡ left
by true m x = refl
by false true x = refl
by false false None = refl
by false false Npbch = refl
by false false Npss = refl
by false false Nsss = refl
by false false Sib1 = refl
by false false Message = refl
by false false Bitmap = refl

pub seen_none : (c : Cell) (p : Pattern) (laid : Bool) (t : ℕ) → none (seen c p laid t) ≡ left_in p laid c.messages t
unfolding seen why_not why_not_free
seen_none c p laid t = by (left_in p laid c.messages t) (laid && allows p t) (anchor_cause c.config t)

pub some_cause : (x : Cause) → (x ≡ None → ⊥) → none x ≡ false
some_cause None n = absurd (n refl)
some_cause Npbch n = refl
some_cause Npss n = refl
some_cause Nsss n = refl
some_cause Sib1 n = refl
some_cause Message n = refl
some_cause Bitmap n = refl
