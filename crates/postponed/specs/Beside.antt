-- For the code alone. A shape beside random access windows: 02 L4.
use Rattle.std.specs.Prelude.{Bool, ◌≡◌, ℕ, ◌≤◌}
use Rattle.grid.specs.Grid.{uplink_subcarriers}
use Rattle.numerology.specs.Numerology.{slots_in, group_of}
use Rattle.sending.specs.Answer.{Question}
use Rattle.uplink.specs.declared.Shape.{Shape}
use Rattle.closures.specs.declared.Nested.{Nested}
use Rattle.closures.specs.Closures.{clear}
use Rattle.uplink.specs.Fits.{OpenRepeats}
use Rattle.uplink.specs.Quick.{Searchable}
use Rattle.uplink.specs.Mapping.{sending_of}
use Rattle.nprach.specs.declared.Windows.{Windows}
use Rattle.nprach.specs.Windows.{open_to, refusal_on}

-- the windows' refusal on the shape's tones, 19 or 20, or 0
abbrev pub refusal_beside : ℕ → Shape → Windows → ℕ
refusal_beside spacing s ws = refusal_on spacing s.tone s.tones ws

-- group u overlaps none of them in time and tone
abbrev pub open_beside : ℕ → Shape → Windows → ℕ → Bool
open_beside spacing s ws = open_to spacing s.tone s.tones ws

-- the question on the shape, in the groups that they leave open
abbrev pub question_beside : ℕ → Shape → Windows → Question
question_beside spacing s ws =
    record { no = refusal_beside spacing s ws; sending = sending_of s (open_beside spacing s ws) }

-- the numbers of a shape that its spacing gives; whoever makes shapes shows them
pub record AtSpacing (spacing : ℕ) (s : Shape) : Type 0 where
  pub listed : spacing ≤ 1
  pub subcarriers : s.subcarriers ≡ uplink_subcarriers spacing
  pub block : s.block ≡ slots_in spacing 256
  pub gap : s.gap ≡ slots_in spacing 40
  pub group : s.group ≡ group_of spacing

-- nested closures that leave the shape the groups that the windows leave, and what their search requires
pub record Leaves (spacing : ℕ) (s : Shape) (ws : Windows) (nested : Nested) : Type 0 where
  pub same : (u : ℕ) → clear nested.closures u ≡ open_beside spacing s ws u
  pub again : OpenRepeats s (clear nested.closures)
  pub searchable : Searchable s nested
