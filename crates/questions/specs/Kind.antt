-- For the code alone. What kinds are.
use Rattle.std.specs.Prelude.{Bool, true, false}
use Rattle.questions.specs.declared.question.Kind.{Kind}
use Rattle.questions.specs.declared.question.Kind.TheVariants.{Up, Ack, Down, Control, Npbch, Sib1}

-- a grant of the uplink
abbrev pub is_uplink : Kind → Bool
is_uplink Up = true
is_uplink Ack = true
is_uplink Down = false
is_uplink Control = false
is_uplink Npbch = false
is_uplink Sib1 = false

-- what an anchor broadcasts
abbrev pub is_broadcast : Kind → Bool
is_broadcast Up = false
is_broadcast Ack = false
is_broadcast Down = false
is_broadcast Control = false
is_broadcast Npbch = true
is_broadcast Sib1 = true
