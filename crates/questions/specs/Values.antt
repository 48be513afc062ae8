-- For the code alone. The values that no line has given, and which value stands where in what is asked.
use Rattle.std.specs.Prelude.{◌≡◌, List, [], ◌∷◌, ◌++◌, ℕ, flat_map, get_or}
use Rattle.std.specs.List.{repeat}
use Rattle.cell.specs.declared.Cell.{Cell}
use Rattle.cell.specs.declared.CellConfig.{CellConfig}
use Rattle.harq_ack.specs.declared.HarqAckGrant.{HarqAckGrant}
use Rattle.messages.specs.declared.Messages.{Messages}
use Rattle.messages.specs.declared.Schedule.{Schedule}
use Rattle.npdcch.specs.declared.NpdcchGrant.{NpdcchGrant}
use Rattle.npdsch.specs.declared.NpdschGrant.{NpdschGrant}
use Rattle.nprach.specs.declared.Window.{Window}
use Rattle.nprach.specs.declared.Windows.{Windows}
use Rattle.npusch.specs.declared.NpuschGrant.{NpuschGrant}
use Rattle.questions.specs.declared.question.Kind.{Kind}
use Rattle.questions.specs.declared.question.Kind.TheVariants.{Up, Ack, Down, Control, Npbch, Sib1}
use Rattle.questions.specs.declared.values.Values.{Values}
use Rattle.search_space.specs.declared.SearchSpace.{SearchSpace}
use Rattle.text.specs.Buffer.{buffer_bytes}
use Rattle.walk.specs.declared.Grant.{Grant}
use Rattle.walk.specs.declared.Grant.TheVariants.{Npusch, HarqAck, Npdsch, Npdcch}
use Rattle.walk.specs.declared.Walk.{Walk}

abbrev pub of_window : Window → List ℕ
of_window w = w.period ∷ w.start ∷ w.length ∷ w.tone ∷ []

abbrev pub of_schedule : Schedule → List ℕ
of_schedule s = s.period ∷ s.every ∷ s.size ∷ []

-- the numbers but room and the messages' window
abbrev pub numbers : Values → List ℕ
numbers v =
    v.mode ∷ v.carrier ∷ v.identity ∷ v.nports ∷ v.cports ∷ v.control ∷ v.sib1 ∷ v.bits ∷ v.sioffset ∷ v.message_count ∷
    v.n ∷ v.delay ∷ v.rmax ∷ v.subframes ∷ v.copies ∷ v.r ∷ v.format ∷ v.ncce ∷ v.spacing ∷ v.subcarrier ∷ v.units ∷
    v.mcs ∷ v.field ∷ v.window_count ∷ v.g ∷ v.alpha ∷ v.p ∷ v.t ∷ v.slot ∷ v.l ∷ v.k ∷ v.i ∷ v.engine ∷ v.level ∷
    v.no ∷ (flat_map of_window v.windows ++ flat_map of_schedule v.schedules)

-- as a program begins
pub record IsStart (v : Values) : Type 0 where
  pub room : v.room ≡ 336
  pub siwindow : v.siwindow ≡ 160
  pub others : numbers v ≡ repeat 63 (0 ∷ [])
  pub anchor : buffer_bytes v.anchor ≡ []
  pub other : buffer_bytes v.other ≡ []
  pub bytes : buffer_bytes v.«data» ≡ []

-- ---- which value stands where

abbrev pub config_of : Values → CellConfig
config_of v = record {
  mode = v.mode;
  carrier = v.carrier;
  identity = v.identity;
  nports = v.nports;
  cports = v.cports;
  control = v.control;
  sib1 = v.sib1;
  bits = v.bits;
}

abbrev pub schedule_of : Values → ℕ → Schedule
schedule_of v i = get_or v.schedules i (record { period = 0; every = 0; size = 0 })

abbrev pub messages_of : Values → Messages
messages_of v = record {
  window = v.siwindow;
  offset = v.sioffset;
  count = v.message_count;
  s1 = schedule_of v 0;
  s2 = schedule_of v 1;
  s3 = schedule_of v 2;
  s4 = schedule_of v 3;
}

abbrev pub cell_of : Values → Cell
cell_of v = record { config = config_of v; messages = messages_of v }

abbrev pub npdsch_of : Values → NpdschGrant
npdsch_of v = record { n = v.n; delay = v.delay; rmax = v.rmax; subframes = v.subframes; copies = v.copies }

abbrev pub npdcch_of : Values → NpdcchGrant
npdcch_of v = record { n = v.n; r = v.r; format = v.format; ncce = v.ncce }

abbrev pub search_space_of : Values → SearchSpace
search_space_of v = record { n = v.n; rmax = v.rmax; g = v.g; alpha = v.alpha }

abbrev pub npusch_of : Values → NpuschGrant
npusch_of v = record {
  n = v.n;
  spacing = v.spacing;
  subcarrier = v.subcarrier;
  units = v.units;
  copies = v.copies;
  delay = v.delay;
  mcs = v.mcs;
}

abbrev pub harq_ack_of : Values → HarqAckGrant
harq_ack_of v = record { n = v.n; spacing = v.spacing; field = v.field; copies = v.copies }

abbrev pub window_of : Values → ℕ → Window
window_of v i = get_or v.windows i (record { period = 0; start = 0; length = 0; tone = 0 })

abbrev pub windows_of : Values → Windows
windows_of v = record {
  count = v.window_count;
  w1 = window_of v 0;
  w2 = window_of v 1;
  w3 = window_of v 2;
  w4 = window_of v 3;
}

-- of each kind; one of the broadcast is taken as control
abbrev pub grant_of : Values → Kind → Grant
grant_of v Up = Npusch (npusch_of v) (windows_of v)
grant_of v Ack = HarqAck (harq_ack_of v) (windows_of v)
grant_of v Down = Npdsch (npdsch_of v)
grant_of v Control = Npdcch (npdcch_of v)
grant_of v Npbch = Npdcch (npdcch_of v)
grant_of v Sib1 = Npdcch (npdcch_of v)

abbrev pub walk_of : Values → Kind → Walk
walk_of v kind = record { cell = cell_of v; grant = grant_of v kind; p = v.p }
