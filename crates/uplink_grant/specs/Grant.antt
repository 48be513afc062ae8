-- For the code alone. The question on a grant, whatever its kind.
use Rattle.std.specs.Prelude.{cond, ℕ, eqb}
use Rattle.sending.specs.Answer.{Question}
use Rattle.uplink.specs.declared.Shape.{Shape}
use Rattle.uplink.specs.Mapping.{sending_of}
use Rattle.nprach.specs.declared.Windows.{Windows}
use Rattle.postponed.specs.Beside.{refusal_beside, open_beside}

-- refused with the fields' number, or, where it is 0, with the windows' on the grant's shape
abbrev pub question : ℕ → ℕ → Shape → Windows → Question
question fields spacing s ws = record {
  no = cond (eqb fields 0) (refusal_beside spacing s ws) fields;
  sending = sending_of s (open_beside spacing s ws);
}
