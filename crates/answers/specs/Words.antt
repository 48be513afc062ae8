-- For the code alone. The words of causes and of faults.
use Rattle.std.specs.Prelude.{ℕ, List, codes}
use Rattle.cell.specs.declared.Cause.{Cause}
use Rattle.cell.specs.declared.Cause.TheVariants.{None, Npbch, Npss, Nsss, Sib1, Message, Bitmap}
use Rattle.questions.specs.declared.question.Fault.{Fault}
use Rattle.questions.specs.declared.question.Fault.TheVariants.{Long, Question, Kind, Value, Name, Number, Hex, Size}

abbrev pub cause_word : Cause → List ℕ
cause_word None = codes "none"
cause_word Npbch = codes "npbch"
cause_word Npss = codes "npss"
cause_word Nsss = codes "nsss"
cause_word Sib1 = codes "sib1"
cause_word Message = codes "message"
cause_word Bitmap = codes "bitmap"

abbrev pub fault_word : Fault → List ℕ
fault_word Long = codes "long"
fault_word Question = codes "question"
fault_word Kind = codes "kind"
fault_word Value = codes "value"
fault_word Name = codes "name"
fault_word Number = codes "number"
fault_word Hex = codes "hex"
fault_word Size = codes "size"
