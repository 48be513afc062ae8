-- An uplink sending is lawful.
use mathlib.Core.Bool.{Bool}
use mathlib.Core.Path.{refl}
use Prim.Native.Nat.{ℕ}
use Rattle.sending.specs.Demand.{Lawful}
use Rattle.sending.proofs.CopyOrder.{copied, carried_below}
use Rattle.uplink.specs.declared.Shape.{Shape}
use Rattle.uplink.specs.Fits.{Fits, OpenRepeats}
use Rattle.uplink.specs.Mapping.{sending_of}
use Rattle.uplink.proofs.GapPeriods.{slots_listed}
use Rattle.uplink.proofs.Lines.{some_data, elements_listed}

module _ (s : Shape) (is_open : ℕ → Bool) (f : Fits s) (o : OpenRepeats s is_open) where
  pub lawful : Lawful (sending_of s is_open) s.codeword s.copies
  lawful = record {
    some = some_data s f;
    units = slots_listed s is_open f o;
    elements = elements_listed s f;
    whole = refl;
    known = λ i h. carried_below s.consecutive s.group s.codeword i f.consecutive f.group f.groups f.codeword;
    each = λ w h. copied s.copies s.consecutive s.group s.codeword w f.consecutive f.group f.passes f.groups h;
  }
