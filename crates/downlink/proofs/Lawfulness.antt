-- A burst over usable subframes is lawful.
use mathlib.Core.Bool.{Bool}
use mathlib.Core.Path.{◌≡◌, refl}
use Prim.Native.Nat.{ℕ, ◌+◌, ◌<◌}
use native.Mathlib.Nat.{mod-one}
use native.Mathlib.Omega.{arith}
use Rattle.counting.specs.Counting.{rank}
use Rattle.counting.proofs.Period.{lists}
use Rattle.sending.specs.Demand.{Lawful}
use Rattle.sending.proofs.CopyOrder.{copied, carried_below}
use Rattle.elements.proofs.Laws.{count_some, used_listed}
use Rattle.downlink.specs.declared.Burst.{Burst}
use Rattle.downlink.specs.Fits.{Fits}
use Rattle.downlink.specs.Mapping.{sent_subframes, first_of, sending_of}

module _ (u : ℕ → Bool) (P : ℕ) (repeats : (t : ℕ) → u (t + P) ≡ u t) (some : 0 < rank u P) (b : Burst) (f : Fits b) where
  pub lawful : Lawful (sending_of u P b) b.codeword b.copies
  lawful = record {
    some = count_some b.layout b.low b.width f.part;
    units = lists u P repeats some (first_of u P b) (sent_subframes b);
    elements = used_listed b.layout b.low b.width;
    whole = refl;
    known = λ i h. carried_below b.consecutive 1 b.codeword i f.consecutive (omega arith) (mod-one b.codeword) f.codeword;
    each = λ w h. copied b.copies b.consecutive 1 b.codeword w f.consecutive (omega arith) f.passes (mod-one b.codeword) h;
  }
