-- An uplink grant's sending: its slots, their data elements, the copy order, and kind 1 on the reference signal of
-- slots that are sent.
use Rattle.std.specs.Prelude.{Bool, ◌&&◌, ℕ, ◌*◌}
use mir.Val.{bool_byte}
use Rattle.sending.specs.CopyOrder.{carried}
use Rattle.sending.specs.Sending.{Sending}
use Rattle.uplink.specs.declared.Shape.{Shape}
use Rattle.uplink.specs.Timing.{sent_slots, slot_at, is_sent, index_of}
use Rattle.uplink.specs.Elements.{carries_data, carries_reference, slot_data, element_at, number_of}

abbrev pub sending_of : Shape → (ℕ → Bool) → Sending
sending_of s is_open = record {
  K = sent_slots s;
  W = slot_data s;
  time = slot_at s is_open;
  sent = is_sent s is_open;
  index = index_of s is_open;
  elem = element_at s;
  used = carries_data s;
  number = number_of s;
  carry = carried s.consecutive s.group s.codeword;
  kind = λ slot x. bool_byte (is_sent s is_open slot && carries_reference s x);
  copies = s.copies;
}

-- symbols of the codeword
abbrev pub codeword_symbols : Shape → ℕ
codeword_symbols s = s.codeword * slot_data s
