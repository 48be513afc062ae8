-- A downlink sending: usable subframes in order from the first, the used elements of each, and the copy order: TS
-- 36.211 clauses 10.2.3.4 and 10.2.5.5, TS 36.213 clause 16.4.1; 01 "Downlink grants". u says which subframes are
-- usable; every P in a row have a usable one.
use Rattle.std.specs.Prelude.{Bool, cond, ℕ, ◌-◌, ◌*◌}
use Rattle.counting.specs.Counting.{count, select, among_first}
use Rattle.sending.specs.CopyOrder.{carried}
use Rattle.sending.specs.Sending.{Sending}
use Rattle.elements.specs.Elements.{kind_of, used, count_of, element_at, number_of}
use Rattle.downlink.specs.declared.Burst.{Burst}

-- how many subframes are sent: the codeword's subframes, once for each copy
abbrev pub sent_subframes : Burst → ℕ
sent_subframes b = b.copies * b.codeword

-- the first is the usable one before which exactly `skip` usable ones lie, counting from `from`
abbrev pub first_of : (ℕ → Bool) → ℕ → Burst → ℕ
first_of u P b = select u P b.from b.skip

-- subframe t is one of the sent ones
abbrev pub is_sent : (ℕ → Bool) → ℕ → Burst → ℕ → Bool
is_sent u P b t = among_first u (first_of u P b) (sent_subframes b) t

-- a kind is answered only inside subframes that are sent
abbrev pub sending_of : (ℕ → Bool) → ℕ → Burst → Sending
sending_of u P b = record {
  K = sent_subframes b;
  W = count_of b.layout b.low b.width;
  time = select u P (first_of u P b);
  sent = λ t. is_sent u P b t;
  index = λ t. count u (first_of u P b) (t - first_of u P b);
  elem = element_at b.layout b.low b.width;
  used = used b.layout b.low b.width;
  number = number_of b.layout b.low b.width;
  carry = carried b.consecutive 1 b.codeword;
  kind = λ t x. cond (is_sent u P b t) (kind_of b.layout x) 0;
  copies = b.copies;
}

-- symbols of the codeword, and places: each copy has every symbol once
abbrev pub codeword_symbols : Burst → ℕ
codeword_symbols b = b.codeword * count_of b.layout b.low b.width

abbrev pub places : Burst → ℕ
places b = sent_subframes b * count_of b.layout b.low b.width
