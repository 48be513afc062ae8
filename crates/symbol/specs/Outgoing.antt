-- What goes out at an element, what a fill writes there and what is answered for it: 01 "Questions" (fill, one
-- element).
use Rattle.std.specs.Prelude.{List, ℕ, Float}
use Rattle.std.specs.Float.Ieee as Ieee
use Rattle.std.specs.Float.{binary32}
use Rattle.symbol.specs.declared.Symbol.{Symbol}
use Rattle.symbol.specs.declared.Outgoing.{Outgoing}
use Rattle.symbol.specs.declared.Outgoing.TheVariants.{Ours}
use Rattle.symbol.specs.declared.Element.{Element}
use Rattle.symbol.specs.declared.Element.TheVariants.{Refused, Sent}
use Rattle.symbol.specs.declared.ElementNumbers.{ElementNumbers}
use Rattle.symbol.specs.Symbol.{symbol_of}

-- +0
abbrev pub plus_zero : Float
plus_zero = Ieee.of_bits binary32 0

-- a fill writes the symbol where it is ours, +0 elsewhere
abbrev pub written_of : List ℕ → Float → Outgoing → Symbol
written_of bits level Outgoing.Silent = record { re = plus_zero; im = plus_zero }
written_of bits level (Outgoing.Reference kind) = record { re = plus_zero; im = plus_zero }
written_of bits level (Ours c) = symbol_of bits level c

abbrev pub sent_of : Symbol → Element
sent_of s = Sent s.re s.im

-- one element's answer: silent, a reference place, or a symbol with its two numbers
abbrev pub answer_of : List ℕ → Float → Outgoing → Element
answer_of bits level Outgoing.Silent = Element.Silent
answer_of bits level (Outgoing.Reference kind) = Element.Reference kind
answer_of bits level (Ours c) = sent_of (symbol_of bits level c)

-- 01's numbers of an answer: the refusal; 0 silent, 1 or 2 a reference of that kind, 4 ours; the symbol's numbers
abbrev pub numbers_of : Element → ElementNumbers
numbers_of (Refused refusal) = record { no = refusal; state = 0; re = plus_zero; im = plus_zero }
numbers_of Element.Silent = record { no = 0; state = 0; re = plus_zero; im = plus_zero }
numbers_of (Element.Reference kind) = record { no = 0; state = kind; re = plus_zero; im = plus_zero }
numbers_of (Sent x y) = record { no = 0; state = 4; re = x; im = y }
