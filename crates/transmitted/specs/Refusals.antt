-- When a fill, or a question on one element, is refused, and with which number: the cell's refusals, the grant's,
-- then 14 to 17 of 01's table.
use Rattle.std.specs.Prelude.{Bool, false, cond, not, ◌||◌, List, ℕ, ◌+◌, ◌*◌, ◌/◌, eqb, leb, Float, length}
use Rattle.cell.specs.declared.Cell.{Cell}
use Rattle.elements.specs.Elements.{count_of}
use Rattle.downlink.specs.declared.Burst.{Burst}
use Rattle.downlink.specs.Mapping.{sent_subframes}
use Rattle.downlink.specs.Answers.{inside_grid}
use Rattle.npdsch.specs.declared.NpdschGrant.{NpdschGrant}
use Rattle.npdsch.specs.Refusals.{refusal_of}
use Rattle.npdsch.specs.Questions.{burst_of}
use Rattle.sending.specs.Answer.{no_such_place}
use Rattle.symbol.specs.Symbol.{level_in_range}

-- ceil(N·E / 4): two bits for each symbol of the whole codeword
abbrev pub codeword_bytes : Burst → ℕ
codeword_bytes b = (b.codeword * count_of b.layout b.low b.width + 3) / 4

-- 14 to 17, for transmitted subframe i; outside: the element that is asked lies outside the grid; wrongOutput: the
-- output has another size
unfoldable pub late_refusal : Burst → ℕ → Bool → List ℕ → Bool → Float → ℕ
late_refusal b i outside bits wrongOutput level =
    cond (leb (sent_subframes b) i || outside) no_such_place
    (cond (not (eqb (length bits) (codeword_bytes b)) || wrongOutput) 15
    (cond (not (level_in_range level)) 16
    (cond (eqb b.layout.nports 2) 17 0)))

-- the cell's and the grant's come first
unfoldable pub call_refusal : Cell → List ℕ → List ℕ → NpdschGrant → ℕ → Bool → List ℕ → Bool → Float → ℕ
call_refusal c anchor other g i outside bits wrongOutput level =
    cond (eqb (refusal_of c anchor other g) 0) (late_refusal (burst_of c.config g) i outside bits wrongOutput level)
    (refusal_of c anchor other g)

-- the element is any number of slot, l and k; there is no output
abbrev pub element_refusal : Cell → List ℕ → List ℕ → NpdschGrant → ℕ → ℕ → ℕ → ℕ → List ℕ → Float → ℕ
element_refusal c anchor other g i slot l k bits level =
    call_refusal c anchor other g i (not (inside_grid slot l k)) bits false level
