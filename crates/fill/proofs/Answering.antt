-- What a fill leaves in the output, from a judged call.
use mathlib.Core.Bool.{Bool, false, cond, not}
use mathlib.Core.List.{List, ◌++◌}
use mathlib.Core.Path.{◌≡◌, sym, ap, ap₂, ◌∙◌}
use Prim.Native.Nat.{ℕ, ◌+◌, ◌*◌}
use native.Mathlib.Nat.{zero-add}
use lib.Dec.{eqb}
use lib.Ieee.{Float}
use lib.ListN.{length}
use borrow.Author.Tests.{eq-eqb, ne_eqb, eqb-true, not-false}
use Rattle.std.specs.Prelude.{Ok}
use Rattle.refusals.specs.declared.Refusal.{Refusal}
use Rattle.refusals.specs.Refusal.{number_of}
use Rattle.refusals.proofs.Numbers.{never_0}
use Rattle.counting.specs.Counting.{count}
use Rattle.grid.specs.Grid.{subcarriers, slot_elements, numbers}
use Rattle.cell.specs.declared.Cell.{Cell}
use Rattle.elements.specs.declared.Layout.{Layout}
use Rattle.elements.specs.Elements.{used}
use Rattle.cell.specs.Layout.{layout_of}
use Rattle.npdsch.specs.declared.NpdschGrant.{NpdschGrant}
use Rattle.symbol.specs.declared.Symbol.{Symbol}
use Rattle.symbol.specs.Outgoing.{written_of}
use Rattle.symbol.specs.Quick.{symbols_of}
use Rattle.transmitted.specs.declared.Call.{Call}
use Rattle.transmitted.specs.GoesOut.{outgoing_of}
use Rattle.transmitted.specs.Quick.{goes_in, CallFor}
use Rattle.transmitted.proofs.Calling.{call_passed}
use Rattle.fill.specs.Refusals.{fill_refusal}
use Rattle.fill.specs.Fill.{laid, filled_of, output_of}
use Rattle.fill.specs.Quick.{written_in}
use Rattle.fill.proofs.Laid.{laid_plus, laid_same}
use Rattle.fill.proofs.Writing.{first_on, second_on, written_from}

module _ (c : Cell) (anchor other : List ℕ) (g : NpdschGrant) (i : ℕ) (bits : List ℕ) (level : Float) where
  pub output_refused : (out : List Float) (e : Refusal) → number_of e ≡ fill_refusal c anchor other g i bits level out
      → out ≡ output_of c anchor other g i bits level out
  output_refused out e f =
      sym (ap (λ (t : Bool). cond t (filled_of c anchor other g i bits level) out)
      (ne_eqb (fill_refusal c anchor other g i bits level out) 0 (λ z. never_0 e (f ∙ z))))

  module _ (out : List Float) (k : Call) (j : CallFor c anchor other g i false bits (not (eqb (length out) numbers)) level (Ok k)) where
    pub output_size : length out ≡ numbers
    output_size =
        eqb-true (length out) numbers (not-false (eqb (length out) numbers) (call_passed c anchor other g i false bits (not (eqb (length out) numbers)) level k j).fitting)

    -- both slots, one after the other; symbol n is the first of the second
    pub both_slots : (h : Layout) (four : List Symbol) (n : ℕ) → h ≡ layout_of c.config → four ≡ symbols_of level
        → n ≡ k.first + count (used h 0 subcarriers) (0 * slot_elements) slot_elements
        → laid (written_in h k.first bits four (0 * slot_elements)) slot_elements ++ laid (written_in h n bits four (1 * slot_elements)) slot_elements
        ≡ filled_of c anchor other g i bits level
    unfolding filled_of
    both_slots h four n hl hf hn =
        let at : ℕ → Symbol = λ x. written_of bits level (outgoing_of c anchor other g i x) in
        let is : (x : ℕ) → written_of bits level (goes_in h k.first x) ≡ at x = λ x.
        ap (λ (y : Layout). written_of bits level (goes_in y k.first x)) hl ∙ ap (written_of bits level) (j.accepted.going x) in
        ap₂ (λ (a b : List Float). a ++ b)
        (laid_same (written_in h k.first bits four 0) at slot_elements
        (λ x. written_from h k.first bits level four hf k.first 0 x (first_on h k.first) ∙ ap (λ (y : ℕ). written_of bits level (goes_in h k.first y)) (zero-add x) ∙ is x))
        (laid_same (written_in h n bits four slot_elements) (λ x. at (slot_elements + x)) slot_elements
        (λ x. written_from h k.first bits level four hf n slot_elements x (second_on h k.first n hn) ∙ is (slot_elements + x)))
        ∙ sym (laid_plus at slot_elements slot_elements)

    pub output_filled : filled_of c anchor other g i bits level ≡ output_of c anchor other g i bits level out
    output_filled =
        sym (ap (λ (t : Bool). cond t (filled_of c anchor other g i bits level) out)
        (eq-eqb (fill_refusal c anchor other g i bits level out) 0 (sym j.number)))
