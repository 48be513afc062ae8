-- The answer for one element, from a judged call.
use mathlib.Core.Bool.{false, not, ◌&&◌}
use mathlib.Core.List.{List}
use mathlib.Core.Path.{◌≡◌, refl, ap, ◌∙◌}
use Prim.Native.Nat.{ℕ, ◌<◌}
use lib.Dec.{ltb}
use lib.Ieee.{Float}
use borrow.Author.Tests.{ltb-true, not-false}
use Rattle.std.specs.Prelude.{Ok}
use Rattle.refusals.specs.declared.Refusal.{Refusal}
use Rattle.refusals.specs.Refusal.{number_of}
use Rattle.refusals.proofs.Numbers.{numbered}
use Rattle.transmitted.specs.Refusals.{call_refusal}
use Rattle.counting.proofs.Facts.{both_parts}
use Rattle.grid.specs.Grid.{subcarriers, symbols, slots, element_of}
use Rattle.cell.specs.declared.Cell.{Cell}
use Rattle.elements.specs.declared.Layout.{Layout}
use Rattle.cell.specs.Layout.{layout_of}
use Rattle.downlink.specs.Answers.{inside_grid}
use Rattle.npdsch.specs.declared.NpdschGrant.{NpdschGrant}
use Rattle.symbol.specs.declared.Outgoing.{Outgoing}
use Rattle.symbol.specs.declared.Element.TheVariants.{Refused}
use Rattle.symbol.specs.Outgoing.{answer_of}
use Rattle.transmitted.specs.declared.Call.{Call}
use Rattle.transmitted.specs.Element.{element_answer}
use Rattle.transmitted.specs.Quick.{goes_in, CallFor}
use Rattle.transmitted.proofs.Calling.{call_passed}

module _ (c : Cell) (anchor other : List ℕ) (g : NpdschGrant) (i : ℕ) (bits : List ℕ) (level : Float) where
  pub element_refused : (slot l k : ℕ) (e : Refusal) → number_of e ≡ call_refusal c anchor other g i (not (inside_grid slot l k)) bits false level
      → Refused (number_of e) ≡ element_answer c anchor other g i slot l k bits level
  unfolding element_answer
  element_refused slot l k e f = rw (← f, numbered e) refl

  module _ (slot l k : ℕ) (v : Call) (j : CallFor c anchor other g i (not (inside_grid slot l k)) bits false level (Ok v)) where
    pub element_inside : (slot < slots) × (l < symbols) × (k < subcarriers)
    element_inside =
        let inside = not-false (inside_grid slot l k) (call_passed c anchor other g i (not (inside_grid slot l k)) bits false level v j).inside in
        let a = both_parts (ltb slot slots) (ltb l symbols && ltb k subcarriers) inside in
        let b = both_parts (ltb l symbols) (ltb k subcarriers) a.1 in
        (ltb-true slot slots a.0, ltb-true l symbols b.0, ltb-true k subcarriers b.1)

    pub element_answered : (h : Layout) (o : Outgoing) → h ≡ layout_of c.config → o ≡ goes_in h v.first (element_of slot l k)
        → answer_of bits level o ≡ element_answer c anchor other g i slot l k bits level
    unfolding element_answer
    element_answered h o hl ho =
        let x = element_of slot l k in
        rw (← j.number)
        (ap (answer_of bits level) (ho ∙ ap (λ (y : Layout). goes_in y v.first x) hl ∙ j.accepted.going x))
