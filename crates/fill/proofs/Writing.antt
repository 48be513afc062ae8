-- What a fill writes at an element is what goes out there.
use mathlib.Core.Bool.{Bool, true, false, cond}
use mathlib.Core.List.{List}
use mathlib.Core.Path.{◌≡◌, refl, ap, ◌∙◌}
use Prim.Native.Nat.{ℕ, ◌+◌}
use native.Mathlib.Omega.{arith}
use lib.Dec.{eqb}
use lib.Ieee.{Float}
use Rattle.counting.specs.Counting.{count}
use Rattle.counting.proofs.Rank.{rank_zero, rank_count, count_from_zero}
use Rattle.grid.specs.Grid.{subcarriers, slot_elements}
use Rattle.sending.specs.Sending.{Content}
use Rattle.elements.specs.declared.Layout.{Layout}
use Rattle.elements.specs.Elements.{used, number_of, kind_of}
use Rattle.symbol.specs.declared.Outgoing.{Outgoing}
use Rattle.symbol.specs.declared.Outgoing.TheVariants.{Ours}
use Rattle.symbol.specs.declared.Symbol.{Symbol}
use Rattle.symbol.specs.Outgoing.{written_of}
use Rattle.symbol.specs.Quick.{symbols_of, silence, picked_of}
use Rattle.symbol.proofs.Picked.{picked}
use Rattle.transmitted.specs.GoesOut.{goes_out}
use Rattle.transmitted.specs.Quick.{goes_in}
use Rattle.fill.specs.Quick.{written_in}

-- symbol c is the next to go out at element `start`
module _ (g : Layout) (first : ℕ) where
  abbrev pub On : ℕ → ℕ → Type 0
  On c start = c ≡ first + number_of g 0 subcarriers start

  pub first_on : On first 0
  first_on = omega (arith, rank_zero (used g 0 subcarriers))

  pub second_on : (n : ℕ) → n ≡ first + count (used g 0 subcarriers) 0 slot_elements → On n slot_elements
  second_on n h = omega (arith, count_from_zero (used g 0 subcarriers) slot_elements)

  module _ (bits : List ℕ) (level : Float) (four : List Symbol) (h : four ≡ symbols_of level) where
    written_is : (x : ℕ) → cond (used g 0 subcarriers x) (picked_of four bits (first + number_of g 0 subcarriers x)) silence ≡ written_of bits level (goes_in g first x)
    unfolding goes_in
    written_is x = by (used g 0 subcarriers x)
      where
        plain : (b : Bool) (k : ℕ) → silence ≡ written_of bits level (cond b Outgoing.Silent (Outgoing.Reference k))
        plain true k = refl
        plain false k = refl

        by : (b : Bool) → cond b (picked_of four bits (first + number_of g 0 subcarriers x)) silence
            ≡ written_of bits level (cond b (Ours (first + number_of g 0 subcarriers x)) (goes_out (Content.not_ours (kind_of g x))))
        by true = picked bits level (first + number_of g 0 subcarriers x) four h
        by false = plain (eqb (kind_of g x) 0) (kind_of g x)

    pub written_from : (c start x : ℕ) → On c start → written_in g c bits four start x ≡ written_of bits level (goes_in g first (start + x))
    written_from c start x e =
        let n : c + count (used g 0 subcarriers) start x ≡ first + number_of g 0 subcarriers (start + x) = omega (arith, rank_count (used g 0 subcarriers) x start) in
        ap (λ (y : ℕ). cond (used g 0 subcarriers (start + x)) (picked_of four bits y) silence) n ∙ written_is (start + x)
