-- The parts of an answer, joined: an equation for each number that the code works out, and no path through the code.
use mathlib.Core.Bool.{Bool, true, false, ◌&&◌}
use mathlib.Core.Path.{◌≡◌, refl, sym, ap, ◌∙◌}
use Prim.Native.Nat.{ℕ, ◌+◌, ◌-◌, ◌*◌, ◌/◌, ◌%◌, ◌^◌, ◌≤◌, ◌<◌}
use native.Mathlib.Nat.{mul-le-mul, mod-lt, div-lt_iff_lt-mul}
use native.Mathlib.Omega.{arith}
use lib.Dec.{ltb}
use borrow.Author.Tests.{ltb-true}
use Rattle.counting.specs.Counting.{count, select}
use Rattle.counting.proofs.Facts.{both_parts}
use Rattle.grid.specs.Grid.{elements, slots, symbols, subcarriers, element_of}
use Rattle.sending.specs.CopyOrder.{carried}
use Rattle.sending.specs.Sending.{ours, not_ours}
use Rattle.sending.specs.Answer.{back_of, place_at, back_at}
use Rattle.sending.proofs.Answer.{inside_at}
use Rattle.sending.proofs.Demand.{spot_path}
use Rattle.elements.specs.declared.ElementUse.{ElementUse}
use Rattle.elements.specs.declared.ElementUse.TheVariants.{Used}
use Rattle.elements.specs.Elements.{kind_of, used, count_of, element_at, number_of}
use Rattle.elements.specs.Scaffold.{element_use_of}
use Rattle.elements.proofs.Laws.{count_some, used_listed, use_used}
use Rattle.downlink.specs.declared.Burst.{Burst}
use Rattle.downlink.specs.Fits.{Fits}
use Rattle.downlink.specs.Mapping.{sent_subframes, first_of, is_sent, sending_of, places}
use Rattle.downlink.specs.Answers.{refused_place, place_of, inside_grid}
use Rattle.downlink.specs.Quick.{content_in}

abbrev W : Burst → ℕ
W b = count_of b.layout b.low b.width

pub sent_small : (b : Burst) → Fits b → sent_subframes b ≤ 2 ^ 20
sent_small b f = omega (arith, mul-le-mul f.copies_small f.codeword_small)

pub places_small : (n w : ℕ) → n ≤ 2 ^ 20 → w ≤ elements → n * w ≤ 2 ^ 30
places_small n w h l = omega (arith, mul-le-mul h l)

-- ---- forward

module _ (u : ℕ → Bool) (P : ℕ) (b : Burst) (p : ℕ) where
  module _ (f : Fits b) (w : ℕ) (h : p < places b) (hw : w ≡ W b) where
    pub unit_below : p / w < sent_subframes b
    unit_below = rw hw ((div-lt_iff_lt-mul (count_some b.layout b.low b.width f.part)).1 h)

    pub rest_below : p % w < W b
    rest_below = omega (arith, ap (λ (y : ℕ). p % y) hw, mod-lt p (count_some b.layout b.low b.width f.part))

  pub forward_is : (w t x unit symbol : ℕ) → p < places b → w ≡ W b → t ≡ select u P (first_of u P b) (p / w)
      → x ≡ element_at b.layout b.low b.width (p % w) → unit ≡ carried b.consecutive 1 b.codeword (p / w) → symbol ≡ unit * w + p % w
      → place_of (record { time = t; element = x; symbol = symbol }) ≡ place_at refused_place place_of (sending_of u P b) p
  forward_is w t x unit symbol h hw ht hx hu hs =
      ap place_of (spot_path (ht ∙ ap (λ (y : ℕ). select u P (first_of u P b) (p / y)) hw)
      (hx ∙ ap (λ (y : ℕ). element_at b.layout b.low b.width (p % y)) hw)
      (hs ∙ ap (λ (y : ℕ). y * w + p % w) hu ∙ ap (λ (y : ℕ). carried b.consecutive 1 b.codeword (p / y) * y + p % y) hw))
      ∙ sym (inside_at refused_place place_of (sending_of u P b) p h)

-- ---- backward

pub inside_parts : (slot l k : ℕ) → inside_grid slot l k ≡ true → (slot < slots) × (l < symbols) × (k < subcarriers)
inside_parts slot l k h =
    let a = both_parts (ltb slot slots) (ltb l symbols && ltb k subcarriers) h in
    let b = both_parts (ltb l symbols) (ltb k subcarriers) a.1 in
    (ltb-true _ _ a.0, ltb-true _ _ b.0, ltb-true _ _ b.1)

-- the number of a used element is below the used elements
pub use_below : (b : Burst) (x : ℕ) (at : ElementUse) → at ≡ element_use_of b.layout b.low b.width x → (e : ℕ) → at ≡ Used e → e < W b
use_below b x at u e h =
    let o = use_used b.layout b.low b.width x e (sym u ∙ h) in
    omega (arith, o.1, (used_listed b.layout b.low b.width).below x o.0)

module _ (b : Burst) (i x : ℕ) where
  pub content_ours : (w e unit symbol p : ℕ) → used b.layout b.low b.width x ≡ true → w ≡ W b → e ≡ number_of b.layout b.low b.width x
      → unit ≡ carried b.consecutive 1 b.codeword i → symbol ≡ unit * w + e → p ≡ i * w + e → ours symbol p ≡ content_in b i x
  unfolding content_in
  content_ours w e unit symbol p y hw he hu hs hp = rw (y, ← hw, ← he, ← hu, ← hs, ← hp) refl

  pub content_unused : (kind : ℕ) → used b.layout b.low b.width x ≡ false → kind ≡ kind_of b.layout x → not_ours kind ≡ content_in b i x
  unfolding content_in
  content_unused kind n e = rw (n, e) refl

module _ (u : ℕ → Bool) (P : ℕ) (b : Burst) (t slot l k : ℕ) (inside : inside_grid slot l k ≡ true) where
  pub backward_unsent : is_sent u P b t ≡ false → back_of (not_ours 0) ≡ back_at (sending_of u P b) (inside_grid slot l k) t (element_of slot l k)
  unfolding back_at
  backward_unsent h = rw (inside, h) refl

  pub backward_sent : (i x : ℕ) → is_sent u P b t ≡ true → count u (first_of u P b) (t - first_of u P b) ≡ i → x ≡ element_of slot l k
      → back_of (content_in b i x) ≡ back_at (sending_of u P b) (inside_grid slot l k) t (element_of slot l k)
  unfolding back_at content_in
  backward_sent i x h e f = rw (inside, h, e, f) refl
