-- The parts of an answer, joined: an equation for each number that the code works out, and no path through the code.
use mathlib.Core.Bool.{Bool, true, false, ◌&&◌}
use mathlib.Core.Path.{◌≡◌, refl, sym, ap, ap₂, ◌∙◌}
use Prim.Native.Nat.{ℕ, ◌+◌, ◌-◌, ◌*◌, ◌^◌, ◌≤◌, ◌<◌}
use native.Mathlib.Nat.{mul-le-mul}
use native.Mathlib.Omega.{arith}
use lib.Dec.{leb, ltb}
use mir.Val.{bool_byte}
use borrow.Author.Tests.{le-leb, lt-leb, leb-true}
use Rattle.counting.specs.Counting.{rank}
use Rattle.counting.proofs.Facts.{both_parts}
use Rattle.counting.proofs.Select.{among_from_zero}
use Rattle.grid.specs.Grid.{symbols, uplink_element_of}
use Rattle.sending.specs.CopyOrder.{carried}
use Rattle.sending.specs.Sending.{ours, not_ours}
use Rattle.sending.specs.Answer.{back_of, back_at}
use Rattle.sending.proofs.Answer.{inside_at}
use Rattle.uplink.specs.declared.Shape.{Shape}
use Rattle.uplink.specs.declared.Split.{Split}
use Rattle.uplink.specs.declared.UplinkPlace.{UplinkPlace}
use Rattle.uplink.specs.Fits.{Fits}
use Rattle.uplink.specs.Timing.{in_block, group_at, active, sent_slots, slot_at, is_sent, index_of}
use Rattle.uplink.specs.Elements.{carries_data, carries_reference, slot_data, number_of}
use Rattle.uplink.specs.Mapping.{sending_of}
use Rattle.uplink.specs.Scaffold.{places, place_in, back_in}
use Rattle.uplink.specs.Quick.{split_of}
use Rattle.uplink.specs.Answers.{refused_place, place_of}

-- ---- slots

pub sent_small : (s : Shape) → Fits s → sent_slots s < 2 ^ 32
sent_small s f =
    let a : s.copies ≤ 2 ^ 16 - 1 = omega (arith, f.copies_small) in
    let b : s.codeword ≤ 2 ^ 16 = omega (arith, f.codeword_small) in
    omega (arith, mul-le-mul a b)

pub unsent_before : (s : Shape) (is_open : ℕ → Bool) (slot : ℕ) → slot < s.first → false ≡ is_sent s is_open slot
unfolding is_sent
unsent_before s is_open slot h = rw (lt-leb s.first slot h) refl

module _ (s : Shape) (is_open : ℕ → Bool) (slot : ℕ) where
  pub sent_is : (a : Bool) (n K : ℕ) → s.first ≤ slot → a ≡ active s is_open (slot - s.first)
      → n ≡ rank (active s is_open) (slot - s.first) → K ≡ sent_slots s → (a && ltb n K) ≡ is_sent s is_open slot
  unfolding is_sent
  sent_is a n K h ha hn hK =
      rw (ha, hn, hK, le-leb s.first slot h) (sym (among_from_zero (active s is_open) (sent_slots s) (slot - s.first)))

  pub sent_active : s.first ≤ slot → is_sent s is_open slot ≡ true → active s is_open (slot - s.first) ≡ true
  sent_active h e = (both_parts (active s is_open (slot - s.first)) _ (sent_is _ _ _ h refl refl refl ∙ e)).0

  -- its group is open
  pub sent_open : is_sent s is_open slot ≡ true → is_open (group_at s slot) ≡ true
  unfolding is_sent active
  sent_open e =
      let h : s.first ≤ slot = leb-true s.first slot (both_parts (leb s.first slot) _ e).0 in
      let a = both_parts (in_block s (slot - s.first)) (is_open (group_at s (s.first + (slot - s.first)))) (sent_active h e) in
      let x : s.first + (slot - s.first) ≡ slot = omega arith in
      ap (λ (y : ℕ). is_open (group_at s y)) (sym x) ∙ a.1

-- ---- forward

module _ (s : Shape) (is_open : ℕ → Bool) (p : ℕ) where
  pub forward_is : (at : Split) (w slot unit symbol : ℕ) → p < places s → w ≡ slot_data s → at ≡ split_of s p → slot ≡ slot_at s is_open at.i
      → unit ≡ carried s.consecutive s.group s.codeword at.i → symbol ≡ unit * w + at.e
      → ◌≡◌ {A = UplinkPlace} (record { no = 0; slot = slot; l = at.l; k = at.k; symbol = symbol }) (place_in s.subcarriers (sending_of s is_open) p)
  forward_is at w slot unit symbol h hw ha hs hu hy =
      (λ j. record {
        no = 0;
        slot = (hs ∙ ap (λ (a : Split). slot_at s is_open a.i) ha) j;
        l = (ha j).l;
        k = (ha j).k;
        symbol =
            (hy ∙ ap (λ (y : ℕ). y * w + at.e) hu
            ∙ ap₂ (λ (y : ℕ) (a : Split). carried s.consecutive s.group s.codeword a.i * y + a.e) hw ha) j;
      })
      ∙ sym (inside_at refused_place (place_of s.subcarriers) (sending_of s is_open) p h)

-- ---- backward

module _ (s : Shape) (is_open : ℕ → Bool) (slot l k : ℕ) (inside : (ltb l symbols && ltb k s.subcarriers) ≡ true) where
  pub backward_unsent : is_sent s is_open slot ≡ false → back_of (not_ours 0) ≡ back_in s.subcarriers (sending_of s is_open) slot l k
  unfolding back_at
  backward_unsent h = rw (inside, h) refl

  pub backward_not_ours : (kind : ℕ) → is_sent s is_open slot ≡ true → carries_data s (uplink_element_of s.subcarriers l k) ≡ false
      → kind ≡ bool_byte (carries_reference s (uplink_element_of s.subcarriers l k)) → back_of (not_ours kind) ≡ back_in s.subcarriers (sending_of s is_open) slot l k
  unfolding back_at
  backward_not_ours kind h n e = rw (inside, h, n, e) refl

  pub backward_ours : (w i e unit symbol p : ℕ) → is_sent s is_open slot ≡ true → carries_data s (uplink_element_of s.subcarriers l k) ≡ true
      → w ≡ slot_data s → i ≡ index_of s is_open slot → e ≡ number_of s (uplink_element_of s.subcarriers l k)
      → unit ≡ carried s.consecutive s.group s.codeword i → symbol ≡ unit * w + e → p ≡ i * w + e
      → back_of (ours symbol p) ≡ back_in s.subcarriers (sending_of s is_open) slot l k
  unfolding back_at
  backward_ours w i e unit symbol p h d hw hi he hu hs hp = rw (inside, h, d, ← hw, ← hi, ← he, ← hu, ← hs, ← hp) refl
