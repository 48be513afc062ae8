-- What acceptance says of a cell's numbers.
use mathlib.Core.Bool.{Bool, true, false, cond, not, ◌&&◌, ◌||◌}
use mathlib.Core.List.{List, []}
use mathlib.Core.Path.{◌≡◌, refl, sym, ap, ap₂, ◌∙◌}
use mathlib.Core.Logic.{◌⊎◌, inl, inr, ⊎_elim}
use Prim.Native.Nat.{ℕ, zero, suc, ◌-◌, ◌≤◌}
use native.Mathlib.Omega.{arith}
use lib.Dec.{eqb, ltb, leb}
use lib.ListN.{length, take}
use borrow.Author.Tests.{ltb-false, eqb-true, leb-true, not-false, eq-eqb, ne_eqb}
use Rattle.counting.proofs.Facts.{passed, chained, both_parts, either_parts, either_case}
use Rattle.bitmap.specs.Bitmap.{bytes_of, listed_length, spare_set, bad_bitmap}
use Rattle.bitmap.specs.Quick.{BitmapFits}
use Rattle.messages.specs.Messages.{are_listed}
use Rattle.cell.specs.declared.CellConfig.{CellConfig}
use Rattle.cell.specs.declared.Cell.{Cell}
use Rattle.cell.specs.Bitmap.{own_buffer, bitmap_in}
use Rattle.cell.specs.Judge.{in_band, cell_ports_listed, control_listed, ports_differ, numbers_refusal, config_refusal, form_refusal, none_allowed, none_usable, use_refusal, cell_refusal, judge_of, in_force_of}
use Rattle.cell.specs.Layout.{layout_of}
use Rattle.cell.specs.Quick.{WellFormed}
use Rattle.elements.specs.Scaffold.{Valid}

ports_by : (b : Bool) (p : ℕ) → cond b (eqb p 1 || (eqb p 2 || eqb p 4)) (eqb p 0) ≡ true → (p ≡ 0) ⊎ ((p ≡ 1) ⊎ ((p ≡ 2) ⊎ (p ≡ 4)))
ports_by true p h =
    inr (⊎_elim (λ e. inl (eqb-true p 1 e))
    (λ r. inr (⊎_elim (λ e. inl (eqb-true p 2 e)) (λ e. inr (eqb-true p 4 e)) (either_case (eqb p 2) (eqb p 4) r)))
    (either_case (eqb p 1) (eqb p 2 || eqb p 4) h))
ports_by false p h = inl (eqb-true p 0 h)

control_by : (b : Bool) (r : ℕ) → cond b (leb 1 r && leb r 3) (eqb r 0) ≡ true → r ≤ 3
control_by true r h = leb-true r 3 (both_parts (leb 1 r) (leb r 3) h).1
control_by false r h = omega (arith, eqb-true r 0 h)

pub numbers_good : (c : CellConfig) → numbers_refusal c ≡ 0 → WellFormed c
unfolding numbers_refusal
numbers_good c e =
    let p1 = passed (ltb 3 c.mode || ltb 1 c.carrier) 1 _ (omega arith) e in
    let p2 = passed (ltb 503 c.identity) 2 _ (omega arith) p1.1 in
    let p3 = passed (not (eqb c.nports 1 || eqb c.nports 2)) 3 _ (omega arith) p2.1 in
    let p4 = passed (not (cell_ports_listed c)) 4 _ (omega arith) p3.1 in
    let p5 = passed (not (control_listed c)) 5 _ (omega arith) p4.1 in
    let p24 = passed (ports_differ c) 24 _ (omega arith) p5.1 in
    let p6 = passed (ltb 11 c.sib1) 6 0 (omega arith) p24.1 in
    record {
      carrier = ltb-false 1 c.carrier (either_parts (ltb 3 c.mode) (ltb 1 c.carrier) p1.0).1;
      identity = omega (arith, ltb-false 503 c.identity p2.0);
      nports = ⊎_elim (λ h. inl (eqb-true c.nports 1 h)) (λ h. inr (eqb-true c.nports 2 h))
          (either_case (eqb c.nports 1) (eqb c.nports 2) (not-false (eqb c.nports 1 || eqb c.nports 2) p3.0));
      cports = ports_by (in_band c) c.cports (not-false (cell_ports_listed c) p4.0);
      control = control_by (in_band c) c.control (not-false (control_listed c) p5.0);
      sib1 = ltb-false 11 c.sib1 p6.0;
    }

pub bitmap_good : (bits : ℕ) (own : List ℕ) → bad_bitmap bits own ≡ false → BitmapFits bits own
unfolding bad_bitmap
bitmap_good bits own h =
    let a = either_parts (not (listed_length bits)) (ltb (length own) (bytes_of bits) || spare_set bits own) h in
    let b = either_parts (ltb (length own) (bytes_of bits)) (spare_set bits own) a.1 in
    record { listed = not-false (listed_length bits) a.0; long = ltb-false (length own) (bytes_of bits) b.0 }

pub config_bitmap : (c : CellConfig) (own : List ℕ) → config_refusal c own ≡ 0 → BitmapFits c.bits own
unfolding config_refusal
config_bitmap c own e =
    bitmap_good c.bits own
    (passed (bad_bitmap c.bits own) 7 0 (omega arith) (chained (numbers_refusal c) (cond (bad_bitmap c.bits own) 7 0) e).1).0

pub config_numbers : (c : CellConfig) (own : List ℕ) → config_refusal c own ≡ 0 → WellFormed c
unfolding config_refusal
config_numbers c own e = numbers_good c (chained (numbers_refusal c) (cond (bad_bitmap c.bits own) 7 0) e).0

module _ (c : Cell) (own : List ℕ) where
  form_parts : form_refusal c own ≡ 0
      → (numbers_refusal c.config ≡ 0) × (bad_bitmap c.config.bits own ≡ false) × (not (are_listed c.messages) ≡ false)
  unfolding form_refusal config_refusal
  form_parts e =
      let a = chained (config_refusal c.config own) (cond (not (are_listed c.messages)) 21 0) e in
      let b = chained (numbers_refusal c.config) (cond (bad_bitmap c.config.bits own) 7 0) a.0 in
      (b.0, (passed (bad_bitmap c.config.bits own) 7 0 (omega arith) b.1).0, (passed (not (are_listed c.messages)) 21 0 (omega arith) a.1).0)

  -- listed messages do not matter there
  pub form_config : are_listed c.messages ≡ true → form_refusal c own ≡ config_refusal c.config own
  unfolding form_refusal
  form_config l = rw l (by (config_refusal c.config own))
    where
      by : (n : ℕ) → cond (eqb n 0) 0 n ≡ n
      by zero = refl
      by (suc n) = ap (λ (x : Bool). cond x 0 (suc n)) (ne_eqb (suc n) 0 (λ z. omega arith))

  pub form_numbers : form_refusal c own ≡ 0 → WellFormed c.config
  form_numbers e = numbers_good c.config (form_parts e).0

  pub form_bitmap : form_refusal c own ≡ 0 → BitmapFits c.config.bits own
  form_bitmap e = bitmap_good c.config.bits own (form_parts e).1

  pub form_messages : form_refusal c own ≡ 0 → are_listed c.messages ≡ true
  form_messages e = not-false (are_listed c.messages) (form_parts e).2

  -- an accepted cell is well-formed
  pub accepted_form : cell_refusal c own ≡ 0 → form_refusal c own ≡ 0
  unfolding cell_refusal
  accepted_form e = (chained (form_refusal c own) (use_refusal c own) e).0

  -- and has a usable subframe
  pub accepted_some : cell_refusal c own ≡ 0 → none_usable c own ≡ false
  unfolding cell_refusal use_refusal
  accepted_some e =
      let a = chained (form_refusal c own) (cond (none_allowed c own) 8 (cond (none_usable c own) 18 0)) e in
      let b = passed (none_allowed c own) 8 (cond (none_usable c own) 18 0) (omega arith) a.1 in
      (passed (none_usable c own) 18 0 (omega arith) b.1).0

-- ---- the bitmap in force

module _ (c : Cell) (anchor other : List ℕ) where
  pub accepted_bitmap : judge_of c anchor other ≡ 0 → BitmapFits c.config.bits (own_buffer c.config anchor other)
  unfolding judge_of
  accepted_bitmap e = form_bitmap c (own_buffer c.config anchor other) (accepted_form c (own_buffer c.config anchor other) e)

  pub accepted_numbers : judge_of c anchor other ≡ 0 → WellFormed c.config
  unfolding judge_of
  accepted_numbers e = form_numbers c (own_buffer c.config anchor other) (accepted_form c (own_buffer c.config anchor other) e)

  pub accepted_messages : judge_of c anchor other ≡ 0 → are_listed c.messages ≡ true
  unfolding judge_of
  accepted_messages e = form_messages c (own_buffer c.config anchor other) (accepted_form c (own_buffer c.config anchor other) e)

  pub in_force_lem : (n : ℕ) (own : List ℕ) → judge_of c anchor other ≡ 0 → n ≡ bytes_of c.config.bits → own ≡ own_buffer c.config anchor other
      → take (n - 0) own ≡ in_force_of c anchor other
  unfolding in_force_of
  in_force_lem n own j hn ho =
      let z : n - 0 ≡ bytes_of c.config.bits = omega arith in
      ap₂ take z ho ∙ sym (ap (λ (b : Bool). cond b (bitmap_in c.config (own_buffer c.config anchor other)) []) (eq-eqb (judge_of c anchor other) 0 j))

  pub none_in_force : (judge_of c anchor other ≡ 0 → ⊥) → [] ≡ in_force_of c anchor other
  unfolding in_force_of
  none_in_force n = sym (ap (λ (b : Bool). cond b (bitmap_in c.config (own_buffer c.config anchor other)) []) (ne_eqb (judge_of c anchor other) 0 n))

-- its layout
pub layout_valid : (c : CellConfig) → WellFormed c → Valid (layout_of c)
layout_valid c w = record {
  shift = omega arith;
  narrowband = ⊎_elim (λ e. (omega arith, omega arith)) (λ e. (omega arith, omega arith)) w.nports;
  cell =
      ⊎_elim (λ e. (omega arith, λ z. omega arith))
      (λ r. ⊎_elim (λ e. (omega arith, λ z. omega arith)) (λ s. ⊎_elim (λ e. (omega arith, λ z. omega arith)) (λ e. (omega arith, λ z. omega arith)) s) r)
      w.cports;
  region = w.control;
}
