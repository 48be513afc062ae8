-- What is free by what the anchor takes, what is usable by what messages take, and the cause once usability is known.
use mathlib.Core.Bool.{Bool, true, false, cond, not, ◌&&◌, ◌||◌}
use mathlib.Core.List.{List}
use mathlib.Core.Path.{◌≡◌, refl, ap, ◌∙◌}
use Prim.Native.Nat.{ℕ}
use native.Mathlib.Omega.{arith}
use lib.Dec.{ltb}
use mir.Val.{bool_byte}
use borrow.Author.Tests.{ltb-false, eq-eqb, ne_eqb}
use Rattle.bitmap.specs.Bitmap.{allowed}
use Rattle.sync.specs.Sync.{npbch, npss, nsss, sib1}
use Rattle.sync.proofs.Taken.{taken}
use Rattle.messages.specs.Messages.{remaining, is_message}
use Rattle.messages.proofs.Repeating.{remaining_is, none_read}
use Rattle.cell.specs.declared.CellConfig.{CellConfig}
use Rattle.cell.specs.declared.Cell.{Cell}
use Rattle.cell.specs.declared.Cause.{Cause}
use Rattle.cell.specs.declared.Cause.TheVariants.{None, Npbch, Npss, Nsss, Sib1, Message, Bitmap}
use Rattle.cell.specs.Usable.{is_anchor, none, anchor_cause, free, why_unless, why, usable}
use Rattle.cell.specs.Quick.{lays_messages, why_not_free}

-- ---- free is allowed and not taken

free_by : (a n p s i l : Bool)
    → (none (cond (a && n) Npbch (cond (a && p) Npss (cond (a && s) Nsss (cond (a && i) Sib1 None)))) && l) ≡ (l && not (a && (n || (p || (s || i)))))
free_by false n p s i true = refl
free_by false n p s i false = refl
free_by true true p s i true = refl
free_by true true p s i false = refl
free_by true false true s i true = refl
free_by true false true s i false = refl
free_by true false false true i true = refl
free_by true false false true i false = refl
free_by true false false false true true = refl
free_by true false false false true false = refl
free_by true false false false false true = refl
free_by true false false false false false = refl

pub free_is : (c : CellConfig) (b : List ℕ) (t : ℕ) → free c b t ≡ (allowed b c.bits t && not (is_anchor c && taken c.identity c.sib1 t))
unfolding free anchor_cause
free_is c b t = free_by (is_anchor c) (npbch t) (npss t) (nsss t) (sib1 c.identity c.sib1 t) (allowed b c.bits t)

-- ---- usable is free, and no message takes it

usable_by : (a : Cause) (m l : Bool) → none (cond (none a) (cond m Message (cond l None Bitmap)) a) ≡ ((none a && l) && not m)
usable_by None true true = refl
usable_by None true false = refl
usable_by None false true = refl
usable_by None false false = refl
usable_by Npbch m l = refl
usable_by Npss m l = refl
usable_by Nsss m l = refl
usable_by Sib1 m l = refl
usable_by Message m l = refl
usable_by Bitmap m l = refl

module _ (c : Cell) (b : List ℕ) (t : ℕ) where
  -- a message takes it
  abbrev taking : Bool
  taking = is_anchor c.config && is_message c.messages (free c.config b) t

  usable_but : usable c b t ≡ (free c.config b t && not taking)
  unfolding why_unless free
  usable_but = usable_by (anchor_cause c.config t) taking (allowed b c.config.bits t)

  counted : ltb 0 c.messages.count ≡ false → remaining c.messages (free c.config b) t ≡ free c.config b t
  counted h = none_read c.messages (free c.config b) t (omega (arith, ltb-false 0 c.messages.count h))

  -- what messages, where they are laid, leave of the free ones
  pub usable_is : usable c b t ≡ cond (lays_messages c) (remaining c.messages (free c.config b) t) (free c.config b t)
  usable_is =
      usable_but
      ∙ by (is_anchor c.config) (ltb 0 c.messages.count) (free c.config b t) (is_message c.messages (free c.config b) t) _
      (remaining_is c.messages (free c.config b) t) counted
    where
      by : (a n x m r : Bool) → (x && not m) ≡ r → (n ≡ false → r ≡ x) → (x && not (a && m)) ≡ cond (a && n) r x
      by true true x m r e f = e
      by true false x m r e f = e ∙ f refl
      by false n true m r e f = refl
      by false n false m r e f = refl

  -- on the anchor what messages leave is usable, on a non-anchor what the bitmap allows
  pub usable_anchor : c.config.carrier ≡ 0 → usable c b t ≡ remaining c.messages (free c.config b) t
  usable_anchor z = usable_but ∙ rw (eq-eqb c.config.carrier 0 z) (remaining_is c.messages (free c.config b) t)

  pub usable_other : c.config.carrier ≡ 1 → usable c b t ≡ allowed b c.config.bits t
  usable_other z =
      let o = ne_eqb c.config.carrier 0 (λ y. omega arith) in
      usable_but ∙ rw o (kept (free c.config b t)) ∙ free_is c.config b t ∙ rw o (kept (allowed b c.config.bits t))
    where
      kept : (x : Bool) → (x && true) ≡ x
      kept true = refl
      kept false = refl

  -- with no schedule what is free is usable
  pub unlaid : c.messages.count ≡ 0 → usable c b t ≡ free c.config b t
  unlaid z = usable_is ∙ rw (none_read c.messages (free c.config b) t z) (by (lays_messages c) (free c.config b t))
    where
      by : (x y : Bool) → cond x y y ≡ y
      by true y = refl
      by false y = refl

  -- ---- the cause, once it is known whether a subframe is usable

  told : (a : Cause) (m n l : Bool) → (m ≡ true → (n ≡ true) × ((none a && l) ≡ true))
      → cond ((none a && l) && not m) None (cond (n && (none a && l)) Message (cond (none a) Bitmap a)) ≡ cond (none a) (cond m Message (cond l None Bitmap)) a
  told None true true true h = refl
  told None true n false h = let z : ◌≡◌ {A = ℕ} 0 1 = ap bool_byte (h refl).1 in absurd (omega arith)
  told None true false true h = let z : ◌≡◌ {A = ℕ} 0 1 = ap bool_byte (h refl).0 in absurd (omega arith)
  told None false n true h = refl
  told None false true false h = refl
  told None false false false h = refl
  told Npbch m true l h = refl
  told Npbch m false l h = refl
  told Npss m true l h = refl
  told Npss m false l h = refl
  told Nsss m true l h = refl
  told Nsss m false l h = refl
  told Sib1 m true l h = refl
  told Sib1 m false l h = refl
  told Message m true l h = refl
  told Message m false l h = refl
  told Bitmap m true l h = refl
  told Bitmap m false l h = refl

  -- a message takes only free subframes, and where messages are laid
  taking_parts : taking ≡ true → (lays_messages c ≡ true) × (free c.config b t ≡ true)
  unfolding is_message
  taking_parts h =
      by (is_anchor c.config) (ltb 0 c.messages.count) (free c.config b t) (remaining c.messages (free c.config b) t) counted h
    where
      by : (a n x r : Bool) → (n ≡ false → r ≡ x) → (a && (x && not r)) ≡ true → ((a && n) ≡ true) × (x ≡ true)
      by true true true r f h = (refl, refl)
      by true false true true f h = let z : ◌≡◌ {A = ℕ} 0 1 = ap bool_byte h in absurd (omega arith)
      by true false true false f h = let z : ◌≡◌ {A = ℕ} 0 1 = ap bool_byte (f refl) in absurd (omega arith)
      by true n false r f h = let z : ◌≡◌ {A = ℕ} 0 1 = ap bool_byte h in absurd (omega arith)
      by false n x r f h = let z : ◌≡◌ {A = ℕ} 0 1 = ap bool_byte h in absurd (omega arith)

  pub why_is : cond (usable c b t) None (cond (lays_messages c && free c.config b t) Message (why_not_free c.config t)) ≡ why c b t
  unfolding why_unless why_not_free free
  why_is =
      ap (λ (x : Bool). cond x None (cond (lays_messages c && free c.config b t) Message (why_not_free c.config t))) usable_but
      ∙ told (anchor_cause c.config t) taking (lays_messages c) (allowed b c.config.bits t) taking_parts
