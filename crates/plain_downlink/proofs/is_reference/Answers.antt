use mathlib.Core.Bool.{Bool, true, false, ◌&&◌, ◌||◌}
use mathlib.Core.Path.{◌≡◌, refl, sym, ◌∙◌}
use Prim.Native.Nat.{◌+◌, ◌%◌}
use lib.Dec.{eqb}
use Rattle.elements.specs.Elements.{reference}
use Rattle.plain_downlink.proofs.Rows.{stands_is}
use Rattle.plain_downlink.proofs.is_reference.Goals.{Joined-row, then-row, else-row}
use Rattle.plain_downlink.proofs.is_reference.Goals as goal

near_is : (c : Joined-row) → c.if-row.value ≡ (c.references_of-row.result.near && eqb (c.args.k % 6) c.args.g.v)
near_is c =
    elim c.if-row.branch [
      | then-row w ↦ rw w.if-row.true w.value-is
      | else-row w ↦ rw w.if-row.false (w.value-is ∙ w.if-row.false)
    ]

first : (p q : Bool) → p ≡ true → p ≡ (p || q)
first p q e = rw e refl

second : (p f q : Bool) → p ≡ false → f ≡ true → q ≡ (p || (f && q))
second p f q e i = rw (e, i) refl

neither : (p f q : Bool) → p ≡ false → f ≡ false → f ≡ (p || (f && q))
neither p f q e i = rw (e, i) refl

whole : (c : Joined-row)
    → ((c.references_of-row.result.near && eqb (c.args.k % 6) c.args.g.v) || (c.references_of-row.result.far && eqb (c.args.k % 6) ((c.args.g.v + 3) % 6)))
    ≡ reference c.args.g c.args.l c.args.k
whole c = rw (c.references_of-row.ensures.0, c.references_of-row.ensures.1) (stands_is c.args.g c.requires c.args.l c.args.k)

pub returns-then-k-g : goal.returns-then-k-g
returns-then-k-g c = near_is c.before ∙ first _ _ (sym (near_is c.before) ∙ c.if-k-g.true) ∙ whole c.before

pub returns-then-row-2 : goal.returns-then-row-2
returns-then-row-2 c =
    let b = c.before.before.before in
    second _ _ _ (sym (near_is b) ∙ c.if-k-g.false) c.if-row-2.true ∙ whole b

pub returns-else-row-2 : goal.returns-else-row-2
returns-else-row-2 c =
    let b = c.before.before in
    neither _ _ _ (sym (near_is b) ∙ c.if-k-g.false) c.if-row-2.false ∙ whole b
