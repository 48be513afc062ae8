use mathlib.Core.Bool.{true}
use mathlib.Core.Path.{◌≡◌, sym, ap, refl, ◌∙◌}
use native.Mathlib.Omega.{arith}
use Rattle.grid.specs.Grid.{subcarriers, element_of}
use Rattle.elements.specs.declared.ElementKind.{ElementKind}
use Rattle.elements.specs.declared.ElementKind.TheVariants.{Plain, Narrowband, Cell}
use Rattle.elements.specs.Elements.{used, number_of}
use Rattle.elements.specs.Scaffold.{kind_number}
use Rattle.elements.proofs.Laws.{whole_part, used_listed, count_le, use_used, use_unused}
use Rattle.transmitted.proofs.Going.{goes_ours, goes_silent, goes_reference}
use Rattle.transmitted.proofs.outgoing.Goals.{In-Used}
use Rattle.transmitted.proofs.outgoing.Goals as goal

ours : (c : In-Used) →
    let a = c.args in
    let x = element_of a.slot a.l a.k in
    (used a.layout 0 subcarriers x ≡ true) × (number_of a.layout 0 subcarriers x ≡ c.in-Used.e)
ours c =
    let a = c.args in
    use_used a.layout 0 subcarriers (element_of a.slot a.l a.k) c.in-Used.e (sym c.use_at-at.ensures ∙ c.in-Used.is)

no_plain : (kind : ElementKind) → (kind ≡ Plain → ⊥) → kind_number kind ≡ 0 → ⊥
no_plain Plain h e = h refl
no_plain Narrowband h e = omega (arith, e)
no_plain Cell h e = omega (arith, e)

pub use_at-at-requires : goal.use_at-at-requires
use_at-at-requires c = (c.requires.0, whole_part, c.requires.2, c.requires.3, c.requires.4)

pub overflow_add-result : goal.overflow_add-result
overflow_add-result c =
    let a = c.args in
    omega (arith, c.requires.1, (ours c).1, (used_listed a.layout 0 subcarriers).below (element_of a.slot a.l a.k) (ours c).0, count_le a.layout 0 subcarriers)

pub returns-in-Used : goal.returns-in-Used
returns-in-Used c = goes_ours _ _ _ _ (ours c).0 (sym (ours c).1)

pub returns-in-Plain : goal.returns-in-Plain
returns-in-Plain c =
    let a = c.args in
    let o = use_unused a.layout 0 subcarriers (element_of a.slot a.l a.k) _ (sym c.use_at-at.ensures ∙ c.in-Unused.is) in
    goes_silent _ _ _ _ o.0 (sym o.1) (ap kind_number c.in-Plain.is)

pub returns-in_default : goal.returns-in_default
returns-in_default c =
    let a = c.args in
    let o = use_unused a.layout 0 subcarriers (element_of a.slot a.l a.k) _ (sym c.use_at-at.ensures ∙ c.in-Unused.is) in
    goes_reference _ _ _ _ o.0 (c.number.ensures ∙ sym o.1)
    (λ z. no_plain c.in-Unused.kind c.in_default.not-Plain (sym c.number.ensures ∙ z))
