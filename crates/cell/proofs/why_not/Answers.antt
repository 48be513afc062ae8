use mathlib.Core.Bool.{Bool, false, cond, ◌&&◌}
use mathlib.Core.Path.{◌≡◌, refl, sym, ap, ◌∙◌}
use Rattle.spans.specs.Pattern.{allows}
use Rattle.cell.specs.declared.Cause.TheVariants.{Message}
use Rattle.cell.specs.Quick.{why_not_free, why_not}
use Rattle.cell.proofs.why_not.Goals.{Joined-laid, then-laid+else-is_allowed, else-laid}
use Rattle.cell.proofs.why_not.Goals as goal

-- no message is laid, or the subframe is not free
apart : (c : Joined-laid) → (c.args.laid && allows c.args.p c.args.t) ≡ false
apart c =
    elim c.if-laid.branch [
      | then-laid+else-is_allowed w ↦ rw w.if-laid.true (sym w.is_allowed.ensures ∙ w.if-is_allowed.false)
      | else-laid w ↦ rw w.if-laid.false refl
    ]

pub returns : goal.returns
unfolding why_not
returns c =
    let a = c.args in
    c.why_not_free.ensures ∙ sym (ap (λ (x : Bool). cond x Message (why_not_free a.c a.t)) (apart c.before))

pub is_allowed-requires : goal.is_allowed-requires
unfolding why_not
is_allowed-requires c = c.requires

pub returns-then-is_allowed : goal.returns-then-is_allowed
unfolding why_not
returns-then-is_allowed c = simp (c.if-laid.true, ← c.is_allowed.ensures, c.if-is_allowed.true)
