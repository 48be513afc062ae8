use mathlib.Core.Path.{◌≡◌, sym, ap, subst, ◌∙◌}
use Prim.Native.Nat.{ℕ, ◌-◌}
use Rattle.references.specs.Quick.{marks_of}
use Rattle.elements.specs.Quick.{RowOf}
use Rattle.elements.proofs.Marked.{marks_in}
use Rattle.elements.proofs.Stands.{row_is}
use Rattle.elements.proofs.used_row.Goals as goal

pub returns : goal.returns
returns c =
    let g = c.args.g in
    let l = c.args.l in
    let marks : c.marks_on-m.result ≡ marks_in g c.requires.0 l c.requires.2 =
    c.marks_on-m.ensures ∙ ap (λ (f : ℕ). marks_of g.v l (6 - f)) c.free_in-free.ensures.0 in
    subst (RowOf g c.args.slot l)
    (sym (λ i. record { shut = c.in_control.ensures i; low = (marks i).low; high = (marks i).high }))
    (row_is g c.requires.0 c.args.slot l c.requires.1 c.requires.2)
