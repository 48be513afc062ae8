use mathlib.Core.Path.{◌≡◌, ap, ◌∙◌}
use Rattle.closures.specs.Quick.{count_at}
use Prim.Native.Nat.{◌+◌}
use native.Mathlib.Omega.{arith}
use native.Mathlib.Nat.{zero-add}
use Rattle.closures.specs.declared.Descent.{Descent}
use Rattle.closures.specs.Quick.{first, second, third, count_before}
use Rattle.closures.proofs.Nesting.{passed}
use Rattle.closures.proofs.before.Goals.{After-descend-m1}
use Rattle.closures.proofs.before.Goals as goal

-- what was counted on the way down, and what is left to count
counted : (c : After-descend-m1) → c.descend-m1.result.sum + c.descend-m1.result.at ≡ count_before c.args.nested c.args.t
counted c =
    let c3 = c in
    let c2 = c3 in
    let c1 = c2 in
    let a = c1.args in
    let nested = a.nested in
    ap (λ (m : Descent). m.sum + m.at) c.descend-m1.ensures.0
    ∙ passed nested.closures.b1 (count_at nested 0) (λ t. t) c3.descend-m2.result
    ∙ ap (λ (m : Descent). m.sum + first nested m.at) c3.descend-m2.ensures.0
    ∙ passed nested.closures.b2 (count_at nested 1) (first nested) c2.descend-m3.result
    ∙ ap (λ (m : Descent). m.sum + second nested m.at) c2.descend-m3.ensures.0
    ∙ passed nested.closures.b3 (count_at nested 2) (second nested) c1.descend-m4.result
    ∙ ap (λ (m : Descent). m.sum + third nested m.at) c1.descend-m4.ensures.0
    ∙ passed nested.closures.b4 (count_at nested 3) (third nested) (record { at = a.t; sum = 0 })
    ∙ zero-add (count_before nested a.t)

pub returns : goal.returns
returns c = (counted c.before, omega arith)
