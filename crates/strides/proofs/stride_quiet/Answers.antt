use mathlib.Core.Bool.{true}
use mathlib.Core.Path.{◌≡◌, sym, ap, subst, ◌∙◌}
use Prim.Native.Nat.{◌+◌, ◌-◌}
use native.Mathlib.Nat.{mul-add}
use native.Mathlib.Omega.{arith}
use Rattle.std.specs.Prelude.{[], ◌∷◌}
use Rattle.counting.specs.Counting.{rank}
use Rattle.counting.proofs.Rank.{rank_le, rank_mono}
use Rattle.spans.specs.Pattern.{allows}
use Rattle.units.specs.Quick.{begin_of}
use Rattle.units.proofs.Finding.{far}
use Rattle.units.proofs.Lanes.{none_small}
use Rattle.strides.specs.declared.Stride.{Stride}
use Rattle.strides.specs.Quick.{Goes}
use Rattle.strides.proofs.Striding.{quiet_stride, quiet_goes}
use Rattle.strides.proofs.stride_quiet.Goals.{After-free_before-then}
use Rattle.strides.proofs.stride_quiet.Goals as goal

then_is : (c : After-free_before-then) → c.free_before-then.result ≡ rank (allows c.args.p) (begin_of c.args.table (c.args.n + c.min.result))
then_is c = c.free_before-then.ensures ∙ ap (rank (allows c.args.p)) c.begin.ensures.0

pub returns : goal.returns
returns c =
    let a = c.args in
    let u = allows a.p in
    let d = c.min.result in
    let then = then_is (goal.at.returns c).After-free_before-then in
    let made : ◌≡◌ {A = Stride} (quiet_stride u a.table a.n d) (record { n = a.n + d; wants = 0 ∷ 0 ∷ 0 ∷ 0 ∷ []; free = c.free_before-then.result; remaining = c.free_before-then.result - a.free }) =
    λ i. record { n = a.n + d; wants = 0 ∷ 0 ∷ 0 ∷ 0 ∷ []; free = sym then i; remaining = sym then i - sym c.requires.2 i } in
    record {
      on = omega (arith, c.min.ensures);
      most = omega (arith, c.min.ensures);
      small = none_small a.table (a.n + d);
      free = then;
      few = omega (arith, then, rank_le u (begin_of a.table (a.n + d)), c.begin.ensures.0, c.begin.ensures.1);
      goes = λ ms w S X. subst (λ (r : Stride). Goes ms u a.table a.n w r true) made
          (quiet_goes ms u (far a.p c.requires.1.regular) a.table S a.n d (λ i h. c.requires.6 i (omega (arith, h, c.min.ensures))) w (omega (arith, c.min.ensures)));
    }

pub overflow_sub-result : goal.overflow_sub-result
overflow_sub-result c =
    let a = c.args in
    let d = c.min.result in
    omega (arith, then_is (goal.at.overflow_sub-result c).After-free_before-then, c.requires.2, rank_mono (allows a.p) (begin_of a.table a.n) (begin_of a.table (a.n + d)) (omega (arith, mul-add a.table.unit a.n d)))
