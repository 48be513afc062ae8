use mathlib.Core.Bool.{false}
use mathlib.Core.Path.{◌≡◌, sym, ap, subst, ◌∙◌}
use Prim.Native.Nat.{◌+◌}
use native.Mathlib.Omega.{arith}
use Rattle.std.specs.Prelude.{[], ◌∷◌}
use Rattle.counting.specs.Counting.{rank}
use Rattle.counting.proofs.Rank.{rank_le}
use Rattle.spans.specs.Pattern.{allows}
use Rattle.units.specs.Quick.{begin_of, lane_at}
use Rattle.units.proofs.Finding.{base_repeats, far}
use Rattle.units.proofs.Lanes.{none_small}
use Rattle.strides.specs.declared.Stride.{Stride}
use Rattle.strides.specs.Quick.{Goes, lone_rest}
use Rattle.strides.proofs.Apart.{ranged_at, turned_at, same_alone, lone_most, lone_stride, lone_goes}
use Rattle.strides.proofs.stride_alone.Goals as goal

pub returns : goal.returns
returns c =
    let a = c.args in
    let u = allows a.p in
    let Z = c.requires.0 in
    let again = base_repeats a.p c.requires.1.regular in
    let A = c.requires.5 in
    let l = lane_at a.table a.i in
    let r = ranged_at a.table Z a.i c.requires.4 in
    let free = c.free_before.ensures ∙ ap (rank u) c.begin.ensures.0 in
    let made : lone_stride u a.table a.i a.units a.n ≡ (record { n = a.n + a.units; wants = 0 ∷ 0 ∷ 0 ∷ 0 ∷ []; free = c.free_before.result; remaining = a.rest }) =
    λ i. record { n = a.n + a.units; wants = 0 ∷ 0 ∷ 0 ∷ 0 ∷ []; free = sym free i; remaining = sym c.requires.6 i } in
    record {
      on = omega (arith, c.requires.3);
      most = omega arith;
      small = none_small a.table (a.n + a.units);
      free = free;
      few =
          omega (
            arith,
            c.requires.6,
            (same_alone u a.table l r (turned_at a.table Z a.i c.requires.4) again a.n A.opens l.window (omega arith)).1,
            ap (lone_rest u a.table l a.n) A.window,
            lone_most u a.table l r a.n a.units,
            rank_le u (begin_of a.table (a.n + a.units)),
            c.begin.ensures.0,
            c.begin.ensures.1,
          );
      goes = λ ms w S X.
          subst (λ (r : Stride). Goes ms u a.table a.n w r false) made
          (lone_goes ms u (far a.p c.requires.1.regular) again a.table S a.i c.requires.4 a.units a.n A c.requires.3 w);
    }
