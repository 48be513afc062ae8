use Rattle.std.proofs.Common.{rules}
use mathlib.Core.List.{List, ◌++◌, append-nil}
use mathlib.Core.Bool.{Bool, cond}
use mathlib.Core.Path.{◌≡◌, sym, ap, ap₂, ◌∙◌}
use Prim.Native.Nat.{ℕ, ◌+◌, ◌*◌, ◌<◌}
use native.Mathlib.Nat.{add-zero}
use native.Mathlib.Omega.{arith}
use lib.Ieee.{Float}
use lib.ListN.{length, take, length-set}
use mir.Val.{bool_byte}
use Rattle.counting.specs.Counting.{rank}
use Rattle.counting.proofs.Rank.{rank_zero, rank_on, rank_le, rank_strict}
use Rattle.grid.specs.Grid.{subcarriers}
use Rattle.elements.specs.Quick.{has_in}
use Rattle.symbol.specs.Quick.{silence, picked_of}
use Rattle.fill.specs.Fill.{laid}
use Rattle.fill.specs.Quick.{written_in_row}
use Rattle.fill.proofs.Laid.{laid_none, laid_more}
use Rattle.fill.proofs.write_row.Goals as goal

pub loop-k-init : goal.loop-k-init
loop-k-init c =
    let a = c.args in (
      c.requires.1,
      omega (arith, rank_zero (has_in a.row)),
      ap (λ (i : ℕ). take (2 * i) a.out.now) (add-zero a.start) ∙ sym (append-nil (take (2 * a.start) a.out.now))
          ∙ ap (λ (x : List Float). take (2 * a.start) a.out.now ++ x) (laid_none _),
    )

pub written-requires : goal.written-requires
written-requires c = λ t.
    omega (arith, c.loop-k.invariant.1, c.requires.3, rank_strict (has_in c.args.row) c.loop-k.k subcarriers (sym c.has-ours.ensures ∙ t) c.loop-k-test.true)

-- the symbol after element k
pub overflow_add-n : goal.overflow_add-n
overflow_add-n c =
    let u = has_in c.args.row in
    let k = c.loop-k.k in
    omega (arith, c.loop-k.invariant.1, ap bool_byte c.has-ours.ensures, rank_on u k, c.requires.2, c.loop-k-test.true, rank_le u (k + 1))

pub loop-k-preserved : goal.loop-k-preserved
loop-k-preserved c =
    let a = c.args in
    let k = c.loop-k.k in
    let on : a.start + (k + 1) ≡ a.start + k + 1 = omega arith in
    let inside : 2 * (a.start + k) + 1 < length c.loop-k.out = omega (arith, c.loop-k-test.true, c.loop-k.invariant.0, c.requires.0, c.requires.1) in
    let s : c.written.result ≡ written_in_row a.row a.c a.bits.now a.four k =
    c.written.ensures ∙ ap₂ (λ (b : Bool) (x : ℕ). cond b (picked_of a.four a.bits.now x) silence) c.has-ours.ensures c.loop-k.invariant.1 in (
      ap length c.put.ensures ∙ simp length-set c.loop-k.invariant.0,
      omega (arith, c.loop-k.invariant.1, ap bool_byte c.has-ours.ensures, rank_on (has_in a.row) k),
      ap (λ (i : ℕ). take (2 * i) c.put.new.out) on ∙ ap (take (2 * (a.start + k + 1))) c.put.ensures
          ∙ laid_more (take (2 * a.start) a.out.now) _ c.loop-k.out (a.start + k) k c.written.result inside c.loop-k.invariant.2 s,
    )

pub returns : goal.returns
returns c =
    let a = c.args in
    let l = c.loop-k in
    let e : l.k ≡ subcarriers = search rules in (
      l.invariant.1 ∙ ap (λ (k : ℕ). a.c + rank (has_in a.row) k) e,
      l.invariant.0,
      sym (ap (λ (k : ℕ). take (2 * (a.start + k)) l.out) e) ∙ l.invariant.2
          ∙ ap (λ (k : ℕ). take (2 * a.start) a.out.now ++ laid (written_in_row a.row a.c a.bits.now a.four) k) e,
    )

pub shape_of-out : goal.shape_of-out
shape_of-out c = c.loop-k.invariant.0 ∙ sym c.requires.1
