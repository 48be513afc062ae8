use mathlib.Core.Path.{◌≡◌, ap, ◌∙◌}
use Prim.Native.Nat.{ℕ}
use native.Mathlib.Omega.{arith}
use Rattle.std.proofs.lemmas.List.Edits.{sets}
use Rattle.buffers.specs.Buffers.{candidate_numbers}
use Rattle.buffers.proofs.Replies.{laid_next}
use Rattle.buffers.proofs.put_candidates.Goals as goal

pub loop-k-preserved : goal.loop-k-preserved
loop-k-preserved c = laid_next c.args.list c.args.s.now c.loop-k.s c.loop-k.k c.loop-k.invariant

pub returns : goal.returns
returns c =
    let e : c.loop-k.k ≡ 15 = omega arith in
    c.loop-k.invariant ∙ ap (λ (k : ℕ). sets c.args.s.now 3 (candidate_numbers c.args.list 0 k)) e
