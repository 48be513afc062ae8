use mathlib.Core.Path.{◌≡◌, refl, ap, ◌∙◌}
use Prim.Native.Nat.{ℕ, ◌+◌, ◌-◌, ◌*◌, ◌^◌, ◌≤◌, ◌<◌}
use native.Mathlib.Nat.{mul-le-mul}
use native.Mathlib.Omega.{arith}
use lib.ListN.{length-set}
use Rattle.counting.specs.Counting.{rank, select}
use Rattle.counting.proofs.Rank.{rank_le}
use Rattle.spans.specs.declared.Pattern.{Pattern}
use Rattle.spans.specs.Pattern.{allows, period_of, Regular}
use Rattle.spans.proofs.Laws.{nth_is}
use Rattle.search_space.specs.declared.Cut.{Cut}
use Rattle.search_space.specs.Starts.{hyperframe}
use Rattle.search_space.specs.Quick.{CutFits, no_block, block_of}
use Rattle.search_space.proofs.Listing.{set_more}
use Rattle.search_space.proofs.blocks_alone.Goals as goal

-- a block inside Rmax ends below 2 ^ 32
small : (p : Pattern) (start : ℕ) (x : Cut) (first i : ℕ) → start < 2 ^ 30 + hyperframe → CutFits x → first ≡ rank (allows p) start → i < x.many
    → (i * x.size ≤ 2 ^ 11) × (first + i * x.size + x.size < 2 ^ 32)
small p start x first i s f e h =
    let m = mul-le-mul {n₁ = i} {m₁ = x.size} {n₂ = 8} {m₂ = 256} (omega (arith, h, f.many)) f.size.1 in
    (omega (arith, m), omega (arith, m, e, s, rank_le (allows p) start, f.size.1))

pub loop-i-init : goal.loop-i-init
loop-i-init c = (refl, λ j h. absurd (omega arith))

pub overflow_mul-i : goal.overflow_mul-i
overflow_mul-i c =
    let a = c.args in
    omega (arith, (small c.new-counted.result.pattern a.start a.x _ c.loop-i.i c.requires.2 c.requires.3 c.rank_of-first.ensures c.loop-i-test.true).0)

pub overflow_add-first : goal.overflow_add-first
overflow_add-first c =
    let a = c.args in
    omega (arith, (small c.new-counted.result.pattern a.start a.x _ c.loop-i.i c.requires.2 c.requires.3 c.rank_of-first.ensures c.loop-i-test.true).1)

pub ends_at-requires : goal.ends_at-requires
ends_at-requires c =
    let a = c.args in (
      rw c.new-counted.ensures c.requires.1,
      omega (arith, (small c.new-counted.result.pattern a.start a.x _ c.loop-i.i c.requires.2 c.requires.3 c.rank_of-first.ensures c.loop-i-test.true).1),
    )

pub loop-i-preserved : goal.loop-i-preserved
loop-i-preserved c =
    let a = c.args in
    let l = c.loop-i in
    let p = c.new-counted.result.pattern in
    let first = c.rank_of-first.result in
    let at = c.rank_of-first.ensures in
    let regular : Regular p = rw c.new-counted.ensures c.requires.0 in
    let some : 0 < rank (allows p) (period_of p) = rw c.new-counted.ensures c.requires.1 in
    let within : l.i < 8 = omega (arith, c.loop-i-test.true, c.requires.3.many) in
    let nth = nth_is p regular a.start in
    let start = nth (l.i * a.x.size) (first + l.i * a.x.size) _ some (omega (arith, at)) c.ends_at.ensures.0 in
    let end = nth (l.i * a.x.size + (a.x.size - 1)) (first + l.i * a.x.size + (a.x.size - 1)) _ some (omega (arith, at)) c.ends_at.ensures.1 in (
      length-set l.list l.i c.ends_at.result ∙ l.invariant.0,
      set_more no_block _ l.list l.i _ (omega (arith, l.invariant.0)) l.invariant.1 (λ j. record { first = start j; last = end j }),
    )

pub returns : goal.returns
returns c =
    record {
      each = λ j h.
          c.loop-i.invariant.1 j (omega (arith, c.loop-i-test.false))
          ∙ ap (λ (p : Pattern). block_of (select (allows p) (period_of p) c.args.start) c.args.x.size j) c.new-counted.ensures;
    }
