use Rattle.std.proofs.Common.{rules}
use mathlib.Core.Path.{◌≡◌, refl, ◌∙◌}
use mathlib.Core.Logic.{⊎_elim}
use Prim.Native.Nat.{ℕ, ◌+◌, ◌-◌, ◌*◌, ◌≤◌, ◌<◌}
use native.Mathlib.Nat.{mul-le-mul}
use native.Mathlib.Omega.{arith}
use borrow.Author.Tests.{lt-ltb, le-ltb}
use lib.ListN.{length-set, get_or-replicate}
use lib.Seq.{get_or-set_other}
use Rattle.counting.proofs.Facts.{order}
use Rattle.search_space.specs.declared.Cut.{Cut}
use Rattle.search_space.specs.Candidates.{blank}
use Rattle.search_space.specs.Quick.{CutFits, first_block, last_block, entry_in}
use Rattle.search_space.proofs.Labels.{in_order_lem}
use Rattle.search_space.proofs.Listing.{set_more}
use Rattle.search_space.proofs.listed.Goals as goal

-- the two blocks of candidate k
module _ (x : Cut) (f : CutFits x) (k i j : ℕ) (h : k < x.count) (a : i ≡ first_block x.row k) (b : j ≡ last_block x.row k) where
  below : k < 15
  below = omega (arith, h, f.count)

  between : (i ≤ j) × (j < 8)
  between = let o = in_order_lem x.row k f.row below in (omega (arith, a, b, o.0), omega (arith, b, o.1))

  small : (j + 1 - i) * x.size ≤ 8 * 256
  small = mul-le-mul {n₂ = 8} {m₂ = 256} (omega (arith, between.1)) f.size.1

pub bounds-firsts-x : goal.bounds-firsts-x
bounds-firsts-x c = c.requires.row

pub bounds-lasts-x : goal.bounds-lasts-x
bounds-lasts-x c = c.requires.row

pub loop-k-init : goal.loop-k-init
loop-k-init c = (refl, λ i h. absurd (omega arith), λ i h l. get_or-replicate 15 i blank blank l)

pub bounds-b-i : goal.bounds-b-i
unfolding first_block last_block
bounds-b-i c =
    let w = between c.args.x c.requires c.loop-k.k _ _ c.loop-k-test.true c.digit-i.ensures c.digit-j.ensures in
    omega (arith, w.0, w.1)

pub overflow_add-list : goal.overflow_add-list
unfolding first_block last_block
overflow_add-list c = omega (arith, (between c.args.x c.requires c.loop-k.k _ _ c.loop-k-test.true c.digit-i.ensures c.digit-j.ensures).1)

pub overflow_sub-list : goal.overflow_sub-list
unfolding first_block last_block
overflow_sub-list c = omega (arith, (between c.args.x c.requires c.loop-k.k _ _ c.loop-k-test.true c.digit-i.ensures c.digit-j.ensures).0)

pub overflow_mul-list : goal.overflow_mul-list
unfolding first_block last_block
overflow_mul-list c = omega (arith, small c.args.x c.requires c.loop-k.k _ _ c.loop-k-test.true c.digit-i.ensures c.digit-j.ensures)

pub bounds-b-j : goal.bounds-b-j
unfolding first_block last_block
bounds-b-j c = omega (arith, (between c.args.x c.requires c.loop-k.k _ _ c.loop-k-test.true c.digit-i.ensures c.digit-j.ensures).1)

pub loop-k-preserved : goal.loop-k-preserved
unfolding first_block last_block
loop-k-preserved c =
    let l = c.loop-k in
    let below : l.k < 15 = omega (arith, c.loop-k-test.true, c.requires.count) in (
      length-set l.list l.k _ ∙ l.invariant.0,
      set_more blank _ l.list l.k _ (omega (arith, below, l.invariant.0)) l.invariant.1 (rw (← c.digit-i.ensures, ← c.digit-j.ensures) refl),
      λ i h m. get_or-set_other l.list l.k i _ blank (λ q. omega arith) ∙ l.invariant.2 i (omega arith) m,
    )

pub returns : goal.returns
unfolding entry_in
returns c =
    let l = c.loop-k in
    let x = c.args.x in
    let e : l.k ≡ x.count = search rules in (
      l.invariant.0,
      λ k h.
          ⊎_elim (λ m. rw (lt-ltb k x.count m) (l.invariant.1 k (omega arith))) (λ m. rw (le-ltb k x.count m) (l.invariant.2 k (omega arith) h))
          (order k x.count),
    )
