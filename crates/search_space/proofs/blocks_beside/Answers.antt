use mathlib.Core.Bool.{Bool}
use mathlib.Core.Path.{◌≡◌, refl, sym, ap, ◌∙◌}
use Prim.Native.Nat.{ℕ, ◌+◌, ◌-◌, ◌*◌, ◌^◌, ◌<◌}
use native.Mathlib.Nat.{mul-le-mul, add-zero, add-mul, one-mul, zero-mul}
use native.Mathlib.Omega.{arith}
use lib.ListN.{length-set}
use Rattle.counting.specs.Counting.{select}
use Rattle.counting.proofs.Period.{select_from, select_below}
use Rattle.spans.specs.Pattern.{allows}
use Rattle.messages.specs.Messages.{all_periods, remaining}
use Rattle.messages.proofs.Repeating.{remaining_again}
use Rattle.subframes.proofs.Left.{allows_again}
use Rattle.search_space.specs.Quick.{no_block}
use Rattle.search_space.proofs.Listing.{set_more}
use Rattle.search_space.proofs.blocks_beside.Goals.{After-block-ends, Start}
use Rattle.search_space.proofs.blocks_beside.Invariants.{Stands}
use Rattle.search_space.proofs.blocks_beside.Goals as goal

-- one block on
module _ (c : After-block-ends) where
  abbrev start : Start
  start = c.before.before.before

  abbrev u : ℕ → Bool
  u = remaining start.args.ms (allows start.args.p)

  abbrev at : ℕ → ℕ
  at = select u all_periods start.args.start

  abbrev size : ℕ
  size = start.args.x.size

  abbrev i : ℕ
  i = c.loop-i.i

  again : (t : ℕ) → u (t + all_periods) ≡ u t
  again = remaining_again start.args.ms start.requires.0 (allows start.args.p) (allows_again start.args.p start.requires.1)

  first_is : c.block-ends.result.first ≡ at (i * size)
  first_is =
      let l = c.loop-i in
      c.block-ends.ensures.0 ∙ ap (select u all_periods l.from) (sym (add-zero l.skip)) ∙ l.invariant.3 0 ∙ ap at (add-zero (i * size))

  last_is : c.block-ends.result.last ≡ at (i * size + (size - 1))
  last_is = c.block-ends.ensures.1 ∙ c.loop-i.invariant.3 (size - 1)

  last_small : c.block-ends.result.last < 2 ^ 31
  last_small =
      omega (
        arith,
        last_is,
        select_below u all_periods again start.requires.2 start.args.start (i * size + (size - 1)),
        mul-le-mul {n₁ = i} {m₁ = size} {n₂ = 8} {m₂ = 256} (omega (arith, c.loop-i-test.true, start.requires.4.many)) start.requires.4.size.1,
        start.requires.3,
        start.requires.4.size.1,
      )

  stands : Stands u start.args.start size (i + 1) c.block-ends.result.last 1
  stands k =
      let e : i * size + (size - 1) + (1 + k) ≡ (i + 1) * size + k =
      omega (arith, add-mul i 1 size, one-mul size, start.requires.4.size.0) in
      ap (λ (t : ℕ). select u all_periods t (1 + k)) last_is
      ∙ select_from u all_periods again start.requires.2 start.args.start (i * size + (size - 1)) (1 + k) ∙ ap at e

pub loop-i-preserved : goal.loop-i-preserved
loop-i-preserved c =
    let l = c.loop-i in
    let within : l.i < 8 = omega (arith, c.loop-i-test.true, c.requires.4.many) in (
      length-set l.list l.i c.block-ends.result ∙ l.invariant.0,
      set_more no_block _ l.list l.i _ (omega (arith, l.invariant.0)) l.invariant.1 (λ j. record { first = first_is c j; last = last_is c j }),
      (last_small c, omega arith),
      stands c,
    )

pub loop-i-init : goal.loop-i-init
loop-i-init c = (
  refl,
  λ k h. absurd (omega arith),
  (omega (arith, c.requires.3), omega arith),
  λ k.
      let e : 0 + k ≡ 0 * c.args.x.size + k = omega (arith, zero-mul c.args.x.size) in
      ap (select (remaining c.args.ms (allows c.args.p)) all_periods c.args.start) e,
)

pub block-ends-requires : goal.block-ends-requires
block-ends-requires c =
    let s = c in
    let l = c.loop-i in
    (s.requires.0, s.requires.1, s.requires.2, l.invariant.2.0, omega (arith, l.invariant.2.1, s.requires.4.size.1))

pub returns : goal.returns
returns c = record { each = λ k h. c.loop-i.invariant.1 k (omega (arith, c.loop-i-test.false)) }
