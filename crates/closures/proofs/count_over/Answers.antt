use mathlib.Core.Path.{◌≡◌, sym, ap, ◌∙◌}
use Prim.Native.Nat.{ℕ, ◌+◌, ◌-◌, ◌*◌, ◌/◌, ◌%◌, ◌≤◌, ◌<◌}
use native.Mathlib.Nat.{mod-lt, mod_self, div-add-mod', add-mul-mod_self_right}
use native.Mathlib.Omega.{arith}
use Rattle.closures.specs.Quick.{count_before}
use Rattle.closures.proofs.count_over.Goals.{After-before-2}
use Rattle.closures.proofs.count_over.Goals as goal

module _ (c : After-before-2) where
  abbrev period : ℕ
  period = c.args.b.period

  abbrev phase : ℕ
  phase = c.args.b.phase

  abbrev shift : ℕ
  shift = period - phase % period

  below : phase % period < period
  below = mod-lt phase c.requires.0.some

  -- from where a period of the closure begins
  shifted : (shift + phase) % period ≡ 0
  shifted =
      let e : shift + phase ≡ period + phase / period * period = omega (arith, below, div-add-mod' phase period) in
      ap (λ (x : ℕ). x % period) e ∙ add-mul-mod_self_right period (phase / period) period ∙ mod_self period

  -- what the closure has in a period
  between : (c.before-least.result ≤ c.before-2.result) × (c.before-2.result ≤ c.before-least.result + period)
  between =
      let n : ℕ → ℕ = count_before c.args.below in
      let closed : ℕ = c.args.b.closed in
      let e : closed + shift + (period - closed) ≡ period + shift = omega (arith, c.requires.1) in
      let low = c.before-least.ensures.0 in
      let high = c.before-2.ensures.0 ∙ ap n (sym e) in
      let slow = c.requires.3 in (
        omega (arith, low, high, slow.rises (closed + shift) (period - closed)),
        omega (arith, low, high, slow.near (closed + shift) (period - closed)),
      )

pub overflow_sub-result : goal.overflow_sub-result
overflow_sub-result c = (between (goal.at.overflow_sub-result c).After-before-2).0

pub returns : goal.returns
returns c =
    let b = (goal.at.returns c).After-before-2 in (
      record { usable = c.requires.0; capped = c.requires.1; shift_small = omega (arith, below b); per_small = omega (arith, between b) },
      λ p. record {
        shifted = shifted b;
        least = c.before-least.ensures.0;
        per = sym c.before-2.ensures.0 ∙ omega (arith, between b);
      },
    )
