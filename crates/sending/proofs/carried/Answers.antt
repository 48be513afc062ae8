use mathlib.Core.Path.{◌≡◌, ap, ◌∙◌}
use Prim.Native.Nat.{ℕ, ◌+◌, ◌-◌, ◌*◌, ◌/◌, ◌%◌, ◌<◌, ◌≤◌}
use native.Mathlib.Nat.{mul-pos, mul-le-mul, le_of_lt, mul-add, div-add-mod, div-le_self, div-div-eq-div-mul, mod-le}
use native.Mathlib.Omega.{arith}
use Rattle.sending.specs.CopyOrder.{carried}
use Rattle.sending.proofs.CopyOrder.{carried_below}
use Rattle.sending.proofs.carried.Goals.{After-over, Start}
use Rattle.sending.proofs.carried.Goals as goal

-- r without the groups that repeat one before them, u groups over m of them
module _ (r g m u : ℕ) (e : u ≡ r / g / m) where
  fewer : u ≤ r / g
  fewer = omega (arith, e, div-le_self (r / g) m)

  parts : g * (r / g) ≡ g * u + g * (r / g - u)
  parts =
      let q : r / g ≡ u + (r / g - u) = omega (arith, fewer) in
      ap (λ (x : ℕ). g * x) q ∙ mul-add g u (r / g - u)

  repeats_fit : g * (r / g - u) ≤ r
  repeats_fit = omega (arith, parts, div-add-mod r g)

  without : r - g * (r / g - u) ≡ g * (r / (g * m)) + r % g
  without =
      let f : g * u ≡ g * (r / (g * m)) = ap (λ (x : ℕ). g * x) (e ∙ div-div-eq-div-mul r g m) in
      omega (arith, f, parts, div-add-mod r g)

module _ (c : After-over) where
  abbrev start : Start
  start = c.before

  abbrev place : ℕ
  place = start.args.i % (start.args.consecutive * start.args.units)

  below : carried start.args.consecutive start.args.group start.args.units start.args.i < start.args.units
  below =
      carried_below start.args.consecutive start.args.group start.args.units start.args.i start.requires.consecutive start.requires.group start.requires.whole start.requires.units

  made : place - start.args.group * (place / start.args.group - c.over.result)
      ≡ carried start.args.consecutive start.args.group start.args.units start.args.i
  made = without place start.args.group start.args.consecutive c.over.result c.over.ensures

  fits : start.args.group * (place / start.args.group - c.over.result) ≤ place
  fits = repeats_fit place start.args.group start.args.consecutive c.over.result c.over.ensures

pub overflow_mul-r : goal.overflow_mul-r
overflow_mul-r c = omega (arith, mul-le-mul (le_of_lt c.requires.consecutive_small) (le_of_lt c.requires.units_small))

pub nonzero_rem-r : goal.nonzero_rem-r
nonzero_rem-r c = mul-pos c.requires.consecutive c.requires.units

pub nonzero_div-q : goal.nonzero_div-q
nonzero_div-q c = c.requires.group

pub over-requires : goal.over-requires
over-requires c = c.requires.consecutive

pub overflow_sub-result : goal.overflow_sub-result
overflow_sub-result c = fewer (place c) (start c).args.group (start c).args.consecutive c.over.result c.over.ensures

pub overflow_mul-result : goal.overflow_mul-result
overflow_mul-result c = omega (arith, fits c, mod-le (start c).args.i ((start c).args.consecutive * (start c).args.units), (start c).ranges.i)

pub overflow_sub-result-2 : goal.overflow_sub-result-2
overflow_sub-result-2 c = fits c

pub returns : goal.returns
returns c = (made c, omega (arith, below c, made c))
