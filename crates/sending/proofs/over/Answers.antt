use mathlib.Core.Path.{◌≡◌, sym, ap, ◌∙◌}
use Prim.Native.Nat.{ℕ, ◌*◌, ◌/◌, ◌%◌, ◌^◌, ◌<◌}
use native.Mathlib.Nat.{one-mul}
use native.Mathlib.Omega.{arith}
use lib.Count.{count_trailing_zeros, trailing_le}
use lib.Dec.{lit<}
use lib.Pow.{shl_exact}
use Rattle.sending.proofs.over.Goals as goal

-- 1 << z is the power
shifted : (z : ℕ) → z < 64 → 1 * 2 ^ z % 2 ^ 64 ≡ 2 ^ z
shifted z h = shl_exact {a = 1} 1 z 64 (lit< tt) (omega arith) ∙ one-mul (2 ^ z)

pub overflow_cast-z : goal.overflow_cast-z
overflow_cast-z c = omega (arith, trailing_le 64 c.args.d)

pub overflow_shl-z : goal.overflow_shl-z
overflow_shl-z c = omega arith

pub overflow_shr-result : goal.overflow_shr-result
overflow_shr-result c = omega arith

pub returns-then-z-d : goal.returns-then-z-d
returns-then-z-d c = ap (λ (x : ℕ). c.args.n / x) (sym (shifted (count_trailing_zeros 64 c.args.d % 64) (omega arith)) ∙ c.if-z-d.true)
