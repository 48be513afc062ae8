-- The first byte at the top; ten bits four times.
use native.Mathlib.Omega.{arith}
use mathlib.Core.Path.{◌≡◌}
use Prim.Native.Nat.{◌+◌, ◌*◌}
use lib.ListN.{get_or}
use Rattle.bitmap.proofs.Forty.{two_bytes, five_bytes, forty_bits, loaded_none, loaded_ten, loaded_forty}
use Rattle.bitmap.proofs.load.Goals as goal

pub returns-in-0 : goal.returns-in-0
returns-in-0 c = rw c.in-0.is (loaded_none _ (λ q. (c.type_inv.b q).fits))

pub bounds-b-0 : goal.bounds-b-0
bounds-b-0 c = omega (arith, two_bytes _ c.in-10.is, c.requires.long)

pub bounds-b-1 : goal.bounds-b-1
bounds-b-1 c = omega (arith, two_bytes _ c.in-10.is, c.requires.long)

pub returns-in-10 : goal.returns-in-10
returns-in-10 c = rw (c.in-10.is, c.from-in-10.ensures, c.from.ensures) (loaded_ten _ (λ q. (c.type_inv.b q).fits))

pub bounds-b-0-in_default : goal.bounds-b-0-in_default
bounds-b-0-in_default c = omega (arith, five_bytes _ (forty_bits _ c.requires.listed (λ e. omega arith) (λ e. omega arith)), c.requires.long)

pub bounds-b-1-in_default : goal.bounds-b-1-in_default
bounds-b-1-in_default c = omega (arith, five_bytes _ (forty_bits _ c.requires.listed (λ e. omega arith) (λ e. omega arith)), c.requires.long)

pub bounds-b-2 : goal.bounds-b-2
bounds-b-2 c = omega (arith, five_bytes _ (forty_bits _ c.requires.listed (λ e. omega arith) (λ e. omega arith)), c.requires.long)

pub bounds-b-3 : goal.bounds-b-3
bounds-b-3 c = omega (arith, five_bytes _ (forty_bits _ c.requires.listed (λ e. omega arith) (λ e. omega arith)), c.requires.long)

pub bounds-b-4 : goal.bounds-b-4
bounds-b-4 c = omega (arith, five_bytes _ (forty_bits _ c.requires.listed (λ e. omega arith) (λ e. omega arith)), c.requires.long)

pub returns-in_default : goal.returns-in_default
returns-in_default c =
    let b = c.args.b.now in
    let forty : c.args.bits ≡ 40 = forty_bits _ c.requires.listed (λ e. omega arith) (λ e. omega arith) in
    let number : c.from_be_bytes.result ≡ (((get_or b 0 0 * 256 + get_or b 1 0) * 256 + get_or b 2 0) * 256 + get_or b 3 0) * 256 + get_or b 4 0 =
    omega (arith, c.from_be_bytes.ensures) in
    rw (forty, number) (loaded_forty b (λ q. (c.type_inv.b q).fits))
