-- Each shift is exact, and the numbers of the range are tried in order.
use mathlib.Core.Path.{◌≡◌, refl, ◌∙◌}
use Prim.Native.Nat.{ℕ, ◌*◌, ◌%◌, ◌^◌, ◌<◌}
use native.Mathlib.Omega.{arith}
use lib.Dec.{eqb}
use Rattle.std.proofs.Common.{rules, tests}
use Rattle.std.proofs.lemmas.Iterator.{YieldsList-from_range}
use Rattle.std.proofs.lemmas.Iterator.Search.{any_from_yields_List}
use Rattle.std.specs.List.{list_any, range_with_len}
use Rattle.nprach.specs.Windows.{is_one_of, repetitions}
use Rattle.nprach.proofs.is_repeated.Goals as goal

exact : (x a : ℕ) → a < 2 ^ 32 → list_any (λ (i : ℕ). eqb x (a * 2 ^ i % 2 ^ 64)) (range_with_len 0 7) ≡ is_one_of (repetitions a) x
exact x a h =
    let e0 : a * 2 ^ 0 % 2 ^ 64 ≡ a = omega arith in
    let e1 : a * 2 ^ 1 % 2 ^ 64 ≡ 2 * a = omega arith in
    let e2 : a * 2 ^ 2 % 2 ^ 64 ≡ 4 * a = omega arith in
    let e3 : a * 2 ^ 3 % 2 ^ 64 ≡ 8 * a = omega arith in
    let e4 : a * 2 ^ 4 % 2 ^ 64 ≡ 16 * a = omega arith in
    let e5 : a * 2 ^ 5 % 2 ^ 64 ≡ 32 * a = omega arith in
    let e6 : a * 2 ^ 6 % 2 ^ 64 ≡ 64 * a = omega arith in
    rw (e0, e1, e2, e3, e4, e5, e6) refl

pub returns : goal.returns
returns c =
    any_from_yields_List (λ (i : ℕ). eqb c.args.x (c.args.one * 2 ^ i % 2 ^ 64)) _ _ _ c.any.ensures.ran (YieldsList-from_range 0 7 7 refl refl)
    (λ x b q k. search (rules, tests))
    ∙ exact c.args.x c.args.one c.requires
