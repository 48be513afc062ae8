use Rattle.std.proofs.Common.{rules, tests, length, get_or}
use Rattle.std.proofs.lemmas.Iterator.{YieldsList-from_range, YieldsList-from_map, YieldsList-from_take}
use Rattle.std.proofs.lemmas.Iterator.Adapters.{YieldsList-from_flat_map, serves_from_places}
use Rattle.std.proofs.lemmas.Iterator.Consumers.{YieldsList-at, YieldsList-from_filter}
use Rattle.std.proofs.lemmas.List.FromFn.{get_or-range_with_len, get_or-map-range_with_len}
use Rattle.std.proofs.lemmas.List.FromFn.{length-range_with_len, length-map-range_with_len}
use Rattle.std.proofs.lemmas.Option.{same_Some}
use Rattle.std.specs.List.{range_with_len, flat_map, filter, slice_get}
use Rattle.std.specs.Prelude.{Some}
use Rattle.std.specs.declared.ops.Range.{Range}
use mathlib.Core.Bool.{Bool, false}
use mathlib.Core.List.{List}
use mathlib.Core.Path.{◌≡◌, refl, sym, ap, ◌∙◌}
use Prim.Native.Nat.{ℕ, ◌+◌, ◌*◌, ◌%◌, ◌^◌, ◌≤◌, ◌<◌}
use native.Mathlib.Nat.{mul-le-mul, mul_assoc}
use native.Mathlib.Omega.{arith}
use lib.Arith.{digits_mod}
use borrow.Author.Tests.{lt-ltb, le-ltb}
use Rattle.counting.specs.Counting.{select}
use Rattle.counting.proofs.Period.{select_below}
use Rattle.uplink.specs.declared.Shape.{Shape}
use Rattle.uplink.specs.Timing.{gap_period, in_block, group_at, active, period, slot_at}
use Rattle.uplink.proofs.GapPeriods.{repeats}
use Rattle.plain_uplink.specs.declared.obstacles.Obstacles.{Obstacles}
use Rattle.plain_uplink.specs.Obstacles.{clear_of}
use Rattle.chains.proofs.Counted.{last_of_list, last_taken}
use Rattle.chains.proofs.Ranges.{period_selects}
use Rattle.chains.proofs.Rows.{rows_hold, blocks_kept}
use Rattle.plain_uplink.proofs.slots.nth.Goals.{After-last, After-unwrap}
use Rattle.plain_uplink.proofs.slots.nth.Goals as goal

-- numbers below n are those of a range
below : (n k x : ℕ) → k < length (range_with_len 0 n) → x ≡ get_or (range_with_len 0 n) k x → x < n
below n k x l e =
    let m : k < n = omega (arith, l, length-range_with_len 0 n) in
    omega (arith, e, m, get_or-range_with_len 0 n k x m)

fits : (x n P b : ℕ) → x < n → n ≤ 2 ^ 42 → P ≤ 2 ^ 17 → b < 2 ^ 16 → x * P + b < 2 ^ 60
fits x n P b h k l m =
    let within : x ≤ 2 ^ 42 = omega (arith, h, k) in
    omega (arith, mul-le-mul within l, m)

module _ (s : Shape) where
  -- the slots of gap period k, as a list and as the range that the code makes, and those of the first n
  abbrev slots_of : ℕ → List ℕ
  slots_of k = range_with_len (k * gap_period s) s.block

  abbrev block_of : ℕ → Range ℕ
  block_of k = record { start = k * gap_period s; end = k * gap_period s + s.block }

  abbrev gone_over : ℕ → List ℕ
  gone_over n = flat_map slots_of (range_with_len 0 n)

  -- each fits
  all_fit : (n : ℕ) → n ≤ 2 ^ 42 → gap_period s ≤ 2 ^ 17 → s.block < 2 ^ 16
      → (k d : ℕ) → k < length (gone_over n) → get_or (gone_over n) k d < 2 ^ 60
  all_fit n h k l =
      rows_hold (λ x. x < 2 ^ 60) slots_of n 0
      (λ x p q i d r.
      let m : i < s.block = omega (arith, r, length-range_with_len (x * gap_period s) s.block) in
      omega (arith, m, fits x n (gap_period s) s.block (omega arith) h k l, get_or-range_with_len (x * gap_period s) s.block i d m))

pub last-requires-clause-can : goal.last-requires-clause-can
last-requires-clause-can c =
    let s = c.args.s in
    let n = (c.args.i + 1) * 320 in
    let f = c.requires.0 in
    let a : n ≤ 2 ^ 42 = omega (arith, c.requires.3) in
    let b : gap_period s ≤ 2 ^ 17 = omega (arith, f.block_small, f.gap_small) in
    let source = ap (λ f. f.iter.iter) c.filter.ensures.source ∙ c.flat_map.ensures.source in
    let callee = ap (λ f. f.iter.f) c.filter.ensures.source ∙ c.flat_map.ensures.closure in
    let period = c.filter.result.iter.iter.f.0.now in
    let block = c.filter.result.iter.iter.f.1.now in
    let p : period ≡ gap_period s = ap (λ f. f.0.now) callee in
    let q : block ≡ s.block = ap (λ f. f.1.now) callee in
    rw c.take.ensures.source (
      (
        (
          (λ h. (
            (
              tt,
              serves_from_places (YieldsList-from_range 0 _ n source (omega arith)) (λ x q k. search (rules, tests))
                  (λ x k l e.
                  let small : x * period + block < 2 ^ 60 =
                  omega (arith, ap (λ (y : ℕ). x * y) p, q, fits x n (gap_period s) s.block (below n k x l e) a b f.block_small) in
                  ((λ κ r g i h k. omega (arith, small)), (λ κ r g i h k. omega (arith, small)), (λ κ r g i h k l. omega (arith, small)))),
            ),
            serves_from_places
                (YieldsList-from_map _ (block_of s) (YieldsList-from_range 0 _ n source (omega arith)) callee (λ x r q k. search (rules, tests)))
                (λ x q k. refl)
                (λ x k l e j o.
                let m : k < n = omega (arith, l, length-map-range_with_len (block_of s) 0 n) in
                let v : j ≡ block_of s k = o ∙ e ∙ get_or-map-range_with_len (block_of s) 0 n k k x m (omega arith) in
                (tt, tt, omega (arith, ap (λ r. r.start) v, ap (λ r. r.end) v, f.block_small))),
          )),
          tt,
          λ x e. (tt, tt),
        ),
        λ x e. (tt, tt),
      ),
      tt,
      serves_from_places
          (YieldsList-at c.filter.ensures.source (YieldsList-from_flat_map _ _ _ (λ x. x) (slots_of s) _
          (λ x u q k. (
            search (rules, tests),
            λ j o. YieldsList-from_range (x * gap_period s) (x * gap_period s + s.block) s.block (o ∙ search (rules, tests)) (omega arith),
          ))
          (YieldsList-from_range 0 _ n c.flat_map.ensures.source (omega arith))
          c.flat_map.ensures.closure c.flat_map.ensures.front c.flat_map.ensures.back c.flat_map.ensures.done))
          (λ x q k. search (rules, tests))
          (λ x k l e y i κ r g j h t u w.
          rw c.filter.ensures.closure
          (f, c.requires.1, c.any_stands-any.ensures, omega (arith, i, e, all_fit s n a b f.block_small k x l))),
    )

-- ---- what is found

module _ (s : Shape) (os : Obstacles) where
  abbrev clear_at : ℕ → Bool
  clear_at x = clear_of os (group_at s (s.first + x))

  inside : (k i : ℕ) → i < s.block → clear_at (k * gap_period s + i) ≡ active s (clear_of os) (k * gap_period s + i)
  unfolding active in_block
  inside k i h =
      let r : (k * gap_period s + i) % gap_period s ≡ i = digits_mod k {m = gap_period s} {r = i} (omega arith) in
      rw (lt-ltb ((k * gap_period s + i) % gap_period s) s.block (omega (arith, h, r))) refl

  outside : (k i : ℕ) → i < s.gap → active s (clear_of os) (k * gap_period s + s.block + i) ≡ false
  unfolding active in_block
  outside k i h =
      let e : k * gap_period s + s.block + i ≡ k * gap_period s + (s.block + i) = omega arith in
      let r : (k * gap_period s + (s.block + i)) % gap_period s ≡ s.block + i =
      digits_mod k {m = gap_period s} {r = s.block + i} (omega arith) in
      rw e (rw (le-ltb ((k * gap_period s + (s.block + i)) % gap_period s) s.block (omega (arith, r))) refl)

found : (c : After-last)
    → c.last.result ≡ Some (select (active c.args.s (clear_of c.args.os)) (period c.args.s) 0 c.args.i)
found c =
    let s = c.args.s in
    let os = c.args.os in
    let i = c.args.i in
    let n = (i + 1) * 320 in
    let u = active s (clear_of os) in
    last_of_list c.last.result c.last.ensures.ran
    (YieldsList-from_take (i + 1)
    (YieldsList-at c.take.ensures.source (YieldsList-from_filter _ (clear_at s os)
    (YieldsList-at c.filter.ensures.source (YieldsList-from_flat_map _ _ _ (λ x. x) (slots_of s) _
    (λ x u q k. (
      search (rules, tests),
      λ j o. YieldsList-from_range (x * gap_period s) (x * gap_period s + s.block) s.block (o ∙ search (rules, tests)) (omega arith),
    ))
    (YieldsList-from_range 0 _ n c.flat_map.ensures.source (omega arith))
    c.flat_map.ensures.closure c.flat_map.ensures.front c.flat_map.ensures.back c.flat_map.ensures.done))
    c.filter.ensures.closure (λ x b q k. search (rules, tests)))) c.take.ensures.count)
    ∙ last_taken _ i (select u (period s) 0 i)
    (ap (λ xs. slice_get xs i)
    (blocks_kept u (clear_at s os) s.block s.gap (inside s os) (outside s os) n
    ∙ ap (λ (m : ℕ). filter u (range_with_len 0 m)) (mul_assoc (i + 1) 320 (gap_period s)))
    ∙ period_selects u (period s) (repeats s (clear_of os) c.requires.0 c.requires.2) c.requires.2.some 0 i)

pub unwrap-requires : goal.unwrap-requires
unwrap-requires c = rw (found c) refl

at : (c : After-unwrap) → c.unwrap.result ≡ select (active c.args.s (clear_of c.args.os)) (period c.args.s) 0 c.args.i
at c = same_Some _ _ (sym c.unwrap.ensures ∙ found c.before)

pub overflow_add-result : goal.overflow_add-result
overflow_add-result c =
    let s = c.args.s in
    let i = c.args.i in
    let u = active s (clear_of c.args.os) in
    let below = select_below u (period s) (repeats s (clear_of c.args.os) c.requires.0 c.requires.2) c.requires.2.some 0 i in
    let a : i + 1 ≤ 2 ^ 32 = omega (arith, c.requires.3) in
    let b : period s ≤ 2 ^ 26 = omega (arith, c.requires.0.block_small, c.requires.0.gap_small) in
    omega (arith, at c, below, mul-le-mul a b, c.requires.0.first_small)

pub returns : goal.returns
unfolding slot_at
returns c = ap (λ (x : ℕ). c.args.s.first + x) (at c)
