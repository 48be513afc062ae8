-- What the anchor takes for synchronization and broadcast, and that the anchor's pattern leaves the rest.
use mathlib.Core.Bool.{Bool, true, false, cond, not, ◌&&◌, ◌||◌}
use mathlib.Core.Path.{◌≡◌, refl, sym, ap, ◌∙◌}
use Prim.Native.Nat.{ℕ, zero, suc, ◌+◌, ◌-◌, ◌*◌, ◌/◌, ◌%◌, ◌^◌, ◌≤◌, ◌<◌}
use native.Mathlib.Nat.{mod-lt, mod-mod}
use native.Mathlib.Omega.{arith}
use lib.Dec.{T, lit<, eqb}
use Rattle.counting.proofs.Facts.{each, each_at, alike, alike_eq}
use Rattle.counting.proofs.Period.{repeats_times, test_split}
use Rattle.spans.specs.declared.Pattern.{Pattern}
use Rattle.spans.specs.Pattern.{allows, period_of, Regular}
use Rattle.spans.proofs.Laws.{repeats}
use Rattle.sync.specs.Sync.{npbch, npss, nsss, by_schedule, sib1}
use Rattle.grid.specs.Grid.{frame}
use Rattle.sync.specs.Quick.{anchor_pattern}

abbrev pub taken : ℕ → ℕ → ℕ → Bool
taken identity schedule t = npbch t || (npss t || (nsss t || sib1 identity schedule t))

-- ---- what is taken repeats with 640 subframes, and depends on identity mod 4 and schedule mod 3

abbrev place_at : ℕ → ℕ → ℕ → ℕ
place_at r a f = (f + 256 - by_schedule r (16 * (a % 4)) (16 * (a % 2)) (a % 2)) % (256 / by_schedule r 4 8 16)

frame_mod : (t : ℕ) → frame (t % 640) ≡ frame t % 64
frame_mod t = omega arith

shift64 : (x A : ℕ) → A ≤ 256 → (x + 256 - A) % 64 ≡ (x % 64 + 256 - A) % 64
shift64 x A h = omega arith

shift32 : (x A : ℕ) → A ≤ 256 → (x + 256 - A) % 32 ≡ (x % 64 + 256 - A) % 32
shift32 x A h = omega arith

shift16 : (x A : ℕ) → A ≤ 256 → (x + 256 - A) % 16 ≡ (x % 64 + 256 - A) % 16
shift16 x A h = omega arith

mod4 : (a : ℕ) → a % 4 % 4 ≡ a % 4
mod4 a = omega arith

mod42 : (a : ℕ) → a % 4 % 2 ≡ a % 2
mod42 a = omega arith

place_mod : (r a t : ℕ) → r < 3 → place_at r a (frame t) ≡ place_at r (a % 4) (frame (t % 640))
place_mod zero a t h = rw (frame_mod t, mod4 a) (shift64 (frame t) (16 * (a % 4)) (omega arith))
place_mod (suc zero) a t h = rw (frame_mod t, mod42 a) (shift32 (frame t) (16 * (a % 2)) (omega arith))
place_mod (suc (suc zero)) a t h = rw (frame_mod t, mod42 a) (shift16 (frame t) (a % 2) (omega arith))
place_mod (suc (suc (suc r))) a t h = absurd (omega arith)

subframe_mod : (t : ℕ) → t % 10 ≡ t % 640 % 10
subframe_mod t = omega arith

even_mod : (t : ℕ) → frame t % 2 ≡ frame (t % 640) % 2
even_mod t = omega arith

taken_mod : (a k t : ℕ) → taken a k t ≡ taken (a % 4) (k % 3) (t % 640)
taken_mod a k t =
    rw (subframe_mod t, even_mod t, mod-mod k 3, place_mod (k % 3) a t (mod-lt k (lit< tt))) refl

pub sib1_mod : (a k t : ℕ) → sib1 a k t ≡ sib1 (a % 4) (k % 3) (t % 640)
sib1_mod a k t = rw (subframe_mod t, mod-mod k 3, place_mod (k % 3) a t (mod-lt k (lit< tt))) refl

-- ---- the anchor's pattern

pattern_mod : (a k : ℕ) → anchor_pattern a k ≡ anchor_pattern (a % 4) (k % 3)
unfolding anchor_pattern
pattern_mod a k = rw (mod-mod k 3, mod4 a, mod42 a) refl

-- 16, 8 or 4 spans; so it repeats with 640 subframes
regular_at : (a r : ℕ) → r < 3 → Regular (record {
  log = by_schedule r 4 3 2;
  first = by_schedule r (4 * (a % 4)) (4 * (a % 2)) 0;
  usual = 0x7b_9ef7_b9ef;
  sib1 = cond (eqb r 2 && eqb (a % 2) 1) 0x7b_9cf7_b9cf 0x73_9ef7_39ef;
})
regular_at a zero h = record { fits = omega arith; few = omega arith; usual_small = omega arith; sib1_small = omega arith }
regular_at a (suc zero) h = record { fits = omega arith; few = omega arith; usual_small = omega arith; sib1_small = omega arith }
regular_at a (suc (suc zero)) h = record { fits = omega arith; few = omega arith; usual_small = omega arith; sib1_small = by (eqb (a % 2) 1) }
  where
    by : (b : Bool) → cond b 0x7b_9cf7_b9cf 0x73_9ef7_39ef < 2 ^ 40
    by true = omega arith
    by false = omega arith
regular_at a (suc (suc (suc r))) h = absurd (omega arith)

pub anchor_regular : (a k : ℕ) → Regular (anchor_pattern a k)
unfolding anchor_pattern
anchor_regular a k = regular_at a (k % 3) (mod-lt k (lit< tt))

short_at : (p : Pattern) → Regular p → (r : ℕ) → r < 3 → p.log ≡ by_schedule r 4 3 2 → (t : ℕ) → allows p (t + 640) ≡ allows p t
short_at p ok zero h e t =
    let f : t + 1 * period_of p ≡ t + 640 = omega (arith, ap (λ (x : ℕ). 2 ^ x) e) in
    ap (allows p) (sym f) ∙ repeats_times (allows p) (period_of p) (repeats p ok) 1 t
short_at p ok (suc zero) h e t =
    let f : t + 2 * period_of p ≡ t + 640 = omega (arith, ap (λ (x : ℕ). 2 ^ x) e) in
    ap (allows p) (sym f) ∙ repeats_times (allows p) (period_of p) (repeats p ok) 2 t
short_at p ok (suc (suc zero)) h e t =
    let f : t + 4 * period_of p ≡ t + 640 = omega (arith, ap (λ (x : ℕ). 2 ^ x) e) in
    ap (allows p) (sym f) ∙ repeats_times (allows p) (period_of p) (repeats p ok) 4 t
short_at p ok (suc (suc (suc r))) h e t = absurd (omega arith)

anchor_short : (a k t : ℕ) → allows (anchor_pattern a k) (t + 640) ≡ allows (anchor_pattern a k) t
unfolding anchor_pattern
anchor_short a k t = short_at (anchor_pattern a k) (anchor_regular a k) (k % 3) (mod-lt k (lit< tt)) refl t

-- the table: for each identity mod 4, schedule mod 3 and subframe of 640
abbrev right : ℕ → ℕ → ℕ → Bool
right a k t = alike (allows (anchor_pattern a k) t) (not (taken a k t))

anchor_table : T (each 4 (λ a. each 3 (λ k. each 640 (λ t. right a k t))))
unfolding allows anchor_pattern
anchor_table = tt

table_at : (a k t : ℕ) → a < 4 → k < 3 → t < 640 → allows (anchor_pattern a k) t ≡ not (taken a k t)
table_at a k t ha hk ht =
    alike_eq (allows (anchor_pattern a k) t) (not (taken a k t))
    (each_at 640 (λ t. right a k t) (each_at 3 (λ k. each 640 (λ t. right a k t)) (each_at 4 (λ a. each 3 (λ k. each 640 (λ t. right a k t))) anchor_table a ha) k hk) t ht)

pub anchor_allows : (a k t : ℕ) → allows (anchor_pattern a k) t ≡ not (taken a k t)
anchor_allows a k t =
    test_split (allows (anchor_pattern a k)) 640 (anchor_short a k) t ∙ ap (λ (p : Pattern). allows p (t % 640)) (pattern_mod a k)
    ∙ table_at (a % 4) (k % 3) (t % 640) (omega arith) (omega arith) (omega arith) ∙ ap not (sym (taken_mod a k t))
