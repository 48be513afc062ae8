-- The slots of 256 ms of sending, in closed form: blocks with a gap after each; and where there is no window, they are all that may be sent.
use mathlib.Core.Bool.{Bool, true, false, ◌&&◌}
use mathlib.Core.Path.{◌≡◌, refl, sym, ap, ap₂, ◌∙◌}
use Prim.Native.Nat.{ℕ, ◌+◌, ◌-◌, ◌*◌, ◌/◌, ◌%◌, ◌≤◌, ◌<◌}
use native.Mathlib.Nat.{zero-add, mod-lt, mod-le, mod-eq_of_lt, zero-mod, zero-div, mul-zero, add-mod, add-mod_right, add-mul-div_right, div-add-mod', mul-add, mul_comm, mul_assoc, mul-le-mul_left}
use native.Mathlib.Omega.{arith}
use lib.Dec.{ltb}
use lib.Arith.{digits_div, digits_mod}
use borrow.Author.Tests.{lt-ltb, le-ltb}
use Rattle.counting.specs.Counting.{rank, select}
use Rattle.counting.specs.Scaffold.{Lists}
use Rattle.counting.proofs.Rank.{rank_zero, rank_none, rank_same}
use Rattle.counting.proofs.Range.{rank_all}
use Rattle.counting.proofs.Select.{nth_of, lists_moved}
use Rattle.counting.proofs.Period.{rank_split, repeats_times, some_of, is_select, lists_from_zero}
use Rattle.uplink.specs.declared.Shape.{Shape}
use Rattle.uplink.specs.Fits.{Fits, OpenRepeats}
use Rattle.uplink.specs.Timing.{gap_period, in_block, group_at, active, period, sent_slots, slot_at, is_sent, index_of}
use Rattle.uplink.specs.Scaffold.{gap_periods, all_open}

module _ (s : Shape) (some : 0 < s.block) where
  pub periods_repeat : (x : ℕ) → in_block s (x + gap_period s) ≡ in_block s x
  unfolding in_block
  periods_repeat x = ap (λ (y : ℕ). ltb y s.block) (add-mod_right x (gap_period s))

  -- a gap period: first its block, then its gap
  in_block_lem : (r : ℕ) → r ≤ s.block → rank (in_block s) r ≡ r
  unfolding in_block
  in_block_lem r h =
      omega (
        arith,
        rank_zero (in_block s),
        ap (rank (in_block s)) (zero-add r),
        rank_all (in_block s) 0 r (λ i p q. lt-ltb (i % gap_period s) s.block (omega (arith, mod-le i (gap_period s)))),
      )

  in_gap : (r : ℕ) → s.block ≤ r → r ≤ gap_period s → rank (in_block s) r ≡ s.block
  unfolding in_block
  in_gap r h k =
      let e : s.block + (r - s.block) ≡ r = omega arith in
      let none : (i : ℕ) → s.block ≤ i → i < s.block + (r - s.block) → in_block s i ≡ false =
      λ i p q. le-ltb (i % gap_period s) s.block (omega (arith, mod-eq_of_lt {n = i} {m = gap_period s} (omega arith))) in
      sym (ap (rank (in_block s)) e) ∙ rank_none (in_block s) s.block (r - s.block) none ∙ in_block_lem s.block (omega arith)

  whole_period : rank (in_block s) (gap_period s) ≡ s.block
  whole_period = in_gap (gap_period s) (omega arith) (omega arith)

  -- how many before x, by whole gap periods
  by_periods : (x : ℕ) → rank (in_block s) x ≡ x / gap_period s * s.block + rank (in_block s) (x % gap_period s)
  by_periods x =
      rank_split (in_block s) (gap_period s) periods_repeat x
      ∙ ap (λ (n : ℕ). x / gap_period s * n + rank (in_block s) (x % gap_period s)) whole_period

  pub before_in_block : (x : ℕ) → x % gap_period s < s.block → x / gap_period s * s.block + x % gap_period s ≡ rank (in_block s) x
  before_in_block x h = omega (arith, by_periods x, in_block_lem (x % gap_period s) (omega arith))

  -- blocks before x are no more than x
  pub blocks_below : (x : ℕ) → x / gap_period s * s.block + x % gap_period s ≤ x
  blocks_below x =
      let b : s.block ≤ gap_period s = omega arith in
      omega (arith, div-add-mod' x (gap_period s), mul-le-mul_left (x / gap_period s) b)

  -- the i-th, by whole blocks
  pub at_block : (i : ℕ) → (in_block s (i + s.gap * (i / s.block)) ≡ true) × (rank (in_block s) (i + s.gap * (i / s.block)) ≡ i)
  unfolding in_block
  at_block i =
      let q : ℕ = i / s.block in
      let r : ℕ = i % s.block in
      let l : r < s.block = mod-lt i some in
      let l' : r < gap_period s = omega arith in
      let t : ℕ = q * gap_period s + r in
      let e : i + s.gap * (i / s.block) ≡ t =
      omega (arith, div-add-mod' i s.block, mul-add q s.block s.gap, mul_comm s.gap q) in
      let d : t / gap_period s ≡ q = digits_div q l' in
      let m : t % gap_period s ≡ r = digits_mod q l' in
      let n : rank (in_block s) t ≡ i =
      by_periods t ∙ ap₂ (λ (a b : ℕ). a * s.block + rank (in_block s) b) d m
      ∙ omega (arith, in_block_lem r (omega arith), div-add-mod' i s.block) in
      (ap (in_block s) e ∙ lt-ltb (t % gap_period s) s.block (omega arith), ap (rank (in_block s)) e ∙ n)

-- what may be sent repeats, where gap periods are of whole groups and which groups are open repeats
module _ (s : Shape) (is_open : ℕ → Bool) (group : 0 < s.group) (block : 0 < s.block) (whole : gap_period s / s.group * s.group ≡ gap_period s)
    (again : (u : ℕ) → is_open (u + gap_periods * (gap_period s / s.group)) ≡ is_open u) where
  group_on : (x : ℕ) → group_at s (s.first + (x + period s)) ≡ group_at s (s.first + x) + gap_periods * (gap_period s / s.group)
  group_on x =
      let e : s.first + (x + period s) ≡ s.first + x + gap_periods * (gap_period s / s.group) * s.group =
      omega (arith, mul_assoc gap_periods (gap_period s / s.group) s.group, ap (λ (y : ℕ). gap_periods * y) whole) in
      ap (λ (y : ℕ). y / s.group) e ∙ add-mul-div_right (s.first + x) (gap_periods * (gap_period s / s.group)) group

  pub active_repeats : (x : ℕ) → active s is_open (x + period s) ≡ active s is_open x
  unfolding active
  active_repeats x =
      ap₂ ◌&&◌ (repeats_times (in_block s) (gap_period s) (periods_repeat s block) gap_periods x)
      (ap is_open (group_on x) ∙ again (group_at s (s.first + x)))

-- ---- groups: each number of slots is one of whole groups

module _ (s : Shape) (f : Fits s) where
  pub whole : (n : ℕ) → n % s.group ≡ 0 → n / s.group * s.group ≡ n
  whole n h = omega (arith, div-add-mod' n s.group)

  pub whole_period_groups : gap_period s / s.group * s.group ≡ gap_period s
  whole_period_groups = whole (gap_period s) (add-mod s.block s.gap s.group ∙ ap₂ (λ (a b : ℕ). (a + b) % s.group) f.whole_block f.whole_gap ∙ zero-mod s.group)

-- ---- the slots that are sent, listed

module _ (s : Shape) (is_open : ℕ → Bool) (f : Fits s) (o : OpenRepeats s is_open) where
  pub repeats : (x : ℕ) → active s is_open (x + period s) ≡ active s is_open x
  repeats = active_repeats s is_open f.group f.block (whole_period_groups s f) o.again

  pub slots_listed : Lists (sent_slots s) (slot_at s is_open) (is_sent s is_open) (index_of s is_open)
  unfolding slot_at is_sent index_of
  slots_listed = lists_moved s.first (sent_slots s) _ _ _ (lists_from_zero (active s is_open) (period s) repeats o.some (sent_slots s))

-- ---- where there is no window

module _ (s : Shape) (f : Fits s) where
  pub plain : (x : ℕ) → active s all_open x ≡ in_block s x
  unfolding active
  plain x = and_true (in_block s x)
    where
      and_true : (b : Bool) → (b && true) ≡ b
      and_true true = refl
      and_true false = refl

  pub plain_rank : (x : ℕ) → rank (active s all_open) x ≡ rank (in_block s) x
  plain_rank x = rank_same (active s all_open) (in_block s) x (λ i l. plain i)

  pub all_leaves : OpenRepeats s all_open
  all_leaves = record {
    again = λ u. refl;
    some =
        some_of (active s all_open) (period s) (active_repeats s all_open f.group f.block (whole_period_groups s f) (λ u. refl))
        (0 + s.gap * (0 / s.block)) (omega (arith, f.block)) (plain (0 + s.gap * (0 / s.block)) ∙ (at_block s f.block 0).0);
  }

  pub at_index : (i : ℕ) → i + s.gap * (i / s.block) ≡ select (active s all_open) (period s) 0 i
  at_index i =
      let t : ℕ = i + s.gap * (i / s.block) in
      let b = at_block s f.block i in
      is_select (active s all_open) (period s) (repeats s all_open f all_leaves) all_leaves.some 0 i t
      (nth_of (active s all_open) 0 i t (plain t ∙ b.0) (omega (arith, rank_zero (active s all_open), plain_rank t, b.1)))

  pub slot_plain : (i : ℕ) → slot_at s all_open i ≡ s.first + (i + s.gap * (i / s.block))
  unfolding slot_at
  slot_plain i = ap (λ (x : ℕ). s.first + x) (sym (at_index i))

  -- the first slot is the one that the grant names
  pub first_plain : s.first ≡ slot_at s all_open 0
  first_plain = omega (arith, slot_plain 0, ap (λ (x : ℕ). s.gap * x) (zero-div s.block), mul-zero s.gap)
