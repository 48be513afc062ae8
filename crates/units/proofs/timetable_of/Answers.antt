use Rattle.std.specs.Prelude.{[], ◌∷◌}
use mathlib.Core.Bool.{Bool, true}
use mathlib.Core.Path.{◌≡◌, sym, ap, ap₂, subst, ◌∙◌}
use Prim.Native.Nat.{ℕ, ◌-◌, ◌*◌, ◌/◌, ◌^◌, ◌≤◌}
use native.Mathlib.Omega.{arith}
use lib.Pow.{pow_mono, shr_le}
use Rattle.messages.specs.declared.Messages.{Messages}
use Rattle.messages.specs.declared.Schedule.{Schedule}
use Rattle.units.specs.declared.Logs.{Logs}
use Rattle.units.specs.declared.Lane.{Lane}
use Rattle.units.specs.declared.Timetable.{Timetable}
use Rattle.messages.specs.Messages.{window_frames, is_read}
use Rattle.units.specs.Quick.{shortest_of, longest_of, InUnits, lane_of, timetable_of, Sized}
use Rattle.messages.proofs.Listing.{window, listed}
use Rattle.units.proofs.Timetables.{Entry, shortest_to, longest_from, longest_to, in_units_lem, entry_1, entry_2, entry_3, entry_4, sized}
use Rattle.units.proofs.timetable_of.Goals.{After-power_of_two, After-logs_of-logs, After-lane_of-4}
use Rattle.units.proofs.timetable_of.Goals as goal

-- the shortest distance, and the window in units
module _ (c : After-power_of_two) where
  abbrev ms : Messages
  ms = c.args.ms

  abbrev k : ℕ
  k = c.logs_of-logs.result.shortest

  k_is : k ≡ shortest_of ms
  k_is = ap (λ (l : Logs). l.shortest) c.logs_of-logs.ensures

  k_small : k ≤ 4
  k_small = omega (arith, k_is, shortest_to ms c.requires)

  power_is : c.power_of_two.result ≡ 2 ^ shortest_of ms
  power_is = c.power_of_two.ensures ∙ ap (λ (n : ℕ). 2 ^ n) k_is

  abbrev w : ℕ
  w = window_frames ms / c.power_of_two.result

  window_is : w ≡ window_frames ms / 2 ^ shortest_of ms
  window_is = ap (λ (x : ℕ). window_frames ms / x) power_is

  window_small : w ≤ 160
  window_small =
      omega (arith, window_is, shr_le (window_frames ms) (shortest_of ms), (window ms.window (listed ms c.requires).is_window).to)

  ready : (read : Bool) (s : Schedule) (before : ℕ) → before ≤ 3 → (read ≡ true → Entry ms s (shortest_of ms)) → (before ≤ 3) × (w ≤ 160) × (k ≤ 4) × (read ≡ true → InUnits s k)
  ready read s before h e = (h, window_small, k_small, λ r. subst (InUnits s) (sym k_is) (in_units_lem ms s (shortest_of ms) (e r)))

  lane_is : (l : Lane) (read : Bool) (s : Schedule) (before : ℕ) → l ≡ lane_of read s before w k → l ≡ lane_of read s before (window_frames ms / 2 ^ shortest_of ms) (shortest_of ms)
  lane_is l read s before e = e ∙ ap₂ (lane_of read s before) window_is k_is

longest_is : (c : After-logs_of-logs) → c.logs_of-logs.result.longest ≡ longest_of c.args.ms
longest_is c = ap (λ (l : Logs). l.longest) c.logs_of-logs.ensures

units_small_lem : (c : After-power_of_two) → (k c ≤ c.logs_of-logs.result.longest) × (c.logs_of-logs.result.longest ≤ 12)
units_small_lem c =
    let o = c in
    let s = o in (
      omega (arith, k_is c, longest_is o.before.before, shortest_to s.args.ms s.requires, longest_from s.args.ms s.requires),
      omega (arith, longest_is o.before.before, longest_to s.args.ms s.requires),
    )

made : (c : After-lane_of-4) → ◌≡◌ {A = Timetable} (record {
  first = 10 * c.args.ms.offset;
  unit = 10 * c.power_of_two-2.result;
  units = c.power_of_two-3.result;
  lanes = c.lane_of.result ∷ c.lane_of-2.result ∷ c.lane_of-3.result ∷ c.lane_of-4.result ∷ [];
}) (timetable_of c.args.ms)
unfolding timetable_of
made c =
    let l3 = c in
    let l2 = l3 in
    let l1 = l2 in
    let u = l1 in
    let g = u in
    let d = g in
    let p = d in
    let m = ms p.before.before.before.before.before.before.before.before.before.before.before.before in
    λ i. record {
      first = 10 * m.offset;
      unit = 10 * (d.power_of_two-2.ensures ∙ ap (λ (n : ℕ). 2 ^ n) (k_is p.before.before.before.before.before.before.before.before.before.before.before.before)) i;
      units = (u.power_of_two-3.ensures ∙ ap₂ (λ (a b : ℕ). 2 ^ (a - b)) (longest_is p.before.before.before.before.before.before.before.before.before.before.before.before.before.before) (k_is p.before.before.before.before.before.before.before.before.before.before.before.before)) i;
      lanes =
          lane_is p.before.before.before.before.before.before.before.before.before.before.before.before _ (is_read m 1) m.s1 0 l1.lane_of.ensures i
          ∷ lane_is p.before.before.before.before.before.before.before.before.before.before.before.before _ (is_read m 2) m.s2 1 l2.lane_of-2.ensures i
          ∷ lane_is p.before.before.before.before.before.before.before.before.before.before.before.before _ (is_read m 3) m.s3 2 l3.lane_of-3.ensures i
          ∷ lane_is p.before.before.before.before.before.before.before.before.before.before.before.before _ (is_read m 4) m.s4 3 c.lane_of-4.ensures i ∷ [];
    }

pub returns : goal.returns
returns c =
    let s = c in
    (made c, subst Sized (sym (made c)) (sized s.args.ms s.requires))

pub power_of_two-requires : goal.power_of_two-requires
power_of_two-requires c = let o = c in omega (arith, ap (λ (l : Logs). l.shortest) o.logs_of-logs.ensures, shortest_to o.args.ms o.requires)

pub overflow_mul-result : goal.overflow_mul-result
overflow_mul-result c = let s = c in omega (arith, (listed s.args.ms s.requires).offset_to)

pub power_of_two-requires-2 : goal.power_of_two-requires-2
power_of_two-requires-2 c = omega (arith, k_small c.before)

pub overflow_mul-result-2 : goal.overflow_mul-result-2
overflow_mul-result-2 c = let p = c in omega (arith, c.power_of_two-2.ensures, pow_mono {i = k p.before.before} {j = 4} (k_small p.before.before))

pub overflow_sub-logs : goal.overflow_sub-logs
overflow_sub-logs c = (units_small_lem c.before.before.before).0

pub power_of_two-requires-3 : goal.power_of_two-requires-3
power_of_two-requires-3 c = omega (arith, (units_small_lem c.before.before.before).1)

pub lane_of-requires : goal.lane_of-requires
lane_of-requires c = let p = c in ready p.before.before.before.before.before (is_read (ms p.before.before.before.before.before) 1) (ms p.before.before.before.before.before).s1 0 (omega arith) (entry_1 (ms p.before.before.before.before.before) p.requires)

pub lane_of-requires-2 : goal.lane_of-requires-2
lane_of-requires-2 c = let p = c in ready p.before.before.before.before.before.before.before (is_read (ms p.before.before.before.before.before.before.before) 2) (ms p.before.before.before.before.before.before.before).s2 1 (omega arith) (entry_2 (ms p.before.before.before.before.before.before.before) p.requires)

pub lane_of-requires-3 : goal.lane_of-requires-3
lane_of-requires-3 c = let p = c in ready p.before.before.before.before.before.before.before.before.before (is_read (ms p.before.before.before.before.before.before.before.before.before) 3) (ms p.before.before.before.before.before.before.before.before.before).s3 2 (omega arith) (entry_3 (ms p.before.before.before.before.before.before.before.before.before) p.requires)

pub lane_of-requires-4 : goal.lane_of-requires-4
lane_of-requires-4 c = let p = c in ready p.before.before.before.before.before.before.before.before.before.before.before (is_read (ms p.before.before.before.before.before.before.before.before.before.before.before) 4) (ms p.before.before.before.before.before.before.before.before.before.before.before).s4 3 (omega arith) (entry_4 (ms p.before.before.before.before.before.before.before.before.before.before.before) p.requires)
