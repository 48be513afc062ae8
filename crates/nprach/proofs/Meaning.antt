-- A group overlaps a listed window exactly if some window meets it in time.
use mathlib.Core.Bool.{true}
use mathlib.Core.Path.{◌≡◌, sym, ap, ◌∙◌}
use mathlib.Core.Logic.{⊎_elim}
use Prim.Native.Nat.{ℕ, ◌+◌, ◌-◌, ◌*◌, ◌/◌, ◌%◌, ◌≤◌, ◌<◌}
use native.Mathlib.Nat.{div-add-mod', add-mul, mul-div_cancel, mul-le-mul_right, add-mul-mod_self_right}
use native.Mathlib.Omega.{arith}
use borrow.Author.Tests.{lt-ltb, ltb-true}
use Rattle.counting.proofs.Facts.{order, div_mono}
use Rattle.nprach.specs.declared.Window.{Window}
use Rattle.nprach.specs.Windows.{units_of_ms, all_periods, is_listed, since_begin, overlaps}
use Rattle.nprach.specs.Scaffold.{reach}
use Rattle.nprach.specs.Meaning.{Meeting}
use Rattle.nprach.proofs.Listing.{numbers}

module _ (ms : ℕ) (w : Window) (u : ℕ) (l : is_listed w ≡ true) where
  -- from the start on to the last ms of the group: whole periods, and the rest
  abbrev long : ℕ
  long = ms * u + ms + all_periods - 1 - w.start

  abbrev whole : ℕ
  whole = long / w.period * w.period

  parts : whole + long % w.period ≡ long
  parts = div-add-mod' long w.period

  pub overlap_meets : overlaps ms w u ≡ true → Meeting ms w u
  unfolding overlaps
  overlap_meets h = record {
    at = w.start + whole;
    begins = add-mul-mod_self_right w.start (long / w.period) w.period;
    before = omega (arith, parts, (numbers w l).start_to);
    past = omega (arith, parts, (numbers w l).start_to, ltb-true (units_of_ms * since_begin w (ms * u + ms)) (reach ms w) h);
  }

  -- no window begins later before the group's end
  latest : (m : Meeting ms w u) → m.at ≤ w.start + whole
  latest m = ⊎_elim later (λ h. omega (arith, at, start, mul-le-mul_right w.period h, m.begins)) (order b a)
    where
      a : ℕ
      a = m.at / w.period

      b : ℕ
      b = w.start / w.period

      at : a * w.period + m.at % w.period ≡ m.at
      at = div-add-mod' m.at w.period

      start : b * w.period + w.start % w.period ≡ w.start
      start = div-add-mod' w.start w.period

      later : b < a → m.at ≤ w.start + whole
      later h =
          let c : b + (a - b) ≡ a = omega arith in
          let d : b * w.period + (a - b) * w.period ≡ a * w.period = sym (add-mul b (a - b) w.period) ∙ ap (λ (x : ℕ). x * w.period) c in
          let some : 0 < w.period = omega (arith, (numbers w l).period_from) in
          let k : (a - b) * w.period ≤ long = omega (arith, d, at, start, m.begins, m.before, (numbers w l).start_to) in
          let q : a - b ≤ long / w.period = omega (arith, div_mono ((a - b) * w.period) long w.period some k, mul-div_cancel (a - b) some) in
          omega (arith, d, at, start, m.begins, mul-le-mul_right w.period q)

  pub meets_overlap : Meeting ms w u → overlaps ms w u ≡ true
  unfolding overlaps
  meets_overlap m =
      lt-ltb (units_of_ms * since_begin w (ms * u + ms)) (reach ms w)
      (omega (arith, latest m, m.past, parts, (numbers w l).start_to))
