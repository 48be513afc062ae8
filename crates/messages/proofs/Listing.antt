-- What 21 lets through: each number is one of a list, so what holds of a whole list holds of it.
use mathlib.Core.Bool.{Bool, true, false, not, ◌&&◌, ◌||◌}
use mathlib.Core.Path.{◌≡◌, refl, ap}
use Prim.Native.Nat.{ℕ, ◌*◌, ◌/◌, ◌%◌, ◌≤◌}
use native.Mathlib.Omega.{arith}
use lib.Dec.{eqb, leb}
use mir.Val.{bool_byte}
use borrow.Author.Tests.{eqb-true, leb-true}
use Rattle.counting.specs.Listed.{is_one_of}
use Rattle.counting.proofs.Facts.{both_parts}
use Rattle.counting.proofs.Listed.{all_pass, of_list}
use Rattle.messages.specs.declared.Schedule.{Schedule}
use Rattle.messages.specs.declared.Messages.{Messages}
use Rattle.messages.specs.Messages.{windows, periods, distances, sizes, window_frames, all_periods, is_listed, is_read, is_sound, are_listed}

-- ---- the window

abbrev good_window : ℕ → Bool
good_window w = (leb 160 w && leb w 1600) && (eqb (10 * (w / 10)) w && all_pass (λ e. eqb (w % (10 * e)) 0) distances)

pub record Window (w : ℕ) : Type 0 where
  pub from : 160 ≤ w
  pub to : w ≤ 1600
  pub frames : 10 * (w / 10) ≡ w
  pub copies : (e : ℕ) → is_one_of distances e ≡ true → w % (10 * e) ≡ 0

pub window : (w : ℕ) → is_one_of windows w ≡ true → Window w
window w h =
    let a = both_parts (leb 160 w && leb w 1600) (eqb (10 * (w / 10)) w && all_pass (λ e. eqb (w % (10 * e)) 0) distances) (of_list good_window windows refl w h) in
    let b = both_parts (leb 160 w) (leb w 1600) a.0 in
    let c = both_parts (eqb (10 * (w / 10)) w) (all_pass (λ e. eqb (w % (10 * e)) 0) distances) a.1 in
    record {
      from = leb-true 160 w b.0;
      to = leb-true w 1600 b.1;
      frames = eqb-true (10 * (w / 10)) w c.0;
      copies = λ e l. eqb-true (w % (10 * e)) 0 (of_list (λ e. eqb (w % (10 * e)) 0) distances c.1 e l);
    }

-- ---- a schedule

abbrev good_period : ℕ → Bool
good_period p = (leb 64 p && leb p 4096) && eqb (4096 / p * (10 * p)) all_periods

abbrev good_distance : ℕ → Bool
good_distance e = leb 2 e && leb e 16

abbrev good_size : ℕ → Bool
good_size n = leb 2 n && leb n 8

pub record Numbers (frames : ℕ) (s : Schedule) : Type 0 where
  pub period_from : 64 ≤ s.period
  pub period_to : s.period ≤ 4096
  pub periods_all : 4096 / s.period * (10 * s.period) ≡ all_periods
  pub every_from : 2 ≤ s.every
  pub every_to : s.every ≤ 16
  pub size_from : 2 ≤ s.size
  pub size_to : s.size ≤ 8
  pub in_periods : is_one_of periods s.period ≡ true
  pub in_distances : is_one_of distances s.every ≡ true
  pub window_to : frames ≤ s.period

pub numbers : (frames : ℕ) (s : Schedule) → is_listed frames s ≡ true → Numbers frames s
unfolding is_listed
numbers frames s h =
    let a = both_parts (is_one_of periods s.period && is_one_of distances s.every) (is_one_of sizes s.size && leb frames s.period) h in
    let t = both_parts (is_one_of periods s.period) (is_one_of distances s.every) a.0 in
    let z = both_parts (is_one_of sizes s.size) (leb frames s.period) a.1 in
    let p = both_parts (leb 64 s.period && leb s.period 4096) (eqb (4096 / s.period * (10 * s.period)) all_periods) (of_list good_period periods refl s.period t.0) in
    let q = both_parts (leb 64 s.period) (leb s.period 4096) p.0 in
    let d = both_parts (leb 2 s.every) (leb s.every 16) (of_list good_distance distances refl s.every t.1) in
    let n = both_parts (leb 2 s.size) (leb s.size 8) (of_list good_size sizes refl s.size z.0) in
    record {
      period_from = leb-true 64 s.period q.0;
      period_to = leb-true s.period 4096 q.1;
      periods_all = eqb-true (4096 / s.period * (10 * s.period)) all_periods p.1;
      every_from = leb-true 2 s.every d.0;
      every_to = leb-true s.every 16 d.1;
      size_from = leb-true 2 s.size n.0;
      size_to = leb-true s.size 8 n.1;
      in_periods = t.0;
      in_distances = t.1;
      window_to = leb-true frames s.period z.1;
    }

-- ---- all of them

read_listed : (read : Bool) (frames : ℕ) (s : Schedule) → (not read || is_listed frames s) ≡ true → read ≡ true → is_listed frames s ≡ true
read_listed true frames s h e = h
read_listed false frames s h e = absurd (omega (arith, ap bool_byte e))

pub record Listed (ms : Messages) : Type 0 where
  pub is_window : is_one_of windows ms.window ≡ true
  pub offset_to : ms.offset ≤ 15
  pub count_to : ms.count ≤ 4
  pub l1 : is_read ms 1 ≡ true → is_listed (window_frames ms) ms.s1 ≡ true
  pub l2 : is_read ms 2 ≡ true → is_listed (window_frames ms) ms.s2 ≡ true
  pub l3 : is_read ms 3 ≡ true → is_listed (window_frames ms) ms.s3 ≡ true
  pub l4 : is_read ms 4 ≡ true → is_listed (window_frames ms) ms.s4 ≡ true

module _ (ms : Messages) where
  pub listed : are_listed ms ≡ true → Listed ms
  unfolding are_listed
  listed h =
      let a = both_parts (is_one_of windows ms.window && (leb ms.offset 15 && leb ms.count 4))
      (is_sound ms 1 ms.s1 && is_sound ms 2 ms.s2 && (is_sound ms 3 ms.s3 && is_sound ms 4 ms.s4)) h in
      let own = both_parts (is_one_of windows ms.window) (leb ms.offset 15 && leb ms.count 4) a.0 in
      let rest = both_parts (leb ms.offset 15) (leb ms.count 4) own.1 in
      let four = both_parts (is_sound ms 1 ms.s1 && is_sound ms 2 ms.s2) (is_sound ms 3 ms.s3 && is_sound ms 4 ms.s4) a.1 in
      let front = both_parts (is_sound ms 1 ms.s1) (is_sound ms 2 ms.s2) four.0 in
      let back = both_parts (is_sound ms 3 ms.s3) (is_sound ms 4 ms.s4) four.1 in
      record {
        is_window = own.0;
        offset_to = leb-true ms.offset 15 rest.0;
        count_to = leb-true ms.count 4 rest.1;
        l1 = read_listed (is_read ms 1) (window_frames ms) ms.s1 front.0;
        l2 = read_listed (is_read ms 2) (window_frames ms) ms.s2 front.1;
        l3 = read_listed (is_read ms 3) (window_frames ms) ms.s3 back.0;
        l4 = read_listed (is_read ms 4) (window_frames ms) ms.s4 back.1;
      }
