-- Listed numbers: tests by lists, and what holds of every number of a list.
use mathlib.Core.Bool.{Bool, true, false, not, ◌&&◌, ◌||◌}
use mathlib.Core.List.{List, [], ◌∷◌, ◌++◌}
use mathlib.Core.Path.{◌≡◌, refl, sym, ap, ap₂, ◌∙◌}
use mathlib.Core.Logic.{◌⊎◌, ⊎_elim}
use Prim.Native.Nat.{ℕ, ◌+◌, ◌*◌, ◌/◌, ◌%◌, ◌≤◌, ◌<◌}
use native.Mathlib.Nat.{mul_assoc, mul-mod_left, div-add-mod', le_of_mul-le-mul_right}
use native.Mathlib.Omega.{arith}
use lib.Dec.{eqb, leb}
use mir.Val.{bool_byte}
use borrow.Author.Tests.{eq-eqb, eqb-true, leb-true, le-leb, lt-leb}
use Rattle.counting.proofs.Facts.{order, both_parts, either_case}
pub use Rattle.counting.proofs.Listed.{all_pass, of_list}
use Rattle.nprach.specs.declared.Window.{Window}
use Rattle.nprach.specs.declared.Windows.{Windows}
use Rattle.nprach.specs.Quick.{doubles, scaled, steps}
use Rattle.grid.specs.Grid.{uplink_subcarriers}
use Rattle.nprach.specs.Windows.{is_one_of, periods, starts, repetitions, lengths, window_tones, is_listed, is_read, are_listed}

or_assoc : (a b c : Bool) → (a || b || c) ≡ (a || (b || c))
or_assoc true b c = refl
or_assoc false b c = refl

append : (x : ℕ) (front back : List ℕ) → (is_one_of front x || is_one_of back x) ≡ is_one_of (front ++ back) x
append x [] back = refl
append x (n ∷ front) back = or_assoc (eqb x n) (is_one_of front x) (is_one_of back x) ∙ ap (λ (b : Bool). eqb x n || b) (append x front back)

pub either_length : (x : ℕ) → (is_one_of (repetitions 172032) x || is_one_of (repetitions 196608) x) ≡ is_one_of lengths x
either_length x = append x (repetitions 172032) (repetitions 196608)

pub tone_fits : (t : ℕ) → leb t 36 ≡ leb (t + window_tones) (uplink_subcarriers 0)
tone_fits t =
    ⊎_elim (λ h. lt-leb t 36 h ∙ sym (lt-leb (t + window_tones) (uplink_subcarriers 0) (omega arith)))
    (λ h. le-leb t 36 h ∙ sym (le-leb (t + window_tones) (uplink_subcarriers 0) (omega arith))) (order 36 t)

-- ---- the periods in parts of 8 ms, and in groups: each divides the later ones

-- a step is one of the doubles in parts
pub step_of : (part : ℕ) (list : List ℕ) (p : ℕ) → is_one_of (scaled part list) p ≡ true → (n : ℕ) × (is_one_of list n ≡ true) × (p ≡ n * part)
step_of part [] p h = absurd (omega (arith, ap bool_byte h))
step_of part (n ∷ list) p h =
    ⊎_elim
    (λ (w : eqb p (n * part) ≡ true). (n, ap (λ (b : Bool). b || is_one_of list n) (eq-eqb n n refl), eqb-true p (n * part) w))
    (λ (w : is_one_of (scaled part list) p ≡ true). let r = step_of part list p w in (r.0, ap (λ (b : Bool). eqb r.0 n || b) r.1 ∙ or_true (eqb r.0 n), r.2))
    (either_case (eqb p (n * part)) (is_one_of (scaled part list) p) h)
  where
    or_true : (b : Bool) → (b || true) ≡ true
    or_true true = refl
    or_true false = refl

abbrev divides : ℕ → ℕ → Bool
divides p q = not (leb p q) || eqb (q % p) 0

double_divides : (p q : ℕ) → is_one_of doubles p ≡ true → is_one_of doubles q ≡ true → p ≤ q → q % p ≡ 0
double_divides p q hp hq h =
    let a = of_list (λ x. all_pass (divides x) doubles) doubles refl p hp in
    let b = of_list (divides p) doubles a q hq in
    eqb-true (q % p) 0 (sym (ap (λ (t : Bool). not t || eqb (q % p) 0) (le-leb p q h)) ∙ b)

pub step_divides : (part : ℕ) → 0 < part → (p q : ℕ) → is_one_of (steps part) p ≡ true → is_one_of (steps part) q ≡ true → p ≤ q → q % p ≡ 0
step_divides part some p q hp hq h =
    let a = step_of part doubles p hp in
    let b = step_of part doubles q hq in
    let l : a.0 ≤ b.0 = le_of_mul-le-mul_right {k = part} (omega (arith, a.2, b.2)) some in
    let d : b.0 ≡ b.0 / a.0 * a.0 = omega (arith, double_divides a.0 b.0 a.1 b.1 l, div-add-mod' b.0 a.0) in
    ap₂ ◌%◌ (b.2 ∙ ap (λ (x : ℕ). x * part) d ∙ mul_assoc (b.0 / a.0) a.0 part) a.2 ∙ mul-mod_left (b.0 / a.0) (a.0 * part)

-- 2,560 ms are whole periods
abbrev whole_in : ℕ → ℕ → Bool
whole_in all p = eqb (all % p) 0 && leb p all

pub whole_periods : (ms p : ℕ) → (ms ≡ 1) ⊎ (ms ≡ 2) → is_one_of (steps (8 / ms)) p ≡ true → (2560 / ms % p ≡ 0) × (p ≤ 2560 / ms)
whole_periods ms p h l = ⊎_elim (λ e. one e l) (λ e. two e l) h
  where
    parts : (all : ℕ) → whole_in all p ≡ true → (all % p ≡ 0) × (p ≤ all)
    parts all h = let b = both_parts (eqb (all % p) 0) (leb p all) h in (eqb-true (all % p) 0 b.0, leb-true p all b.1)

    one : ms ≡ 1 → is_one_of (steps (8 / ms)) p ≡ true → (2560 / ms % p ≡ 0) × (p ≤ 2560 / ms)
    one e l = rw e (parts (2560 / 1) (of_list (whole_in (2560 / 1)) (steps (8 / 1)) refl p (rw e at l)))

    two : ms ≡ 2 → is_one_of (steps (8 / ms)) p ≡ true → (2560 / ms % p ≡ 0) × (p ≤ 2560 / ms)
    two e l = rw e (parts (2560 / 2) (of_list (whole_in (2560 / 2)) (steps (8 / 2)) refl p (rw e at l)))

pub period_step : (p : ℕ) → is_one_of periods p ≡ true → (is_one_of (steps 8) (p / 1) ≡ true) × (is_one_of (steps 4) (p / 2) ≡ true)
period_step p h = (of_list (λ x. is_one_of (steps 8) (x / 1)) periods refl p h, of_list (λ x. is_one_of (steps 4) (x / 2)) periods refl p h)

-- ---- a window that is listed

abbrev good_period : ℕ → Bool
good_period p = (eqb (p % 2) 0 && leb 40 p) && (leb p 2560 && (eqb (2560 % p) 0 && eqb (1280 % (p / 2)) 0))

abbrev good_start : ℕ → Bool
good_start s = eqb (s % 2) 0 && leb s 1024

abbrev good_length : ℕ → Bool
good_length n = leb n 12582912

pub record Numbers (w : Window) : Type 0 where
  pub even_period : w.period % 2 ≡ 0
  pub period_from : 40 ≤ w.period
  pub period_to : w.period ≤ 2560
  pub period_all : 2560 % w.period ≡ 0
  pub period_half : 1280 % (w.period / 2) ≡ 0
  pub even_start : w.start % 2 ≡ 0
  pub start_to : w.start ≤ 1024
  pub length_to : w.length ≤ 12582912
  pub tone_to : w.tone ≤ 36
  pub whole : is_one_of (steps 8) (w.period / 1) ≡ true
  pub half : is_one_of (steps 4) (w.period / 2) ≡ true

pub numbers : (w : Window) → is_listed w ≡ true → Numbers w
unfolding is_listed
numbers w h =
    let a = both_parts (is_one_of periods w.period && is_one_of starts w.start) (is_one_of lengths w.length && leb (w.tone + window_tones) (uplink_subcarriers 0)) h in
    let t = both_parts (is_one_of periods w.period) (is_one_of starts w.start) a.0 in
    let l = both_parts (is_one_of lengths w.length) (leb (w.tone + window_tones) (uplink_subcarriers 0)) a.1 in
    let p = both_parts (eqb (w.period % 2) 0 && leb 40 w.period) (leb w.period 2560 && (eqb (2560 % w.period) 0 && eqb (1280 % (w.period / 2)) 0))
    (of_list good_period periods refl w.period t.0) in
    let p0 = both_parts (eqb (w.period % 2) 0) (leb 40 w.period) p.0 in
    let p1 = both_parts (leb w.period 2560) (eqb (2560 % w.period) 0 && eqb (1280 % (w.period / 2)) 0) p.1 in
    let p2 = both_parts (eqb (2560 % w.period) 0) (eqb (1280 % (w.period / 2)) 0) p1.1 in
    let s = both_parts (eqb (w.start % 2) 0) (leb w.start 1024) (of_list good_start starts refl w.start t.1) in
    record {
      even_period = eqb-true (w.period % 2) 0 p0.0;
      period_from = leb-true 40 w.period p0.1;
      period_to = leb-true w.period 2560 p1.0;
      period_all = eqb-true (2560 % w.period) 0 p2.0;
      period_half = eqb-true (1280 % (w.period / 2)) 0 p2.1;
      even_start = eqb-true (w.start % 2) 0 s.0;
      start_to = leb-true w.start 1024 s.1;
      length_to = leb-true w.length 12582912 (of_list good_length lengths refl w.length l.0);
      tone_to = omega (arith, leb-true (w.tone + window_tones) (uplink_subcarriers 0) l.1);
      whole = (period_step w.period t.0).0;
      half = (period_step w.period t.0).1;
    }

-- ---- windows that are read are listed

read_listed : (read : Bool) (w : Window) → (not read || is_listed w) ≡ true → read ≡ true → is_listed w ≡ true
read_listed true w h e = h
read_listed false w h e = absurd (omega (arith, ap bool_byte e))

module _ (ws : Windows) (h : are_listed ws ≡ true) where
  abbrev sound : ℕ → Window → Bool
  sound j w = not (is_read ws j) || is_listed w

  four : ((sound 1 ws.w1 && sound 2 ws.w2) ≡ true) × ((sound 3 ws.w3 && sound 4 ws.w4) ≡ true)
  unfolding are_listed
  four =
      both_parts (sound 1 ws.w1 && sound 2 ws.w2) (sound 3 ws.w3 && sound 4 ws.w4)
      (both_parts (leb ws.count 4) (sound 1 ws.w1 && sound 2 ws.w2 && (sound 3 ws.w3 && sound 4 ws.w4)) h).1

  front : (sound 1 ws.w1 ≡ true) × (sound 2 ws.w2 ≡ true)
  front = both_parts (sound 1 ws.w1) (sound 2 ws.w2) four.0

  back : (sound 3 ws.w3 ≡ true) × (sound 4 ws.w4 ≡ true)
  back = both_parts (sound 3 ws.w3) (sound 4 ws.w4) four.1

  pub listed_1 : is_read ws 1 ≡ true → is_listed ws.w1 ≡ true
  listed_1 e = read_listed (is_read ws 1) ws.w1 front.0 e

  pub listed_2 : is_read ws 2 ≡ true → is_listed ws.w2 ≡ true
  listed_2 e = read_listed (is_read ws 2) ws.w2 front.1 e

  pub listed_3 : is_read ws 3 ≡ true → is_listed ws.w3 ≡ true
  listed_3 e = read_listed (is_read ws 3) ws.w3 back.0 e

  pub listed_4 : is_read ws 4 ≡ true → is_listed ws.w4 ≡ true
  listed_4 e = read_listed (is_read ws 4) ws.w4 back.1 e
