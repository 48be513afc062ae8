-- A regular pattern: how many subframes it allows before any span, and that it repeats.
use mathlib.Core.Bool.{Bool, true, false, cond, ◌&&◌, ◌||◌}
use mathlib.Core.Path.{◌≡◌, refl, sym, ap, ap₂, ◌∙◌, subst}
use mathlib.Core.Logic.{◌⊎◌, inl, inr, ⊎_elim}
use Prim.Native.Nat.{ℕ, zero, suc, ◌+◌, ◌-◌, ◌*◌, ◌/◌, ◌%◌, ◌^◌, ◌≤◌, ◌<◌}
use native.Mathlib.Nat.{add-mod_right, add_comm, mod-eq_of_lt, mod-lt, add-mul, zero-mul, mul-zero, mul-le-mul, pow-succ', div-add-mod', div-lt_iff_lt-mul}
use native.Mathlib.Omega.{arith}
use Rattle.std.proofs.Common.{min}
use lib.Count.{ones, ones_step}
use lib.Dec.{eqb}
use lib.Pow.{pow_mono}
use mir.Val.{bool_byte}
use borrow.Author.Tests.{eq-eqb, ne_eqb}
use Rattle.counting.specs.Counting.{rank, select, in_range}
use Rattle.counting.specs.Bits.{bit_at}
use Rattle.counting.specs.Scaffold.{NthOne}
use Rattle.counting.proofs.Facts.{order}
use Rattle.counting.proofs.Rank.{rank_zero, rank_suc, rank_le, rank_same}
use Rattle.counting.proofs.Range.{in_range_lem, below_range, above_range, rank_before, rank_inside, rank_after}
use Rattle.counting.proofs.Ones.{span_top, span_all, ones_above, one_below}
use Rattle.counting.proofs.Select.{nth_of}
use Rattle.counting.proofs.Period.{rank_split, rank_periods, repeats_times, is_select}
use Rattle.spans.specs.declared.Pattern.{Pattern}
use Rattle.spans.specs.Pattern.{span, spans_of, mask_bit, with_sib1, mask_at, allows, period_of, Regular, Landed, Picked}

-- ---- a number has no ones only if it is 0

pub ones_none : ones 0 ≡ 0
unfolding ones
ones_none = refl

pub ones_some : (k m : ℕ) → m < 2 ^ k → 0 < m → 0 < ones m
ones_some zero m h l = absurd (omega arith)
ones_some (suc k) m h l =
    ⊎_elim (λ e. omega (arith, ones_step m, ones_some k (m / 2) (omega (arith, pow-succ' 2 k)) e)) (λ e. omega (arith, ones_step m)) (order 0 (m / 2))

-- bit i of a span's mask is its subframe i
pub mask_bits : (p : Pattern) (s i : ℕ) → i < span → mask_bit (mask_at p s) i ≡ allows p (span * s + i)
unfolding allows
mask_bits p s i h =
    let q : (span * s + i) / span ≡ s = omega arith in
    let r : (span * s + i) % span ≡ i = omega arith in
    rw (q, r) refl

module _ (p : Pattern) (ok : Regular p) where
  pub some_spans : 0 < spans_of p
  some_spans = omega (arith, ok.fits)

  at_most : (n : ℕ) → p.log ≤ n → spans_of p ≤ 2 ^ n
  at_most n h = pow_mono {i = p.log} {j = n} h

  at_least : (n : ℕ) → n ≤ p.log → 2 ^ n ≤ spans_of p
  at_least n h = pow_mono {i = n} {j = p.log} h

  pub few_spans : spans_of p ≤ 16
  few_spans = at_most 4 ok.few

  -- ---- spans with SIB1

  in_first_period : (x : ℕ) → x ≤ spans_of p → rank (with_sib1 p) x ≡ rank (in_range p.first 4) x
  in_first_period x h = rank_same (with_sib1 p) (in_range p.first 4) x (λ i l. ap (in_range p.first 4) (mod-eq_of_lt {n = i} {m = spans_of p} (omega arith)))

  four_a_period : rank (with_sib1 p) (spans_of p) ≡ 4
  four_a_period =
      let e : p.first + 4 + (spans_of p - (p.first + 4)) ≡ spans_of p = omega (arith, ok.fits) in
      in_first_period (spans_of p) (omega arith) ∙ ap (rank (in_range p.first 4)) (sym e) ∙ rank_after p.first 4 (spans_of p - (p.first + 4))

  pub sib1_split : (s : ℕ) → rank (with_sib1 p) s ≡ s / spans_of p * 4 + rank (in_range p.first 4) (s % spans_of p)
  sib1_split s =
      rank_split (with_sib1 p) (spans_of p) (λ t. ap (in_range p.first 4) (add-mod_right t (spans_of p))) s
      ∙ ap₂ (λ (x y : ℕ). s / spans_of p * x + y) four_a_period (in_first_period (s % spans_of p) (omega (arith, mod-lt s some_spans)))

  pub sib1_le : (s : ℕ) → rank (with_sib1 p) s ≤ s
  sib1_le s = rank_le (with_sib1 p) s

  -- ---- a span on

  mask_small : (b : Bool) → cond b p.sib1 p.usual < 2 ^ 40
  mask_small true = ok.sib1_small
  mask_small false = ok.usual_small

  mask_ones : (b : Bool) → ones (cond b p.sib1 p.usual) ≡ bool_byte b * ones p.sib1 + (1 - bool_byte b) * ones p.usual
  mask_ones true = omega arith
  mask_ones false = omega arith

  pub span_on : (s : ℕ) → rank (allows p) (span * s) + ones (mask_at p s) ≡ rank (allows p) (span * suc s)
  span_on s =
      let e : span * s + span ≡ span * suc s = omega arith in
      span_all (allows p) (mask_at p s) (span * s) span (mask_small (with_sib1 p s)) (mask_bits p s) ∙ ap (rank (allows p)) e

  pub span_front : (s i : ℕ) → i ≤ span → rank (allows p) (span * s) + ones (mask_at p s / 2 ^ (40 - i)) ≡ rank (allows p) (span * s + i)
  span_front s i h = span_top (allows p) (mask_at p s) (span * s) span (mask_small (with_sib1 p s)) (mask_bits p s) i h

  step : (b : Bool) (h s r x y : ℕ) → h ≤ s → r ≡ h * x + (s - h) * y
      → r + (bool_byte b * x + (1 - bool_byte b) * y) ≡ (h + bool_byte b) * x + (suc s - (h + bool_byte b)) * y
  step true h s r x y l e =
      let a : suc s - (h + 1) ≡ s - h = omega arith in
      rw a (omega (arith, add-mul h 1 x))
  step false h s r x y l e =
      let a : suc s - (h + 0) ≡ (s - h) + 1 = omega arith in
      rw a (omega (arith, add-mul (s - h) 1 y, add-mul h 0 x))

  -- so many before span s, by the spans with SIB1 and those without
  pub spans_rank : (s : ℕ) → rank (allows p) (span * s) ≡ rank (with_sib1 p) s * ones p.sib1 + (s - rank (with_sib1 p) s) * ones p.usual
  spans_rank zero = omega (arith, rank_zero (allows p), rank_zero (with_sib1 p), ap (λ (h : ℕ). h * ones p.sib1) (rank_zero (with_sib1 p)), zero-mul (ones p.sib1), ap (λ (h : ℕ). (0 - h) * ones p.usual) (rank_zero (with_sib1 p)), zero-mul (ones p.usual))
  spans_rank (suc s) =
      sym (span_on s) ∙ ap (λ (x : ℕ). rank (allows p) (span * s) + x) (mask_ones (with_sib1 p s))
      ∙ step (with_sib1 p s) (rank (with_sib1 p) s) s (rank (allows p) (span * s)) (ones p.sib1) (ones p.usual) (sib1_le s) (spans_rank s)
      ∙ ap (λ (h : ℕ). h * ones p.sib1 + (suc s - h) * ones p.usual) (sym (rank_suc (with_sib1 p) s))

  -- ---- the period

  pub repeats : (t : ℕ) → allows p (t + period_of p) ≡ allows p t
  unfolding allows
  repeats t =
      let q : (t + span * spans_of p) / span ≡ t / span + spans_of p = omega arith in
      let r : (t + span * spans_of p) % span ≡ t % span = omega arith in
      rw (q, r, add-mod_right (t / span) (spans_of p)) refl

  pub some_of_period : rank (allows p) (period_of p) ≡ 4 * ones p.sib1 + (spans_of p - 4) * ones p.usual
  some_of_period = spans_rank (spans_of p) ∙ ap (λ (h : ℕ). h * ones p.sib1 + (spans_of p - h) * ones p.usual) four_a_period

  pub few_of_period : rank (allows p) (period_of p) ≤ 640
  few_of_period = omega (arith, rank_le (allows p) (period_of p), few_spans)

  -- ---- spans with SIB1 before span s: none, some, or all four of its period

  module _ (s : ℕ) where
    sib1_early : s % spans_of p ≤ p.first → s / spans_of p * 4 ≡ rank (with_sib1 p) s
    sib1_early h = omega (arith, sib1_split s, rank_before p.first 4 (s % spans_of p) h)

    sib1_among : p.first < s % spans_of p → s % spans_of p < p.first + 4
        → s / spans_of p * 4 + (s % spans_of p - p.first) ≡ rank (with_sib1 p) s
    sib1_among h k =
        let e : p.first + (s % spans_of p - p.first) ≡ s % spans_of p = omega arith in
        omega (arith, sib1_split s, rank_inside p.first 4 (s % spans_of p - p.first) (omega arith), ap (rank (in_range p.first 4)) e)

    sib1_late : p.first + 4 ≤ s % spans_of p → s / spans_of p * 4 + 4 ≡ rank (with_sib1 p) s
    sib1_late h =
        let e : p.first + 4 + (s % spans_of p - (p.first + 4)) ≡ s % spans_of p = omega arith in
        omega (arith, sib1_split s, rank_after p.first 4 (s % spans_of p - (p.first + 4)), ap (rank (in_range p.first 4)) e)

    pub sib1_clamped : s / spans_of p * 4 + min (s % spans_of p - p.first) 4 ≡ rank (with_sib1 p) s
    sib1_clamped =
        ⊎_elim
        (λ h. ⊎_elim (λ l. omega (arith, sib1_among h l)) (λ l. omega (arith, sib1_late l)) (order (s % spans_of p) (p.first + 4)))
        (λ h. omega (arith, sib1_early h))
        (order p.first (s % spans_of p))

  -- ---- the three stretches of a period: before the spans with SIB1, those, and after them

  first_period : (s : ℕ) → s < spans_of p → with_sib1 p s ≡ in_range p.first 4 s
  first_period s h = ap (in_range p.first 4) (mod-eq_of_lt {n = s} {m = spans_of p} h)

  mask_plain : (s : ℕ) → with_sib1 p s ≡ false → mask_at p s ≡ p.usual
  mask_plain s e = ap (λ (b : Bool). cond b p.sib1 p.usual) e

  mask_sib1 : (s : ℕ) → with_sib1 p s ≡ true → mask_at p s ≡ p.sib1
  mask_sib1 s e = ap (λ (b : Bool). cond b p.sib1 p.usual) e

  -- so many before span s, where h of the spans before it have SIB1
  with_sib1_lem : (s h : ℕ) → s ≤ spans_of p → rank (in_range p.first 4) s ≡ h
      → rank (allows p) (span * s) ≡ h * ones p.sib1 + (s - h) * ones p.usual
  with_sib1_lem s h l e = spans_rank s ∙ ap (λ (x : ℕ). x * ones p.sib1 + (s - x) * ones p.usual) (in_first_period s l ∙ e)

  -- the j-th of a stretch from span s on lies in its span j / n, n the ones of its mask
  pub record Stretch (mask s j target : ℕ) : Type 0 where
    pub some : 0 < ones mask
    pub inside : s + j / ones mask < spans_of p
    pub its : mask_at p (s + j / ones mask) ≡ mask
    pub sum : rank (allows p) (span * (s + j / ones mask)) + j % ones mask ≡ target

  positive : (a n k : ℕ) → k < a * n → 0 < n
  positive a zero k h = absurd (omega (arith, mul-zero a))
  positive a (suc n) k h = omega arith

  pub in_lead : (k : ℕ) → k < p.first * ones p.usual → Stretch p.usual 0 k k
  in_lead k h =
      let n : ℕ = ones p.usual in
      let pos : 0 < n = positive p.first n k h in
      let q : k / n < p.first = (div-lt_iff_lt-mul pos).1 h in
      let l : 0 + k / n < spans_of p = omega (arith, ok.fits) in
      let e : 0 + k / n - 0 ≡ k / n = omega arith in
      record {
        some = pos;
        inside = l;
        its = mask_plain (0 + k / n) (first_period (0 + k / n) l ∙ below_range p.first 4 (0 + k / n) (omega arith));
        sum = omega (
          arith,
          with_sib1_lem (0 + k / n) 0 (omega arith) (rank_before p.first 4 (0 + k / n) (omega arith)),
          zero-mul (ones p.sib1),
          ap (λ (x : ℕ). x * n) e,
          div-add-mod' k n,
        );
      }

  pub in_sib1 : (j : ℕ) → j < 4 * ones p.sib1 → Stretch p.sib1 p.first j (p.first * ones p.usual + j)
  in_sib1 j h =
      let n : ℕ = ones p.sib1 in
      let pos : 0 < n = positive 4 n j h in
      let q : j / n < 4 = (div-lt_iff_lt-mul pos).1 h in
      let l : p.first + j / n < spans_of p = omega (arith, ok.fits) in
      let e : p.first + j / n - j / n ≡ p.first = omega arith in
      record {
        some = pos;
        inside = l;
        its = mask_sib1 (p.first + j / n) (first_period (p.first + j / n) l ∙ in_range_lem p.first 4 (p.first + j / n) (omega arith) (omega arith));
        sum = omega (
          arith,
          with_sib1_lem (p.first + j / n) (j / n) (omega arith) (rank_inside p.first 4 (j / n) (omega arith)),
          ap (λ (x : ℕ). x * ones p.usual) e,
          div-add-mod' j n,
        );
      }

  pub in_tail : (j : ℕ) → p.first * ones p.usual + 4 * ones p.sib1 + j < rank (allows p) (period_of p)
      → Stretch p.usual (p.first + 4) j (p.first * ones p.usual + 4 * ones p.sib1 + j)
  in_tail j h =
      let n : ℕ = ones p.usual in
      let rest : ℕ = spans_of p - (p.first + 4) in
      let e : spans_of p - 4 ≡ p.first + rest = omega (arith, ok.fits) in
      let k : j < rest * n = omega (arith, some_of_period, ap (λ (x : ℕ). x * n) e, add-mul p.first rest n) in
      let pos : 0 < n = positive rest n j k in
      let q : j / n < rest = (div-lt_iff_lt-mul pos).1 k in
      let l : p.first + 4 + j / n < spans_of p = omega arith in
      let f : p.first + 4 + j / n - 4 ≡ p.first + j / n = omega arith in
      record {
        some = pos;
        inside = l;
        its = mask_plain (p.first + 4 + j / n) (first_period (p.first + 4 + j / n) l ∙ above_range p.first 4 (p.first + 4 + j / n) (omega arith));
        sum = omega (
          arith,
          with_sib1_lem (p.first + 4 + j / n) 4 (omega arith) (rank_after p.first 4 (j / n)),
          ap (λ (x : ℕ). x * n) f,
          add-mul p.first (j / n) n,
          div-add-mod' j n,
        );
      }

  pub ready : (mask n s j target : ℕ) → n ≡ ones mask → mask < 2 ^ 40 → j < 2 ^ 32 → Stretch mask s j target
      → (n ≡ ones mask) × (0 < n) × (mask < 2 ^ 40) × (j < 2 ^ 32) × (s + j / n < 16)
  ready mask n s j target e small l w =
      (e, omega (arith, w.some), small, l, rw e (omega (arith, w.inside, few_spans)))

  pub landed : (mask n s j r target : ℕ) → n ≡ ones mask → mask < 2 ^ 40 → Stretch mask s j target → Landed mask n s j r → Picked p target r
  landed mask n s j r target e small w d =
      let m : ℕ = ones mask in
      let x : ℕ = d.digit in
      let one : NthOne mask (m - 1 - j % m) x = subst (λ (y : ℕ). NthOne mask (y - 1 - j % y) x) e d.one in
      let at : ℕ = s + j / m in
      let b = one_below 40 mask (m - 1 - j % m) x small one in
      let t : ℕ = span * at + (39 - x) in
      let up : 39 - (39 - x) ≡ x = omega (arith, b) in
      let down : 40 - (39 - x) ≡ 1 + x = omega (arith, b) in
      let pick : Picked p target t = record {
        small = omega (arith, b, w.inside);
        passes = sym (mask_bits p at (39 - x) (omega arith)) ∙ ap₂ bit_at w.its up ∙ one.set;
        before =
            omega (
              arith,
              span_front at (39 - x) (omega arith),
              ap₂ (λ (y z : ℕ). ones (y / 2 ^ z)) w.its down,
              ones_above mask (m - 1 - j % m) x one,
              mod-lt j w.some,
              w.sum,
            );
      } in
      subst (λ (y : ℕ). Picked p target y) (sym (d.there ∙ ap (λ (y : ℕ). span * (s + j / y) + (39 - x)) e)) pick

  -- ---- the quick rank and the quick select

  pub rank_quick : (t whole part : ℕ) → whole ≡ rank (allows p) (span * (t / span)) → part ≡ ones (mask_at p (t / span) / 2 ^ (40 - t % span))
      → whole + part ≡ rank (allows p) t
  rank_quick t whole part hw hp =
      let e : span * (t / span) + t % span ≡ t = omega arith in
      omega (arith, span_front (t / span) (t % span) (omega arith), ap (rank (allows p)) e)

  -- the subframe of the first period, then whole periods on
  pub at_quick : (k per r : ℕ) → per ≡ rank (allows p) (period_of p) → Picked p (k % per) r
      → (allows p (k / per * period_of p + r) ≡ true) × (rank (allows p) (k / per * period_of p + r) ≡ k)
  at_quick k per r e h =
      let q : ℕ = k / per in
      let c : q * period_of p + r ≡ r + q * period_of p = add_comm (q * period_of p) r in (
        ap (allows p) c ∙ repeats_times (allows p) (period_of p) repeats q r ∙ h.passes,
        omega (
          arith,
          ap (rank (allows p)) c,
          rank_periods (allows p) (period_of p) repeats q r,
          h.before,
          ap (λ (x : ℕ). q * x) e,
          div-add-mod' k per,
        ),
      )

  pub nth_is : (f j k r : ℕ) → 0 < rank (allows p) (period_of p) → k ≡ rank (allows p) f + j → (allows p r ≡ true) × (rank (allows p) r ≡ k)
      → r ≡ select (allows p) (period_of p) f j
  nth_is f j k r some e h = is_select (allows p) (period_of p) repeats some f j r (nth_of (allows p) f j r h.0 (h.1 ∙ e))

  -- ---- nothing is allowed

  pub empty_is : (eqb p.sib1 0 && (eqb p.log 2 || eqb p.usual 0)) ≡ eqb (rank (allows p) (period_of p)) 0
  empty_is = ⊎_elim sib1_some sib1_none (order 0 p.sib1)
    where
      all : ℕ
      all = 4 * ones p.sib1 + (spans_of p - 4) * ones p.usual

      is : (b : Bool) → b ≡ eqb all 0 → b ≡ eqb (rank (allows p) (period_of p)) 0
      is b e = e ∙ ap (λ (x : ℕ). eqb x 0) (sym some_of_period)

      -- four spans at least
      two : p.log ≤ 2 → p.log ≡ 2
      two f =
          ⊎_elim (λ l. absurd (let w : spans_of p ≤ 2 = at_most 1 (omega arith) in omega (arith, ok.fits))) (λ l. omega arith) (order p.log 2)

      sib1_some : 0 < p.sib1 → (eqb p.sib1 0 && (eqb p.log 2 || eqb p.usual 0)) ≡ eqb (rank (allows p) (period_of p)) 0
      sib1_some h =
          let o = ones_some 40 p.sib1 ok.sib1_small h in
          let z : eqb p.sib1 0 ≡ false = ne_eqb p.sib1 0 (λ e. omega arith) in
          is _ (rw (z, ne_eqb all 0 (λ e. omega arith)) refl)

      plain_by : ones p.sib1 ≡ 0 → (2 < p.log) ⊎ (p.log ≤ 2) → (0 < p.usual) ⊎ (p.usual ≤ 0) → (eqb p.log 2 || eqb p.usual 0) ≡ eqb all 0
      plain_by n (inr f) q =
          let w : spans_of p ≤ 4 = at_most 2 f in
          let y : spans_of p - 4 ≡ 0 = omega arith in
          rw (eq-eqb p.log 2 (two f)) (sym (eq-eqb all 0 (omega (arith, ap (λ (x : ℕ). x * ones p.usual) y, zero-mul (ones p.usual)))))
      plain_by n (inl f) (inr q) =
          let e : p.usual ≡ 0 = omega arith in
          let m : ones p.usual ≡ 0 = ap ones e ∙ ones_none in
          rw (ne_eqb p.log 2 (λ z. omega arith), eq-eqb p.usual 0 e) (sym (eq-eqb all 0 (omega (arith, ap (λ (x : ℕ). (spans_of p - 4) * x) m, mul-zero (spans_of p - 4)))))
      plain_by n (inl f) (inl q) =
          let o = ones_some 40 p.usual ok.usual_small q in
          let w : 8 ≤ spans_of p = at_least 3 f in
          rw (ne_eqb p.log 2 (λ z. omega arith), ne_eqb p.usual 0 (λ z. omega arith))
          (sym (ne_eqb all 0 (λ z. omega (arith, mul-le-mul {n₁ = 1} {m₁ = 1} {n₂ = spans_of p - 4} {m₂ = ones p.usual} (omega arith) o))))

      sib1_none : p.sib1 ≤ 0 → (eqb p.sib1 0 && (eqb p.log 2 || eqb p.usual 0)) ≡ eqb (rank (allows p) (period_of p)) 0
      sib1_none h =
          let s : p.sib1 ≡ 0 = omega arith in
          let n : ones p.sib1 ≡ 0 = ap ones s ∙ ones_none in
          let z : eqb p.sib1 0 ≡ true = eq-eqb p.sib1 0 s in
          is _ (rw z (plain_by n (order 2 p.log) (order 0 p.usual)))
