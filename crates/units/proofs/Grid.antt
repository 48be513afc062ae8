-- Units of U subframes from frame `offset` on: an entry's place in units.
use mathlib.Core.Path.{◌≡◌, sym, ap, ◌∙◌}
use Prim.Native.Nat.{ℕ, suc, ◌+◌, ◌-◌, ◌*◌, ◌/◌, ◌%◌, ◌<◌}
use native.Mathlib.Nat.{mod-lt, div-add-mod', mul_assoc, mul_comm, mul-add, add-mul, mul-sub, mul-lt-mul_of_pos_left, add-mul-mod_self_right, mul-zero, suc-mul}
use native.Mathlib.Omega.{arith}
use lib.Arith.{digits_mod}
use Rattle.messages.specs.declared.Schedule.{Schedule}
use Rattle.messages.specs.declared.Messages.{Messages}
use Rattle.messages.specs.Messages.{all_periods, opens_at, since}

-- multiples keep their remainder
pub times_mod : (k z n : ℕ) → 0 < n → 0 < k → k * z % (k * n) ≡ k * (z % n)
times_mod k z n h p =
    let r : ℕ = z % n in
    let q : ℕ = z / n in
    let e : k * z ≡ q * (k * n) + k * r =
    ap (λ (x : ℕ). k * x) (sym (div-add-mod' z n)) ∙ mul-add k (q * n) r
    ∙ ap (λ (x : ℕ). x + k * r) (sym (mul_assoc k q n) ∙ ap (λ (x : ℕ). x * n) (mul_comm k q) ∙ mul_assoc q k n) in
    ap (λ (x : ℕ). x % (k * n)) e ∙ digits_mod q (mul-lt-mul_of_pos_left {m = r} {n = n} {k = k} (mod-lt z h) p)

-- an entry's numbers in units of U: its period T, the window w, and all windows repeat after `turns` of its periods
pub record CountedIn (ms : Messages) (s : Schedule) (U T w turns : ℕ) : Type 0 where
  pub some : 0 < U
  pub long : 0 < T
  pub often : 0 < turns
  pub period_is : 10 * s.period ≡ U * T
  pub window_is : 10 * (ms.window / 10) ≡ U * w
  pub whole : U * (turns * T) ≡ all_periods

module _ (ms : Messages) (j : ℕ) (s : Schedule) (U T w turns : ℕ) (h : CountedIn ms s U T w turns) (n : ℕ) where
  A : ℕ
  A = (j - 1) * (ms.window / 10) + ms.offset

  B : ℕ
  B = (j - 1) * w

  qa : ℕ
  qa = A / s.period

  -- where the window opens, in units and subframes
  opened : 10 * opens_at ms j s + qa * (U * T) ≡ U * B + 10 * ms.offset
  unfolding A B qa
  opened =
      omega (
        arith,
        div-add-mod' ((j - 1) * (ms.window / 10) + ms.offset) s.period,
        ap (λ (x : ℕ). ((j - 1) * (ms.window / 10) + ms.offset) / s.period * x) (sym h.period_is),
        ten_out (((j - 1) * (ms.window / 10) + ms.offset) / s.period) s.period,
        ten_out (j - 1) (ms.window / 10),
        ap (λ (x : ℕ). (j - 1) * x) h.window_is,
        swap (j - 1) U w,
      )
    where
      ten_out : (a b : ℕ) → a * (10 * b) ≡ 10 * (a * b)
      ten_out a b = sym (mul_assoc a 10 b) ∙ ap (λ (x : ℕ). x * b) (mul_comm a 10) ∙ mul_assoc 10 a b

      swap : (a b c : ℕ) → a * (b * c) ≡ b * (a * c)
      swap a b c = sym (mul_assoc a b c) ∙ ap (λ (x : ℕ). x * c) (mul_comm a b) ∙ mul_assoc b a c

  b : ℕ
  b = B % T

  qb : ℕ
  qb = B / T

  -- where unit n stands, up to whole periods of the entry
  stands : 10 * ms.offset + U * n + all_periods - 10 * opens_at ms j s + qb * (U * T) ≡ U * (n + T - b) + (turns - 1 + qa) * (U * T)
  unfolding b qb
  stands =
      let e : suc (turns - 1) ≡ turns = omega (arith, h.often) in
      omega (
        arith,
        opened,
        ap (λ (x : ℕ). U * x) (sym (div-add-mod' B T)) ∙ mul-add U (B / T * T) (B % T),
        swap U (B / T) T,
        mul-sub U (n + T) (B % T),
        mul-add U n T,
        mul-lt-mul_of_pos_left {m = B % T} {n = T} {k = U} (mod-lt B h.long) h.some,
        h.whole,
        swap U turns T,
        ap (λ (x : ℕ). x * (U * T)) (sym e),
        suc-mul (turns - 1) (U * T),
        add-mul (turns - 1) qa (U * T),
        h.period_is,
        mod-lt ((j - 1) * (ms.window / 10) + ms.offset) period_some,
      )
    where
      swap : (a b c : ℕ) → a * (b * c) ≡ b * (a * c)
      swap a b c = sym (mul_assoc a b c) ∙ ap (λ (x : ℕ). x * c) (mul_comm a b) ∙ mul_assoc b a c

      period_some : 0 < s.period
      period_some = omega (arith, h.period_is, mul-lt-mul_of_pos_left {m = 0} {n = T} {k = U} h.long h.some, mul-zero U)

  -- the entry's place at unit n
  pub place_is : since ms j s (10 * ms.offset + U * n) ≡ U * ((n + T - (j - 1) * w % T) % T)
  unfolding since B b qb
  place_is =
      let X : ℕ = 10 * ms.offset + U * n + all_periods - 10 * opens_at ms j s in
      ap (λ (x : ℕ). X % x) h.period_is
      ∙ sym (add-mul-mod_self_right X (B / T) (U * T))
      ∙ ap (λ (x : ℕ). x % (U * T)) stands
      ∙ add-mul-mod_self_right (U * (n + T - B % T)) (turns - 1 + qa) (U * T)
      ∙ times_mod U (n + T - B % T) T h.long h.some
