-- Closures put in the order of their periods close what they closed, and each period divides the next.
use mathlib.Core.Bool.{Bool, true, false, not, ◌&&◌}
use mathlib.Core.Path.{◌≡◌, refl, sym, ap, ap₂, ◌∙◌}
use mathlib.Core.Logic.{⊎_elim}
use Prim.Native.Nat.{ℕ, ◌+◌, ◌%◌, min, ◌≤◌, ◌<◌}
use native.Mathlib.Nat.{mod-lt}
use native.Mathlib.Omega.{arith}
use lib.Dec.{leb, ltb}
use borrow.Author.Tests.{lt-ltb, le-ltb, le-leb, lt-leb}
use Rattle.counting.proofs.Facts.{order}
use Rattle.closures.specs.declared.Closure.{Closure}
use Rattle.closures.specs.declared.Closures.{Closures}
use Rattle.closures.specs.Closures.{is_closed, leaves_open, clear}
use Rattle.closures.specs.Quick.{Usable, AllUsable, Chained, capped_of, lower_of, upper_of, network_of, ordered_of, OneOfTheirs, Sorted}

pub not_below : (a b : ℕ) → leb b a ≡ not (ltb a b)
not_below a b =
    ⊎_elim (λ (h : a < b). lt-leb b a h ∙ ap not (sym (lt-ltb a b h))) (λ (h : b ≤ a). le-leb b a h ∙ ap not (sym (le-ltb a b h))) (order a b)

-- ---- a closure that closes no more than all

module _ (b : Closure) (some : 0 < b.period) (t : ℕ) where
  abbrev r : ℕ
  r = (t + b.phase) % b.period

  inside : r < b.period
  inside = mod-lt (t + b.phase) some

  below : r < b.closed → ltb r (min b.closed b.period) ≡ ltb r b.closed
  below h = lt-ltb r (min b.closed b.period) (omega (arith, inside)) ∙ sym (lt-ltb r b.closed h)

  above : b.closed ≤ r → ltb r (min b.closed b.period) ≡ ltb r b.closed
  above h = le-ltb r (min b.closed b.period) (omega arith) ∙ sym (le-ltb r b.closed h)

  pub capped_leaves : leaves_open (capped_of b) t ≡ leaves_open b t
  unfolding leaves_open is_closed
  capped_leaves = ap not (⊎_elim below above (order r b.closed))

pub capped_usable : (b : Closure) → Usable b → Usable (capped_of b)
capped_usable b u = record {
  some = u.some;
  period_small = u.period_small;
  phase_small = u.phase_small;
  closed_small = omega (arith, u.closed_small);
}

-- ---- two closures in order

and_comm : (a b : Bool) → (a && b) ≡ (b && a)
and_comm true true = refl
and_comm true false = refl
and_comm false true = refl
and_comm false false = refl

module _ (a b : Closure) where
  either : (P : Closure → Closure → Type 0) → (a.period ≤ b.period → P a b) → (b.period < a.period → P b a) → P (lower_of a b) (upper_of a b)
  unfolding lower_of upper_of
  either P p q =
      ⊎_elim
      (λ (h : b.period < a.period). rw (lt-leb a.period b.period h) (q h))
      (λ (h : a.period ≤ b.period). rw (le-leb a.period b.period h) (p h))
      (order b.period a.period)

  rises : (lower_of a b).period ≤ (upper_of a b).period
  rises = either (λ x y. x.period ≤ y.period) (λ h. h) (λ h. omega arith)

  above_both : (n : ℕ) → n ≤ a.period → n ≤ b.period → n ≤ (lower_of a b).period
  above_both n p q = either (λ x y. n ≤ x.period) (λ h. p) (λ h. q)

  below_both : (n : ℕ) → a.period ≤ n → b.period ≤ n → (upper_of a b).period ≤ n
  below_both n p q = either (λ x y. y.period ≤ n) (λ h. q) (λ h. p)

  between : ((lower_of a b).period ≤ a.period) × ((lower_of a b).period ≤ b.period) × (a.period ≤ (upper_of a b).period) × (b.period ≤ (upper_of a b).period)
  between =
      either (λ x y. (x.period ≤ a.period) × (x.period ≤ b.period) × (a.period ≤ y.period) × (b.period ≤ y.period))
      (λ h. (omega arith, h, h, omega arith)) (λ h. (omega arith, omega arith, omega arith, omega arith))

  pub pair_leaves : (t : ℕ) → (leaves_open (lower_of a b) t && leaves_open (upper_of a b) t) ≡ (leaves_open a t && leaves_open b t)
  pair_leaves t = either (λ x y. (leaves_open x t && leaves_open y t) ≡ (leaves_open a t && leaves_open b t)) (λ h. refl) (λ h. and_comm (leaves_open b t) (leaves_open a t))

  pub pair_keeps : (P : Closure → Type 0) → P a → P b → P (lower_of a b) × P (upper_of a b)
  pair_keeps P p q = either (λ x y. P x × P y) (λ h. (p, q)) (λ h. (q, p))

-- ---- four

outer : (a b c d : Bool) → ((a && b) && (c && d)) ≡ ((b && c) && (a && d))
outer true b c d = four b c d
  where
    four : (b c d : Bool) → (b && (c && d)) ≡ ((b && c) && d)
    four true c d = refl
    four false c d = refl
outer false b c d = none b c
  where
    none : (b c : Bool) → false ≡ ((b && c) && false)
    none true true = refl
    none true false = refl
    none false c = refl

crossed : (a b c d : Bool) → ((a && b) && (c && d)) ≡ ((a && c) && (b && d))
crossed true b c d = by b c
  where
    by : (b c : Bool) → (b && (c && d)) ≡ (c && (b && d))
    by true c = refl
    by false true = refl
    by false false = refl
crossed false b c d = refl

-- what holds of each of four
record Each (P : Closure → Type 0) (r : Closures) : Type 0 where
  e1 : P r.b1
  e2 : P r.b2
  e3 : P r.b3
  e4 : P r.b4

module _ (a b c d : Closure) where
  abbrev low1 : Closure
  low1 = lower_of a b

  abbrev low2 : Closure
  low2 = lower_of c d

  abbrev high1 : Closure
  high1 = upper_of a b

  abbrev high2 : Closure
  high2 = upper_of c d

  abbrev mid1 : Closure
  mid1 = upper_of low1 low2

  abbrev mid2 : Closure
  mid2 = lower_of high1 high2

  network_clear : (t : ℕ) → clear (network_of a b c d) t ≡ ((leaves_open a t && leaves_open b t) && (leaves_open c t && leaves_open d t))
  unfolding clear network_of
  network_clear t =
      let l : Closure → Bool = λ x. leaves_open x t in
      outer (l (lower_of low1 low2)) (l (lower_of mid1 mid2)) (l (upper_of mid1 mid2)) (l (upper_of high1 high2))
      ∙ ap (λ (x : Bool). x && (l (lower_of low1 low2) && l (upper_of high1 high2))) (pair_leaves mid1 mid2 t ∙ and_comm (l mid1) (l mid2))
      ∙ swapped (l mid2) (l mid1) (l (lower_of low1 low2)) (l (upper_of high1 high2))
      ∙ ap₂ ◌&&◌ (pair_leaves low1 low2 t) (pair_leaves high1 high2 t)
      ∙ crossed (l low1) (l low2) (l high1) (l high2)
      ∙ ap₂ ◌&&◌ (pair_leaves a b t) (pair_leaves c d t)
    where
      swapped : (x y z w : Bool) → ((x && y) && (z && w)) ≡ ((z && y) && (x && w))
      swapped true true z w = by z w
        where
          by : (z w : Bool) → (z && w) ≡ ((z && true) && w)
          by true w = refl
          by false w = refl
      swapped true false z w = by z
        where
          by : (z : Bool) → false ≡ ((z && false) && w)
          by true = refl
          by false = refl
      swapped false y z w = by z y
        where
          by : (z y : Bool) → false ≡ ((z && y) && false)
          by true true = refl
          by true false = refl
          by false y = refl

  network_keeps : (P : Closure → Type 0) → P a → P b → P c → P d → Each P (network_of a b c d)
  unfolding network_of
  network_keeps P pa pb pc pd =
      let f = pair_keeps a b P pa pb in
      let g = pair_keeps c d P pc pd in
      let l = pair_keeps low1 low2 P f.0 g.0 in
      let h = pair_keeps high1 high2 P f.1 g.1 in
      let m = pair_keeps mid1 mid2 P l.1 h.0 in
      record { e1 = l.0; e2 = m.0; e3 = m.1; e4 = h.1 }

  network_rises : ((network_of a b c d).b1.period ≤ (network_of a b c d).b2.period)
      × ((network_of a b c d).b2.period ≤ (network_of a b c d).b3.period)
      × ((network_of a b c d).b3.period ≤ (network_of a b c d).b4.period)
  unfolding network_of
  network_rises =
      let l = between low1 low2 in
      let h = between high1 high2 in (
        above_both mid1 mid2 _ (rises low1 low2) (above_both high1 high2 _ (omega (arith, l.0, rises a b)) (omega (arith, l.1, rises c d))),
        rises mid1 mid2,
        below_both mid1 mid2 _ (below_both low1 low2 _ (omega (arith, h.2, rises a b)) (omega (arith, h.3, rises c d))) (rises high1 high2),
      )

module _ (b : Closures) (u : AllUsable b) (k : Chained b) where
  abbrev in_order : Closures
  in_order = ordered_of b

  pub ordered_clear : (t : ℕ) → clear in_order t ≡ clear b t
  unfolding clear
  ordered_clear t =
      network_clear (capped_of b.b1) (capped_of b.b2) (capped_of b.b3) (capped_of b.b4) t
      ∙ ap₂ ◌&&◌
      (ap₂ ◌&&◌ (capped_leaves b.b1 u.u1.some t) (capped_leaves b.b2 u.u2.some t))
      (ap₂ ◌&&◌ (capped_leaves b.b3 u.u3.some t) (capped_leaves b.b4 u.u4.some t))

  keeps : (P : Closure → Type 0) → P (capped_of b.b1) → P (capped_of b.b2) → P (capped_of b.b3) → P (capped_of b.b4) → Each P in_order
  keeps P = network_keeps _ _ _ _ P

  pub ordered_longest : OneOfTheirs b in_order.b4.period
  ordered_longest test p q r s = (keeps (λ x. test x.period ≡ true) p q r s).e4

  pub ordered_sorted : Sorted in_order
  ordered_sorted =
      let us = keeps Usable (capped_usable _ u.u1) (capped_usable _ u.u2) (capped_usable _ u.u3) (capped_usable _ u.u4) in
      let cs = keeps (λ x. x.closed ≤ x.period) (omega arith) (omega arith) (omega arith) (omega arith) in
      let ps = keeps (λ x. k.listed x.period ≡ true) k.p1 k.p2 k.p3 k.p4 in
      let up = network_rises (capped_of b.b1) (capped_of b.b2) (capped_of b.b3) (capped_of b.b4) in
      record {
        usable = record { u1 = us.e1; u2 = us.e2; u3 = us.e3; u4 = us.e4 };
        c1 = cs.e1;
        c2 = cs.e2;
        c3 = cs.e3;
        c4 = cs.e4;
        d2 = k.divides _ _ ps.e1 ps.e2 up.0;
        d3 = k.divides _ _ ps.e2 ps.e3 up.1;
        d4 = k.divides _ _ ps.e3 ps.e4 up.2;
      }
