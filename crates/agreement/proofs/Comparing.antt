-- Answers compared number by number: what a comparison of all numbers tells.
use mathlib.Core.Bool.{Bool, true, ◌&&◌}
use mathlib.Core.Path.{◌≡◌, ap}
use Prim.Native.Nat.{ℕ}
use lib.Dec.{eqb}
use borrow.Author.Tests.{eq-eqb, eqb-true}
use Rattle.counting.proofs.Facts.{both, both_parts}
use Rattle.uplink.specs.declared.UplinkPlace.{UplinkPlace}
use Rattle.downlink.specs.declared.DownlinkPlace.{DownlinkPlace}
use Rattle.walk.specs.declared.WalkPlace.{WalkPlace}
use Rattle.agreement.specs.Telling.{Tells}

-- one number, and then the rest
also : {m n : ℕ} {b : Bool} → m ≡ n → b ≡ true → (eqb m n && b) ≡ true
also {m} {n} {b} e f = both (eqb m n) b (eq-eqb m n e) f

parts : (m n : ℕ) (b : Bool) → (eqb m n && b) ≡ true → (m ≡ n) × (b ≡ true)
parts m n b h = let p = both_parts (eqb m n) b h in (eqb-true m n p.0, p.1)

pub uplink_tells : (a b : UplinkPlace) → Tells a b (eqb a.no b.no && (eqb a.slot b.slot && (eqb a.l b.l && (eqb a.k b.k && eqb a.symbol b.symbol))))
uplink_tells a b = record {
  same = λ e. also (ap (λ (x : UplinkPlace). x.no) e) (also (ap (λ (x : UplinkPlace). x.slot) e) (also (ap (λ (x : UplinkPlace). x.l) e) (also (ap (λ (x : UplinkPlace). x.k) e) (eq-eqb _ _ (ap (λ (x : UplinkPlace). x.symbol) e)))));
  only =
      λ h.
      let p0 = parts a.no b.no _ h in
      let p1 = parts a.slot b.slot _ p0.1 in
      let p2 = parts a.l b.l _ p1.1 in
      let p3 = parts a.k b.k _ p2.1 in
      let last = eqb-true a.symbol b.symbol p3.1 in
      λ i. record { no = p0.0 i; slot = p1.0 i; l = p2.0 i; k = p3.0 i; symbol = last i };
}

pub downlink_tells : (a b : DownlinkPlace) → Tells a b (eqb a.no b.no && (eqb a.t b.t && (eqb a.slot b.slot && (eqb a.l b.l && (eqb a.k b.k && eqb a.symbol b.symbol)))))
downlink_tells a b = record {
  same = λ e. also (ap (λ (x : DownlinkPlace). x.no) e) (also (ap (λ (x : DownlinkPlace). x.t) e) (also (ap (λ (x : DownlinkPlace). x.slot) e) (also (ap (λ (x : DownlinkPlace). x.l) e) (also (ap (λ (x : DownlinkPlace). x.k) e) (eq-eqb _ _ (ap (λ (x : DownlinkPlace). x.symbol) e))))));
  only =
      λ h.
      let p0 = parts a.no b.no _ h in
      let p1 = parts a.t b.t _ p0.1 in
      let p2 = parts a.slot b.slot _ p1.1 in
      let p3 = parts a.l b.l _ p2.1 in
      let p4 = parts a.k b.k _ p3.1 in
      let last = eqb-true a.symbol b.symbol p4.1 in
      λ i. record { no = p0.0 i; t = p1.0 i; slot = p2.0 i; l = p3.0 i; k = p4.0 i; symbol = last i };
}

pub step_tells : (a b : WalkPlace) → Tells a b (eqb a.no b.no && (eqb a.finished b.finished && (eqb a.t b.t && (eqb a.slot b.slot && (eqb a.l b.l && (eqb a.k b.k && eqb a.symbol b.symbol))))))
step_tells a b = record {
  same = λ e. also (ap (λ (x : WalkPlace). x.no) e) (also (ap (λ (x : WalkPlace). x.finished) e) (also (ap (λ (x : WalkPlace). x.t) e) (also (ap (λ (x : WalkPlace). x.slot) e) (also (ap (λ (x : WalkPlace). x.l) e) (also (ap (λ (x : WalkPlace). x.k) e) (eq-eqb _ _ (ap (λ (x : WalkPlace). x.symbol) e)))))));
  only =
      λ h.
      let p0 = parts a.no b.no _ h in
      let p1 = parts a.finished b.finished _ p0.1 in
      let p2 = parts a.t b.t _ p1.1 in
      let p3 = parts a.slot b.slot _ p2.1 in
      let p4 = parts a.l b.l _ p3.1 in
      let p5 = parts a.k b.k _ p4.1 in
      let last = eqb-true a.symbol b.symbol p5.1 in
      λ i. record { no = p0.0 i; finished = p1.0 i; t = p2.0 i; slot = p3.0 i; l = p4.0 i; k = p5.0 i; symbol = last i };
}
