use mathlib.Core.Path.{refl, ◌∙◌}
use native.Mathlib.Omega.{arith}
use Rattle.timetable.proofs.scan.Goals as goal

pub returns-in-To : goal.returns-in-To
returns-in-To c =
    let v = c.loop-at.invariant in
    let e = c.in-To.ensures in
    let L = e.0.0 in
    let H = e.0.1 in (
      L.most,
      L.seen,
      omega (arith, L.less, v.less),
      (λ h. H.near),
      (λ ms S X.
          let k = v.onward ms S X in
          let O = L.onward ms S k.exact in
          record { same = k.same ∙ O.same; exact = O.exact; here = λ f h. H.here ms S k.exact f }),
      e.1,
      H.even,
    )

pub loop-at-preserved : goal.loop-at-preserved
loop-at-preserved c =
    let v = c.loop-at.invariant in
    let e = c.in-Past.ensures in
    let L = e.0.0 in
    record {
      most = L.most;
      seen = L.seen;
      less = omega (arith, L.less, v.less);
      keeps = e.1;
      onward = λ ms S X.
          let k = v.onward ms S X in
          let O = L.onward ms S k.exact in
          record { same = k.same ∙ O.same; exact = O.exact };
    }

pub returns : goal.returns
returns c =
    let v = c.loop-at.invariant in (
      v.most,
      v.seen,
      v.less,
      (λ h. absurd (omega (arith, h, c.loop-at-test.false))),
      (λ ms S X.
          let k = v.onward ms S X in
          record { same = k.same; exact = k.exact; here = λ f h. absurd (omega (arith, h, c.loop-at-test.false)) }),
      v.keeps,
      (λ h. refl),
    )
