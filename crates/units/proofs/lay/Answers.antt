use mathlib.Core.Path.{◌≡◌, sym}
use Prim.Native.Nat.{◌+◌, ◌-◌}
use native.Mathlib.Omega.{arith}
use borrow.Author.Tests.{lt-ltb}
use Rattle.units.specs.Quick.{place_of, need_of, lane_step_of}
use Rattle.units.proofs.Lanes.{step_most}
use Rattle.units.proofs.lay.Goals as goal

pub returns-else-place-l : goal.returns-else-place-l
unfolding lane_step_of
returns-else-place-l c =
    let a = c.args in
    let b : need_of a.l a.n a.want ≡ c.need-b.result = sym c.need-b.ensures.0 in
    let goes_on = lt-ltb (place_of a.l a.n + 1) a.l.window (omega (arith, c.place.ensures.0)) in
    let want : c.saturating_sub.result ≡ (lane_step_of a.l a.n a.want a.free).want = rw (goes_on, b) c.saturating_sub.ensures in
    let free : c.saturating_sub-rest.result ≡ a.free - need_of a.l a.n a.want = rw b c.saturating_sub-rest.ensures in
    ((λ i. record { want = want i; free = free i }), rw want (step_most a.l c.requires.0 a.n a.want a.free c.requires.2))
