use mathlib.Core.Bool.{◌&&◌}
use mathlib.Core.Path.{ap₂}
use Rattle.closures.specs.Closures.{clear, is_free}
use Rattle.closures.proofs.is_free.Goals as goal

pub returns : goal.returns
unfolding is_free clear
returns c =
    let d = c in
    let e = d in
    let f = e in
    let g = f in
    ap₂ ◌&&◌ c.leaves_open_at-5.ensures
    (ap₂ ◌&&◌ (ap₂ ◌&&◌ g.leaves_open_at.ensures f.leaves_open_at-2.ensures) (ap₂ ◌&&◌ e.leaves_open_at-3.ensures d.leaves_open_at-4.ensures))
