use mathlib.Core.Bool.{Bool}
use mathlib.Core.Path.{◌≡◌, sym, ap, ◌∙◌}
use Prim.Native.Nat.{ℕ}
use Rattle.downlink.specs.Cells.{fields_refusal}
use Rattle.downlink.proofs.Judging.{judged_refused, judged_accepted}
use Rattle.npdsch.specs.declared.NpdschGrant.{NpdschGrant}
use Rattle.npdsch.specs.Refusals.{above_largest, grant_refusal}
use Rattle.npdsch.proofs.Accepting.{burst_fits}
use Rattle.npdsch.proofs.NpdschGrantDownlinkGrant.judged.Goals as goal

-- the number that the grant got
refusal : (g : NpdschGrant) (b : Bool) (n : ℕ) → b ≡ above_largest g → n ≡ fields_refusal g.n b g.rmax → n ≡ grant_refusal g
unfolding grant_refusal
refusal g b n a e = e ∙ ap (λ (b : Bool). fields_refusal g.n b g.rmax) a

pub returns-in_err-fields_refusal : goal.returns-in_err-fields_refusal
returns-in_err-fields_refusal c =
    judged_refused _ _ _ _ _ c.from_residual.ensures.1 (refusal c.args.self _ _ c.above_largest.ensures c.in_err-fields_refusal.ensures)

pub burst-requires : goal.burst-requires
burst-requires c = sym (refusal c.args.self _ _ c.above_largest.ensures c.in_ok-fields_refusal.ensures)

pub returns : goal.returns
returns c =
    let none = refusal c.args.self _ _ c.above_largest.ensures c.in_ok-fields_refusal.ensures in
    judged_accepted _ _ _ _ none c.burst.ensures (λ w. burst_fits c.args.c c.args.self w (sym none))
