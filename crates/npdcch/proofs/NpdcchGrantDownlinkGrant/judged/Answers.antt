use mathlib.Core.Bool.{Bool}
use mathlib.Core.Path.{◌≡◌, sym, ap, ◌∙◌}
use Prim.Native.Nat.{ℕ}
use Rattle.downlink.specs.Cells.{fields_refusal}
use Rattle.downlink.proofs.Judging.{judged_refused, judged_accepted}
use Rattle.npdcch.specs.declared.NpdcchGrant.{NpdcchGrant}
use Rattle.npdcch.specs.Refusals.{above_largest, grant_refusal}
use Rattle.npdcch.proofs.Accepting.{burst_fits}
use Rattle.npdcch.proofs.NpdcchGrantDownlinkGrant.judged.Goals as goal

-- the number that the grant got
refusal : (g : NpdcchGrant) (b : Bool) (n : ℕ) → b ≡ above_largest g → n ≡ fields_refusal g.n b g.r → n ≡ grant_refusal g
unfolding grant_refusal
refusal g b n a e = e ∙ ap (λ (b : Bool). fields_refusal g.n b g.r) a

pub returns-in_err-fields_refusal : goal.returns-in_err-fields_refusal
returns-in_err-fields_refusal c =
    judged_refused _ _ _ _ _ c.from_residual.ensures.1 (refusal c.args.self _ _ c.above_largest.ensures c.in_err-fields_refusal.ensures)

pub burst-requires : goal.burst-requires
burst-requires c = sym (refusal c.args.self _ _ c.above_largest.ensures c.in_ok-fields_refusal.ensures)

pub returns : goal.returns
returns c =
    let none = refusal c.args.self _ _ c.above_largest.ensures c.in_ok-fields_refusal.ensures in
    judged_accepted _ _ _ _ none c.burst.ensures (λ w. burst_fits c.args.c c.args.self w (sym none))
