-- What an accepted NPDCCH grant says of its numbers.
use mathlib.Core.Bool.{Bool, true, false, cond, ◌&&◌, ◌||◌}
use mathlib.Core.Path.{◌≡◌, refl}
use Prim.Native.Nat.{ℕ, ◌*◌, ◌≤◌}
use native.Mathlib.Nat.{mod-one}
use native.Mathlib.Omega.{arith}
use lib.Dec.{eqb, ltb}
use borrow.Author.Tests.{ltb-false}
use Rattle.counting.proofs.Facts.{either_parts}
use Rattle.grid.proofs.Rules.{repetition_bounds}
use Rattle.cell.specs.declared.CellConfig.{CellConfig}
use Rattle.cell.specs.Quick.{WellFormed}
use Rattle.elements.proofs.Laws.{whole_part}
use Rattle.elements.specs.Elements.{ncce_width}
use Rattle.elements.specs.Scaffold.{Part}
use Rattle.downlink.specs.Fits.{Fits}
use Rattle.grid.specs.Grid.{last_subframe, subcarriers}
use Rattle.cell.proofs.Accepted.{layout_valid}
use Rattle.downlink.proofs.Judging.{fields_passed}
use Rattle.npdcch.specs.declared.NpdcchGrant.{NpdcchGrant}
use Rattle.npdcch.specs.Refusals.{above_largest, grant_refusal}
use Rattle.npdcch.specs.Questions.{burst_of}
use Rattle.npdcch.specs.Ncce.{first_subcarrier, used_subcarriers}

pub used_part : (format ncce : ℕ) → ncce ≤ 1 → Part (first_subcarrier format ncce) (used_subcarriers format)
used_part format ncce h = by (eqb format 0)
  where
    by : (b : Bool) → Part (cond b (ncce_width * ncce) 0) (cond b ncce_width subcarriers)
    by true = record { starts = omega arith; whole = refl; some = omega arith; inside = omega arith }
    by false = whole_part

pub record Accepted (g : NpdcchGrant) : Type 0 where
  pub n : g.n ≤ last_subframe
  pub format : g.format ≤ 1
  pub ncce : g.ncce ≤ 1
  pub copies : (1 ≤ g.r) × (g.r ≤ 2048)

pub grant_accepted : (g : NpdcchGrant) → grant_refusal g ≡ 0 → Accepted g
unfolding grant_refusal
grant_accepted g e =
    let p = fields_passed g.n (above_largest g) g.r e in
    let a = either_parts (ltb 1 g.format) (ltb 1 g.ncce || (eqb g.format 1 && eqb g.ncce 1)) p.1 in
    let b = either_parts (ltb 1 g.ncce) (eqb g.format 1 && eqb g.ncce 1) a.1 in
    record {
      n = p.0;
      format = ltb-false 1 g.format a.0;
      ncce = ltb-false 1 g.ncce b.0;
      copies = repetition_bounds g.r p.2;
    }

pub accepted_ncce : (g : NpdcchGrant) → grant_refusal g ≡ 0 → g.ncce ≤ 1
accepted_ncce g e = (grant_accepted g e).ncce

pub burst_fits : (c : CellConfig) (g : NpdcchGrant) → WellFormed c → grant_refusal g ≡ 0 → Fits (burst_of c g)
burst_fits c g w e =
    let a = grant_accepted g e in
    record {
      layout = layout_valid c w;
      part = used_part g.format g.ncce a.ncce;
      codeword = omega arith;
      copies = omega (arith, a.copies.0);
      consecutive = omega arith;
      passes = mod-one g.r;
      from_small = omega (arith, a.n);
      skip_small = omega arith;
      codeword_small = omega arith;
      copies_small = omega (arith, a.copies.1);
      consecutive_small = omega arith;
    }
