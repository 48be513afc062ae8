-- What an accepted NPDSCH grant says of its numbers.
use mathlib.Core.Bool.{◌||◌}
use mathlib.Core.Path.{◌≡◌}
use Prim.Native.Nat.{ℕ, ◌≤◌, ◌<◌}
use native.Mathlib.Omega.{arith}
use lib.Dec.{ltb}
use borrow.Author.Tests.{ltb-false}
use Rattle.counting.proofs.Facts.{either_parts}
use Rattle.grid.specs.Tables.{entry, downlink_copies}
use Rattle.grid.proofs.Rules.{length_bounds, downlink_copies_bounds, downlink_delay_bound, downlink_consecutive_splits, consecutive_pos, consecutive_small_lem}
use Rattle.cell.specs.declared.CellConfig.{CellConfig}
use Rattle.cell.specs.Quick.{WellFormed}
use Rattle.elements.proofs.Laws.{whole_part}
use Rattle.downlink.specs.Fits.{Fits}
use Rattle.grid.specs.Grid.{last_subframe}
use Rattle.cell.proofs.Accepted.{layout_valid}
use Rattle.downlink.proofs.Judging.{fields_passed}
use Rattle.npdsch.specs.declared.NpdschGrant.{NpdschGrant}
use Rattle.npdsch.specs.Refusals.{above_largest, grant_refusal}
use Rattle.npdsch.specs.Questions.{burst_of}

pub record Accepted (g : NpdschGrant) : Type 0 where
  pub n : g.n ≤ last_subframe
  pub delay : g.delay < 8
  pub subframes : g.subframes < 8
  pub copies : g.copies < 16

pub grant_accepted : (g : NpdschGrant) → grant_refusal g ≡ 0 → Accepted g
unfolding grant_refusal
grant_accepted g e =
    let p = fields_passed g.n (above_largest g) g.rmax e in
    let a = either_parts (ltb 7 g.delay) (ltb 7 g.subframes || ltb 15 g.copies) p.1 in
    let b = either_parts (ltb 7 g.subframes) (ltb 15 g.copies) a.1 in
    record {
      n = p.0;
      delay = omega (arith, ltb-false 7 g.delay a.0);
      subframes = omega (arith, ltb-false 7 g.subframes b.0);
      copies = omega (arith, ltb-false 15 g.copies b.1);
    }

pub burst_fits : (c : CellConfig) (g : NpdschGrant) → WellFormed c → grant_refusal g ≡ 0 → Fits (burst_of c g)
burst_fits c g w e =
    let a = grant_accepted g e in
    let R : ℕ = entry downlink_copies g.copies in
    let copies = downlink_copies_bounds g.copies a.copies in
    let codeword = length_bounds g.subframes a.subframes in
    record {
      layout = layout_valid c w;
      part = whole_part;
      codeword = codeword.0;
      copies = copies.0;
      consecutive = consecutive_pos R copies.0;
      passes = downlink_consecutive_splits g.copies a.copies;
      from_small = omega (arith, a.n);
      skip_small = omega (arith, downlink_delay_bound g.rmax g.delay a.delay);
      codeword_small = omega (arith, codeword.1);
      copies_small = omega (arith, copies.1);
      consecutive_small = omega (arith, consecutive_small_lem R);
    }
