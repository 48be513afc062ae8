-- A call judged: what its refusal says, and what an accepted one has.
use mathlib.Core.Bool.{Bool, false, not, ◌||◌}
use mathlib.Core.List.{List}
use mathlib.Core.Path.{◌≡◌, refl, sym, ap, ap₂, ◌∙◌, subst}
use Prim.Native.Nat.{ℕ, ◌+◌, ◌*◌, ◌≤◌, ◌<◌, ◌%◌}
use native.Mathlib.Nat.{mul-le-mul, mul-le-mul_right, suc-mul, mod-one}
use native.Mathlib.Omega.{arith}
use lib.Dec.{eqb, leb}
use lib.Ieee.{Float}
use lib.ListN.{length}
use borrow.Author.Tests.{eqb-true, leb-false, not-false}
use Rattle.counting.proofs.Facts.{passed, chained, either_parts}
use Rattle.grid.specs.Grid.{subcarriers}
use Rattle.cell.specs.declared.Cell.{Cell}
use Rattle.cell.specs.Bitmap.{own_buffer}
use Rattle.std.specs.Prelude.{Result, Ok, IsErrAnd}
use Rattle.std.proofs.lemmas.Result.{err_from_is_err_and}
use Rattle.refusals.specs.declared.Refusal.{Refusal}
use Rattle.refusals.specs.Refusal.{number_of}
use Rattle.refusals.proofs.Numbers.{stands}
use Rattle.cell.specs.declared.Verdict.{Verdict}
use Rattle.cell.specs.Judge.{cell_refusal}
use Rattle.cell.specs.Quick.{VerdictOn}
use Rattle.sending.specs.CopyOrder.{carried}
use Rattle.sending.proofs.CopyOrder.{carried_below}
use Rattle.elements.specs.Elements.{count_of}
use Rattle.elements.proofs.Laws.{count_le}
use Rattle.downlink.specs.declared.Burst.{Burst}
use Rattle.downlink.specs.Fits.{Fits}
use Rattle.downlink.specs.Mapping.{sent_subframes}
use Rattle.cell.specs.Layout.{layout_of}
use Rattle.downlink.specs.Quick.{Judged}
use Rattle.downlink.proofs.Judging.{by_cell, by_grant, well_formed}
use Rattle.npdsch.specs.declared.NpdschGrant.{NpdschGrant}
use Rattle.npdsch.specs.Refusals.{grant_refusal, refusal_of}
use Rattle.npdsch.specs.Questions.{burst_of}
use Rattle.transmitted.specs.declared.Call.{Call}
use Rattle.transmitted.specs.Refusals.{codeword_bytes, late_refusal, call_refusal}
use Rattle.transmitted.specs.Quick.{Accepted, CallFor}
use Rattle.transmitted.proofs.Going.{going}

-- what 14 and 15 leave
pub record Passed (b : Burst) (i : ℕ) (outside : Bool) (bits : List ℕ) (wrong : Bool) : Type 0 where
  pub sent : i < sent_subframes b
  pub inside : outside ≡ false
  pub whole : length bits ≡ codeword_bytes b
  pub fitting : wrong ≡ false

pub late_passed : (b : Burst) (i : ℕ) (outside : Bool) (bits : List ℕ) (wrong : Bool) (level : Float)
    → late_refusal b i outside bits wrong level ≡ 0 → Passed b i outside bits wrong
unfolding late_refusal
late_passed b i outside bits wrong level e =
    let p14 = passed (leb (sent_subframes b) i || outside) 14 _ (omega arith) e in
    let p15 = passed (not (eqb (length bits) (codeword_bytes b)) || wrong) 15 _ (omega arith) p14.1 in
    let a = either_parts (leb (sent_subframes b) i) outside p14.0 in
    let d = either_parts (not (eqb (length bits) (codeword_bytes b))) wrong p15.0 in
    record {
      sent = leb-false (sent_subframes b) i a.0;
      inside = a.1;
      whole = eqb-true (length bits) (codeword_bytes b) (not-false (eqb (length bits) (codeword_bytes b)) d.0);
      fitting = d.1;
    }

module _ (c : Cell) (anchor other : List ℕ) (g : NpdschGrant) (i : ℕ) (outside : Bool) (bits : List ℕ) (wrong : Bool) (level : Float) where
  abbrev refusal : ℕ
  refusal = call_refusal c anchor other g i outside bits wrong level

  -- at the exit of a `?`
  refused : (e : Refusal) (r : Result Call Refusal) → IsErrAnd r (λ y. y ≡ e) → number_of e ≡ refusal
      → CallFor c anchor other g i outside bits wrong level r
  refused e r h f =
      let p = err_from_is_err_and r h in
      rw (p.1, p.2) (record { number = f; accepted = tt })

  by_question : (e : Refusal) → number_of e ≡ refusal_of c anchor other g → number_of e ≡ refusal
  unfolding call_refusal
  by_question e h = stands e _ _ h

  pub cell_refused : (e : Refusal) (r : Result Call Refusal) → IsErrAnd r (λ y. y ≡ e)
      → number_of e ≡ cell_refusal c (own_buffer c.config anchor other) → CallFor c anchor other g i outside bits wrong level r
  cell_refused e r h f = refused e r h (by_question e (by_cell c anchor other (grant_refusal g) e f))

  module _ (v : Verdict) (j : VerdictOn c (own_buffer c.config anchor other) (Ok v)) where
    pub grant_refused : (e : Refusal) (r : Result Call Refusal) → IsErrAnd r (λ y. y ≡ e) → number_of e ≡ grant_refusal g
        → CallFor c anchor other g i outside bits wrong level r
    grant_refused e r h f = refused e r h (by_question e (f ∙ sym (by_grant c anchor other v j (grant_refusal g))))

    module _ (d : Burst) (a : Judged c.config (grant_refusal g) (burst_of c.config g) (Ok d)) where
      fits : Fits d
      fits = a.fits (well_formed c anchor other v j)

      late_is : late_refusal d i outside bits wrong level ≡ refusal
      unfolding call_refusal
      late_is =
          let z : refusal_of c anchor other g ≡ 0 = by_grant c anchor other v j (grant_refusal g) ∙ sym a.number in
          ap (λ (b : Burst). late_refusal b i outside bits wrong level) a.burst ∙ sym (rw z refl)

      pub late_refused : (e : Refusal) (r : Result Call Refusal) → IsErrAnd r (λ y. y ≡ e)
          → number_of e ≡ late_refusal d i outside bits wrong level → CallFor c anchor other g i outside bits wrong level r
      late_refused e r h f = refused e r h (f ∙ late_is)

      abbrev b : Burst
      b = burst_of c.config g

      own_fits : Fits b
      own_fits = subst Fits a.burst fits

      abbrev W : ℕ
      W = count_of (layout_of c.config) 0 subcarriers

      abbrev unit : ℕ
      unit = carried b.consecutive 1 b.codeword i

      -- the carried subframe's symbols are some of the codeword's
      within : unit * W + W ≤ b.codeword * W
      within =
          let below : unit < b.codeword = carried_below b.consecutive 1 b.codeword i own_fits.consecutive (omega arith) (mod-one b.codeword) own_fits.codeword in
          omega (arith, suc-mul unit W, mul-le-mul_right W below)

      accepted_at : late_refusal b i outside bits wrong level ≡ 0 → Accepted c anchor other g i bits (record { first = unit * W; v = c.config.identity % 6 })
      accepted_at e =
          let p = late_passed b i outside bits wrong level e in
          record {
            prepared = record {
              valid = own_fits.layout;
              room = omega (arith, within, p.whole);
              small = omega (arith, within, mul-le-mul own_fits.codeword_small (count_le (layout_of c.config) 0 subcarriers));
            };
            shift = refl;
            going = λ x. going c anchor other g v j i x p.sent;
          }

      pub accepted : (w u : ℕ) → 0 ≡ late_refusal d i outside bits wrong level → w ≡ count_of d.layout d.low d.width
          → u ≡ carried d.consecutive 1 d.codeword i → CallFor c anchor other g i outside bits wrong level (Ok (record { first = u * w; v = d.layout.v }))
      accepted w u e hw hu =
          let m : u * w ≡ unit * W = ap₂ (λ (x y : ℕ). x * y)
          (hu ∙ ap (λ (d : Burst). carried d.consecutive 1 d.codeword i) a.burst) (hw ∙ ap (λ (d : Burst). count_of d.layout d.low d.width) a.burst) in
          record {
            number = e ∙ late_is;
            accepted = subst (Accepted c anchor other g i bits) (sym (λ k. record { first = m k; v = (a.burst k).layout.v }))
                (accepted_at (sym (ap (λ (b : Burst). late_refusal b i outside bits wrong level) a.burst) ∙ sym e));
          }

  -- an accepted call passed 14 and 15
  pub call_passed : (k : Call) → CallFor c anchor other g i outside bits wrong level (Ok k) → Passed (burst_of c.config g) i outside bits wrong
  unfolding call_refusal
  call_passed k j =
      late_passed (burst_of c.config g) i outside bits wrong level
      (chained (refusal_of c anchor other g) (late_refusal (burst_of c.config g) i outside bits wrong level) (sym j.number)).1
