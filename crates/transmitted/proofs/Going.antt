-- What the code works out for an element is what goes out there.
use mathlib.Core.Bool.{Bool, true, false, cond}
use mathlib.Core.List.{List}
use mathlib.Core.Path.{◌≡◌, refl, sym, ap, ◌∙◌, subst}
use Prim.Native.Nat.{ℕ, ◌+◌, ◌*◌, ◌<◌}
use native.Mathlib.Omega.{arith}
use lib.Dec.{eqb}
use lib.ListN.{length}
use borrow.Author.Tests.{ne_eqb}
use Rattle.counting.specs.Counting.{rank}
use Rattle.counting.proofs.Period.{lists}
use Rattle.grid.specs.Grid.{subcarriers}
use Rattle.cell.specs.declared.Cell.{Cell}
use Rattle.cell.specs.Bitmap.{own_buffer, bitmap_in}
use Rattle.cell.specs.Usable.{period, usable}
use Rattle.std.specs.Prelude.{Ok}
use Rattle.cell.specs.declared.Verdict.{Verdict}
use Rattle.cell.specs.Quick.{VerdictOn}
use Rattle.subframes.proofs.Left.{left_again}
use Rattle.cell.proofs.Showing.{same_test}
use Rattle.sending.specs.CopyOrder.{carried}
use Rattle.sending.specs.Sending.{Content, content_at}
use Rattle.elements.specs.declared.Layout.{Layout}
use Rattle.elements.specs.Elements.{count_of, used, number_of, kind_of}
use Rattle.elements.proofs.Laws.{used_listed}
use Rattle.downlink.specs.declared.Burst.{Burst}
use Rattle.downlink.specs.Mapping.{sent_subframes, first_of, sending_of}
use Rattle.cell.specs.Layout.{layout_of}
use Rattle.downlink.specs.Quick.{content_in}
use Rattle.npdsch.specs.declared.NpdschGrant.{NpdschGrant}
use Rattle.npdsch.specs.Questions.{burst_of}
use Rattle.symbol.specs.declared.Outgoing.{Outgoing}
use Rattle.symbol.specs.declared.Outgoing.TheVariants.{Ours}
use Rattle.symbol.specs.Scaffold.{Within}
use Rattle.transmitted.specs.GoesOut.{goes_out, outgoing_of}
use Rattle.transmitted.specs.Quick.{goes_in, Prepared}

-- the i-th subframe that is sent has what stands in it
pub use_at : (u : ℕ → Bool) (P : ℕ) → ((t : ℕ) → u (t + P) ≡ u t) → 0 < rank u P → (b : Burst) (i x : ℕ) → i < sent_subframes b
    → content_at (sending_of u P b) ((sending_of u P b).time i) x ≡ content_in b i x
unfolding content_in
use_at u P repeats some b i x h =
    let L = lists u P repeats some (first_of u P b) (sent_subframes b) in
    rw (L.passes i h, L.placed i h) refl

goes_by : (t : Bool) (a d : Content) → goes_out (cond t a d) ≡ cond t (goes_out a) (goes_out d)
goes_by true a d = refl
goes_by false a d = refl

module _ (c : Cell) (anchor other : List ℕ) (g : NpdschGrant) where
  pub goes_in_lem : (i x : ℕ) → goes_out (content_in (burst_of c.config g) i x)
      ≡ goes_in (layout_of c.config) (carried (burst_of c.config g).consecutive 1 (burst_of c.config g).codeword i * count_of (layout_of c.config) 0 subcarriers) x
  unfolding content_in goes_in
  goes_in_lem i x = goes_by (used (layout_of c.config) 0 subcarriers x) _ _

  pub going : (v : Verdict) → VerdictOn c (own_buffer c.config anchor other) (Ok v) → (i x : ℕ) → i < sent_subframes (burst_of c.config g)
      → goes_in (layout_of c.config) (carried (burst_of c.config g).consecutive 1 (burst_of c.config g).codeword i * count_of (layout_of c.config) 0 subcarriers) x ≡ outgoing_of c anchor other g i x
  unfolding outgoing_of
  going v j i x h =
      let m = bitmap_in c.config (own_buffer c.config anchor other) in
      let s = j.accepted.searchable in
      let same = same_test c m v.pattern v.laid j.accepted.shows j.accepted.laid in
      let repeats = subst (λ (u : ℕ → Bool). (t : ℕ) → u (t + period) ≡ u t) same (left_again v.pattern v.laid c.messages s.on) in
      sym (ap goes_out
      (use_at (usable c m) period repeats (subst (λ (u : ℕ → Bool). 0 < rank u period) same s.some) (burst_of c.config g) i x h)
      ∙ goes_in_lem i x)

-- ---- an element by its cases

module _ (g : Layout) (first x : ℕ) where
  pub goes_ours : (e : ℕ) → used g 0 subcarriers x ≡ true → e ≡ number_of g 0 subcarriers x → Ours (first + e) ≡ goes_in g first x
  unfolding goes_in
  goes_ours e y h = rw (y, h) refl

  pub goes_silent : (kind : ℕ) → used g 0 subcarriers x ≡ false → kind ≡ kind_of g x → kind ≡ 0 → Outgoing.Silent ≡ goes_in g first x
  unfolding goes_in
  goes_silent kind n h z = rw (n, ← h, z) refl

  pub goes_reference : (kind : ℕ) → used g 0 subcarriers x ≡ false → kind ≡ kind_of g x → (kind ≡ 0 → ⊥) → Outgoing.Reference kind ≡ goes_in g first x
  unfolding goes_in
  goes_reference kind n h z = rw (n, ← h, ne_eqb kind 0 z) refl

  -- a symbol that goes out has its bits
  pub goes_within : (bits : List ℕ) (o : Outgoing) → Prepared g first bits → o ≡ goes_in g first x → Within bits o
  unfolding goes_in
  goes_within bits o p e = record { has = λ c h. by (used g 0 subcarriers x) refl c (sym e ∙ h) }
    where
      plain : (b : Bool) (k c : ℕ) → cond b Outgoing.Silent (Outgoing.Reference k) ≡ Ours c → ⊥
      plain true k c h = let z : ◌≡◌ {A = ℕ} 0 1 = cc in omega arith
      plain false k c h = let z : ◌≡◌ {A = ℕ} 0 1 = cc in omega arith

      by : (b : Bool) → used g 0 subcarriers x ≡ b → (c : ℕ)
          → cond b (Ours (first + number_of g 0 subcarriers x)) (goes_out (Content.not_ours (kind_of g x))) ≡ Ours c → c < 4 * length bits
      by true y c h =
          let same : first + number_of g 0 subcarriers x ≡ c = cc in
          omega (arith, p.room, (used_listed g 0 subcarriers).below x y)
      by false y c h = absurd (plain (eqb (kind_of g x) 0) (kind_of g x) c h)
