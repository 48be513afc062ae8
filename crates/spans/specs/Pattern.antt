-- For the code alone. How the quick search sees the usable subframes: spans of forty with two masks. The cell's crate
-- proves that the pattern it makes allows exactly the usable subframes.
use Rattle.std.specs.Prelude.{Bool, true, cond, ◌≡◌, ℕ, ◌+◌, ◌-◌, ◌*◌, ◌/◌, ◌%◌, ◌^◌, ◌≤◌, ◌<◌}
use Rattle.std.specs.Int.Count.{ones}
use Rattle.counting.specs.Counting.{rank, in_range}
use Rattle.counting.specs.Bits.{bit_at}
use Rattle.counting.specs.Scaffold.{NthOne}
use Rattle.spans.specs.declared.Pattern.{Pattern}

-- subframes of a span
abbrev pub span : ℕ
span = 40

-- the pattern repeats after so many spans
abbrev pub spans_of : Pattern → ℕ
spans_of p = 2 ^ p.log

-- span s is one of the four with SIB1
abbrev pub with_sib1 : Pattern → ℕ → Bool
with_sib1 p s = in_range p.first 4 (s % spans_of p)

abbrev pub mask_at : Pattern → ℕ → ℕ
mask_at p s = cond (with_sib1 p s) p.sib1 p.usual

-- bit i of a mask, for subframe i of its span: the first is the highest of forty digits
abbrev pub mask_bit : ℕ → ℕ → Bool
mask_bit m i = bit_at m (39 - i)

-- subframe t is allowed: its bit in the mask of its span is 1
unfoldable pub allows : Pattern → ℕ → Bool
allows p t = mask_bit (mask_at p (t / span)) (t % span)

-- the pattern repeats after so many subframes
abbrev pub period_of : Pattern → ℕ
period_of p = span * spans_of p

pub record Regular (p : Pattern) : Type 0 where
  pub fits : p.first + 4 ≤ spans_of p
  pub few : p.log ≤ 4
  pub usual_small : p.usual < 2 ^ 40
  pub sib1_small : p.sib1 < 2 ^ 40

-- a and b are the ones of the two masks
pub record OnesOf (p : Pattern) (a b : ℕ) : Type 0 where
  pub sib1 : a ≡ ones p.sib1
  pub usual : b ≡ ones p.usual

-- r is the k-th subframe of a stretch of spans from span s on, all with one mask of n ones
pub record Landed (mask n s k r : ℕ) : Type 0 where
  pub digit : ℕ
  pub one : NthOne mask (n - 1 - k % n) digit
  pub there : r ≡ span * (s + k / n) + (39 - digit)

-- r is the subframe of the first period before which k allowed ones lie
pub record Picked (p : Pattern) (k r : ℕ) : Type 0 where
  pub small : r < period_of p
  pub passes : allows p r ≡ true
  pub before : rank (allows p) r ≡ k
