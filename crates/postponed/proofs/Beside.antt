-- What windows leave of a shape, and the answers of a shape beside them.
use mathlib.Core.Bool.{Bool, true, false, cond, not}
use mathlib.Core.Path.{◌≡◌, refl, sym, ap, ap₂, subst, ◌∙◌}
use Prim.Native.Nat.{ℕ, zero, suc, ◌+◌, ◌*◌, ◌/◌, ◌%◌, ◌≤◌, ◌<◌}
use native.Mathlib.Nat.{zero-add, mod-lt, mod-add-mod}
use native.Mathlib.Omega.{arith}
use lib.Dec.{T, eqb, ltb, eqb→eq, lit<}
use borrow.Author.Tests.{lt-ltb, le-ltb, ne_eqb}
use Rattle.counting.specs.Counting.{rank, next}
use Rattle.counting.specs.Scaffold.{Nth}
use Rattle.counting.proofs.Facts.{each, each_at}
use Rattle.counting.proofs.Rank.{rank_zero, rank_same}
use Rattle.counting.proofs.Select.{next_is}
use Rattle.closures.specs.declared.Nested.{Nested}
use Rattle.closures.specs.Closures.{clear}
use Rattle.refusals.specs.declared.Refusal.{Refusal}
use Rattle.refusals.specs.declared.Refusal.TheVariants as refusal
use Rattle.refusals.specs.Refusal.{number_of}
use Rattle.numerology.specs.Numerology.{slots_in, group_of, group_ms}
use Rattle.sending.specs.Sending.{Sending}
use Rattle.sending.specs.Answer.{answer_of}
use Rattle.sending.proofs.Answer.{accepted_as, refused_as}
use Rattle.uplink.specs.declared.Shape.{Shape}
use Rattle.uplink.specs.Fits.{OpenRepeats}
use Rattle.uplink.specs.Quick.{Parted}
use Rattle.uplink.specs.Timing.{gap_period}
use Rattle.uplink.specs.Scaffold.{all_open}
use Rattle.uplink.specs.Mapping.{sending_of}
use Rattle.uplink.proofs.Leaving.{leaving_again, leaving_some}
use Rattle.nprach.specs.declared.Windows.{Windows}
use Rattle.nprach.specs.Windows.{none, is_one_of, all_periods, are_listed, is_clear, windows_refusal, open_to, refusal_on}
use Rattle.nprach.specs.Quick.{doubles, NestedFor}
use Rattle.nprach.proofs.Closing.{clear_again}
use Rattle.nprach.proofs.Listing.{all_pass, of_list, step_of}
use Rattle.nprach.proofs.Spaced.{accepted_windows, none_refuses, none_closes}
use Rattle.postponed.specs.Beside.{refusal_beside, open_beside, question_beside, AtSpacing, Leaves}

-- ---- windows that do not refuse leave a slot to send; e groups last 8 ms

module _ (s : Shape) (ms e a n : ℕ) (ws : Windows) (from : 1 ≤ ms) (to : ms ≤ 2) (h : windows_refusal ms a n ws ≡ 0) (he : all_periods / ms ≡ 320 * e)
    (group : 0 < s.group) (some : 0 < e) (hr : gap_period s ≡ 37 * e * s.group) (hb : s.block ≡ 32 * e * s.group) where
  abbrev is_open : ℕ → Bool
  is_open = is_clear ms a n ws

  ok : (are_listed ws ≡ true) × (0 < rank is_open (all_periods / ms))
  ok = accepted_windows ms a n ws h

  again : (u : ℕ) → is_open (u + 320 * e) ≡ is_open u
  again u = ap (λ (x : ℕ). is_open (u + x)) (sym he) ∙ clear_again ms from to a n ws ok.0 u

  -- the first group that is clear
  found : Nth is_open 0 0 (next is_open (all_periods / ms) 0)
  found = next_is is_open (all_periods / ms) 0 (omega (arith, ok.1, rank_zero is_open, ap (rank is_open) (zero-add (all_periods / ms))))

  leaves_by : OpenRepeats s is_open
  leaves_by = record {
    again = leaving_again s is_open e group some hr hb again;
    some = leaving_some s is_open e group some hr hb again (next is_open (all_periods / ms) 0) found.passes;
  }

leaves_on : (s : Shape) (spacing tone tones : ℕ) (ws : Windows) → AtSpacing spacing s → refusal_on spacing tone tones ws ≡ 0 → OpenRepeats s (open_to spacing tone tones ws)
leaves_on s zero tone tones ws sp h =
    leaves_by s 2 4 (1 * tone) (1 * tones) ws (omega arith) (omega arith) h refl (omega (arith, sp.group)) (omega arith)
    (rw sp.group (omega (arith, sp.block, sp.gap))) (rw sp.group (omega (arith, sp.block)))
leaves_on s (suc zero) tone tones ws sp h =
    leaves_by s 1 8 (4 * tone) (4 * tones) ws (omega arith) (omega arith) h refl (omega (arith, sp.group)) (omega arith)
    (rw sp.group (omega (arith, sp.block, sp.gap))) (rw sp.group (omega (arith, sp.block)))
leaves_on s (suc (suc n)) tone tones ws sp h = absurd (omega (arith, sp.listed))

-- ---- gap periods of 37 parts of 8 ms, of which 5 are the gap

parted : (s : Shape) (spacing : ℕ) → AtSpacing spacing s → Parted s (8 / group_ms spacing)
parted s spacing sp = record {
  some = parts.0;
  gap_periods = ap₂ (λ (x y : ℕ). x / y) (ap₂ ◌+◌ sp.block sp.gap) sp.group ∙ parts.1;
  gaps = ap₂ (λ (x y : ℕ). x / y) sp.gap sp.group ∙ parts.2;
}
  where
    by : (b : Bool)
        → (0 < 8 / (cond b 1 2 * cond b 4 1 / 2))
        × ((2 * 256 / cond b 4 1 + 2 * 40 / cond b 4 1) / cond b 1 2 ≡ 37 * (8 / (cond b 1 2 * cond b 4 1 / 2)))
        × (2 * 40 / cond b 4 1 / cond b 1 2 ≡ 5 * (8 / (cond b 1 2 * cond b 4 1 / 2)))
    by true = (lit< tt, refl, refl)
    by false = (lit< tt, refl, refl)

    parts : (0 < 8 / group_ms spacing) × ((slots_in spacing 256 + slots_in spacing 40) / group_of spacing ≡ 37 * (8 / group_ms spacing)) × (slots_in spacing 40 / group_of spacing ≡ 5 * (8 / group_ms spacing))
    parts = by (eqb spacing 0)

-- in 37 of a window's period each part comes at each of 37 places once: 32 of them are no gap's
abbrev even_at : ℕ → ℕ → Bool
even_at times c = eqb (rank (λ k. not (ltb ((c + k * times) % 37) 5)) 37) 32

all_even : all_pass (λ times. each 37 (even_at times)) doubles ≡ true
unfolding rank
all_even = refl

spread_evenly : (times : ℕ) → is_one_of doubles times ≡ true → (c : ℕ) → rank (λ k. not (ltb ((c + k * times) % 37) 5)) 37 ≡ 32
spread_evenly times h c =
    let t : T (each 37 (even_at times)) = subst T (sym (of_list (λ x. each 37 (even_at x)) doubles all_even times h)) tt in
    rank_same _ (λ k. not (ltb ((c % 37 + k * times) % 37) 5)) 37 (λ k l. ap (λ (x : ℕ). not (ltb x 5)) (sym (mod-add-mod c 37 (k * times))))
    ∙ eqb→eq _ _ (each_at 37 (even_at times) t (c % 37) (mod-lt c (lit< tt)))

-- ---- a shape beside windows

module _ (spacing : ℕ) (s : Shape) (sp : AtSpacing spacing s) (ws : Windows) where
  pub open_repeats : refusal_beside spacing s ws ≡ 0 → OpenRepeats s (open_beside spacing s ws)
  open_repeats = leaves_on s spacing s.tone s.tones ws sp

  -- where there is none they refuse nothing, and close no group
  module _ (z : ws.count ≡ 0) where
    pub none_refused : refusal_beside spacing s ws ≡ 0
    none_refused = none_refuses spacing s.tone s.tones ws z

    pub none_closed : (u : ℕ) → all_open u ≡ open_beside spacing s ws u
    none_closed = none_closes spacing s.tone s.tones ws z

  pub unlisted : are_listed ws ≡ false → 19 ≡ refusal_beside spacing s ws
  unfolding windows_refusal
  unlisted h = rw h refl

  module _ (h : are_listed ws ≡ true) (nested : Nested) (l : NestedFor (group_ms spacing) (open_beside spacing s ws) nested) where
    pub never_free : nested.clear ≡ 0 → 20 ≡ refusal_beside spacing s ws
    unfolding windows_refusal
    never_free z = rw (h, sym l.some ∙ le-ltb 0 nested.clear (omega (arith, z))) refl

    pub accepts : (nested.clear ≡ 0 → ⊥) → refusal_beside spacing s ws ≡ 0
    unfolding windows_refusal
    accepts n = rw (h, sym l.some ∙ lt-ltb 0 nested.clear (omega (arith, n))) refl

    abbrev tested : ℕ → Bool
    tested = clear nested.closures

    -- what the search requires
    pub leaves : (nested.clear ≡ 0 → ⊥) → Leaves spacing s ws nested
    leaves n = record {
      same = l.same;
      again = subst (OpenRepeats s) (λ i u. sym (l.same u) i) (open_repeats (accepts n));
      searchable = record {
        nesting = l.nesting;
        counted = l.counted;
        part = 8 / group_ms spacing;
        parted = parted s spacing sp;
        spread = let m = step_of (8 / group_ms spacing) doubles _ l.longest in record { times = m.0; evenly = spread_evenly m.0 m.1; longest = m.2 };
      };
    }

-- a refusal has a number
pub numbered : (r : Refusal) → number_of r ≡ 0 → ⊥
numbered refusal.Carrier e = omega (arith, e)
numbered refusal.Identity e = omega (arith, e)
numbered refusal.NarrowbandPorts e = omega (arith, e)
numbered refusal.CellPorts e = omega (arith, e)
numbered refusal.ControlRegion e = omega (arith, e)
numbered refusal.Sib1Schedule e = omega (arith, e)
numbered refusal.BadBitmap e = omega (arith, e)
numbered refusal.EmptyBitmap e = omega (arith, e)
numbered refusal.LateSubframe e = omega (arith, e)
numbered refusal.LargeField e = omega (arith, e)
numbered refusal.SubcarrierField e = omega (arith, e)
numbered refusal.Repetitions e = omega (arith, e)
numbered refusal.Mcs e = omega (arith, e)
numbered refusal.NoSuchPlace e = omega (arith, e)
numbered refusal.Length e = omega (arith, e)
numbered refusal.Level e = omega (arith, e)
numbered refusal.TwoPorts e = omega (arith, e)
numbered refusal.NeverUsable e = omega (arith, e)
numbered refusal.WindowsNotListed e = omega (arith, e)
numbered refusal.NeverFree e = omega (arith, e)
numbered refusal.MessagesNotListed e = omega (arith, e)
numbered refusal.ShortPeriod e = omega (arith, e)
numbered refusal.LateOffset e = omega (arith, e)
numbered refusal.PortsDiffer e = omega (arith, e)
numbered refusal.NoBroadcast e = omega (arith, e)

-- ---- a question's two ends, whatever is asked of it: it is refused with 19 or 20, or its shape is asked in the groups that are open

module _ {A : Type 0} (zeros : ℕ → A) (f : Sending → A) (spacing : ℕ) (s : Shape) (ws : Windows) where
  abbrev asked : A
  asked = answer_of zeros (refusal_beside spacing s ws) (f (sending_of s (open_beside spacing s ws)))

  pub none_asked : AtSpacing spacing s → ws.count ≡ 0 → f (sending_of s all_open) ≡ asked
  none_asked sp z =
      accepted_as zeros f (question_beside spacing s ws) _ (none_refused spacing s sp ws z) (ap (sending_of s) (λ i u. none_closed spacing s sp ws z u i))

  pub refused_asked : (r : Refusal) → number_of r ≡ refusal_beside spacing s ws → zeros (number_of r) ≡ asked
  refused_asked r e = refused_as zeros f (question_beside spacing s ws) (number_of r) e (numbered r)

  pub nested_asked : (nested : Nested) → 0 ≡ refusal_beside spacing s ws → Leaves spacing s ws nested → f (sending_of s (clear nested.closures)) ≡ asked
  nested_asked nested e l = accepted_as zeros f (question_beside spacing s ws) _ (sym e) (ap (sending_of s) (λ i u. l.same u i))

-- ---- a grant's question: the fields' number first, then that of its shape beside windows

module _ {A : Type 0} (zeros : ℕ → A) (f : Sending → A) (fields spacing : ℕ) (s : Shape) where
  abbrev number : Windows → ℕ
  number ws = cond (eqb fields 0) (refusal_beside spacing s ws) fields

  abbrev answered : Windows → A
  answered ws = answer_of zeros (number ws) (f (sending_of s (open_beside spacing s ws)))

  pub refused_first : (ws : Windows) (r : Refusal) → number_of r ≡ fields → zeros (number_of r) ≡ answered ws
  refused_first ws r e =
      refused_as zeros f (record { no = number ws; sending = sending_of s (open_beside spacing s ws) }) (number_of r)
      (rw (← e, ne_eqb (number_of r) 0 (numbered r)) refl) (numbered r)

  module _ (e : 0 ≡ fields) where
    pub asked_alone : f (sending_of s all_open) ≡ answered none
    asked_alone =
        accepted_as zeros f (record { no = number none; sending = sending_of s (open_beside spacing s none) }) _
        (rw (← e) (none_refuses spacing s.tone s.tones none refl)) (ap (sending_of s) (λ i u. none_closes spacing s.tone s.tones none refl u i))
