-- What is promised beside demand 3 is kept: clear of the windows, the bitmap in force, messages, the cause and one element by their numbers.
use mathlib.Core.Bool.{Bool, true, false, not, ◌&&◌}
use mathlib.Core.List.{List}
use mathlib.Core.Logic.{◌⊎◌, inl, inr, ⊎_elim, ◌↔◌}
use mathlib.Core.Path.{◌≡◌, refl, sym, ap, ◌∙◌}
use Prim.Native.Nat.{ℕ, ◌+◌, ◌*◌, ◌/◌, ◌<◌}
use native.Mathlib.Decide.{ℕ_discrete}
use native.Mathlib.Nat.{mul-add, mul-div_cancel}
use native.Mathlib.Omega.{arith}
use lib.Arith.{digits_lt}
use lib.Dec.{leb, ltb}
use lib.Ieee.{Float}
use lib.ListN.{drop, take-append-drop}
use lib.Seq.{length-take-le}
use borrow.Author.Tests.{eq-eqb, ne_eqb, lt-ltb, le-leb, leb-false, not-false}
use Rattle.counting.proofs.Facts.{both, both_parts, either_parts, passed, chained}
use Rattle.grid.specs.Grid.{subcarriers, element_of}
use Rattle.numerology.specs.Numerology.{group_of, group_ms, narrow_tones}
use Rattle.nprach.specs.declared.Window.{Window}
use Rattle.nprach.specs.declared.Windows.{Windows}
use Rattle.nprach.specs.Windows.{window_tones, is_read, is_listed, are_listed, shares_tone, overlaps, meets, is_clear, open_to, refusal_on}
use Rattle.nprach.specs.Meaning.{Meeting}
use Rattle.nprach.proofs.Listing.{listed_1, listed_2, listed_3, listed_4}
use Rattle.nprach.proofs.Meaning.{overlap_meets, meets_overlap}
use Rattle.nprach.proofs.Spaced.{accepted_windows}
use Rattle.bitmap.specs.Bitmap.{bytes_of}
use Rattle.cell.specs.declared.Cell.{Cell}
use Rattle.cell.specs.declared.Cause.{Cause}
use Rattle.cell.specs.declared.Cause.TheVariants.{None, Npbch, Npss, Nsss, Sib1, Message, Bitmap}
use Rattle.cell.specs.Bitmap.{own_buffer}
use Rattle.cell.specs.Usable.{free, why, none, usable, cause_number}
use Rattle.cell.specs.Judge.{judge_of, in_force_of, cause_of}
use Rattle.messages.proofs.Meaning.{all_laid}
use Rattle.cell.proofs.Accepted.{accepted_bitmap, accepted_messages, none_in_force}
use Rattle.cell.proofs.Taken.{usable_anchor, usable_other}
use Rattle.cell.proofs.Repeating.{free_again}
use Rattle.sending.specs.Sending.{Sending, Content, not_ours, content_at}
use Rattle.sending.specs.Answer.{back_of, back_at}
use Rattle.sending.proofs.Answer.{accepted, inside_at}
use Rattle.elements.specs.declared.Layout.{Layout}
use Rattle.elements.specs.Elements.{count_of}
use Rattle.elements.proofs.Laws.{all_used, count_some}
use Rattle.downlink.specs.declared.DownlinkBack.{DownlinkBack}
use Rattle.downlink.specs.declared.DownlinkPlace.{DownlinkPlace}
use Rattle.cell.specs.Layout.{layout_of, element_count_of}
use Rattle.downlink.specs.Mapping.{sent_subframes}
use Rattle.downlink.specs.Answers.{refused_place, place_of, inside_grid, refused_why, back_why}
use Rattle.npdsch.specs.declared.NpdschGrant.{NpdschGrant}
use Rattle.npdsch.specs.Refusals.{refusal_of}
use Rattle.npdsch.specs.Questions.{burst_of, forward_of, backward_of}
use Rattle.symbol.specs.Outgoing.{plus_zero, answer_of, numbers_of}
use Rattle.transmitted.specs.GoesOut.{goes_out, outgoing_of}
use Rattle.transmitted.specs.Scaffold.{sending_for}
use Rattle.transmitted.specs.Refusals.{late_refusal, call_refusal, element_refusal}
use Rattle.transmitted.specs.Element.{element_answer}
use Rattle.promises.specs.Further.{first, second, third, fourth, Shares, KeepsClear, Front, InForce, MessagesLaid, CauseTold, ElementTold}
use Rattle.promises.specs.Promises.{eligible_count}
use Rattle.cell.specs.Bitmap.{bitmap_of}
use Rattle.promises.proofs.Bridge.{ours_back, not_ours_back}

-- ---- windows

pub meeting : (ms : ℕ) (w : Window) (u : ℕ) → is_listed w ≡ true → (overlaps ms w u ≡ true) ↔ Meeting ms w u
meeting ms w u l = (overlap_meets ms w u l, meets_overlap ms w u l)

module _ (spacing tone tones : ℕ) (ws : Windows) (accepted : refusal_on spacing tone tones ws ≡ 0) (slot : ℕ)
    (is_open : open_to spacing tone tones ws (slot / group_of spacing) ≡ true) where
  abbrev a : ℕ
  a = narrow_tones spacing * tone

  abbrev n : ℕ
  n = narrow_tones spacing * tones

  abbrev u : ℕ
  u = slot / group_of spacing

  shares : (w : Window) → Shares spacing tone tones w → shares_tone a n w ≡ true
  shares w s =
      let x : a < w.tone + window_tones = omega (arith, s.granted, s.taken) in
      let y : w.tone < a + n = omega (arith, s.granted, s.taken, mul-add (narrow_tones spacing) tone tones) in
      both (ltb a (w.tone + window_tones)) (ltb w.tone (a + n)) (lt-ltb a (w.tone + window_tones) x) (lt-ltb w.tone (a + n) y)

  never : (read : Bool) (w : Window) → not (meets (group_ms spacing) a n read w u) ≡ true → read ≡ true → is_listed w ≡ true
      → Shares spacing tone tones w
      → Meeting (group_ms spacing) w u → ⊥
  never read w h r l s m =
      let f : false ≡ true = rw (r, shares w s, meets_overlap (group_ms spacing) w u l m) at h in
      let z : ◌≡◌ {A = ℕ} 0 1 = cc in omega arith

  abbrev is_free : ℕ → Window → Bool
  is_free j w = not (meets (group_ms spacing) a n (is_read ws j) w u)

  listed : are_listed ws ≡ true
  listed = (accepted_windows (group_ms spacing) a n ws accepted).0

  all_free : (is_free 1 ws.w1 ≡ true) × (is_free 2 ws.w2 ≡ true) × (is_free 3 ws.w3 ≡ true) × (is_free 4 ws.w4 ≡ true)
  unfolding is_clear
  all_free =
      let x = both_parts (is_free 1 ws.w1 && is_free 2 ws.w2) (is_free 3 ws.w3 && is_free 4 ws.w4) is_open in
      let y = both_parts (is_free 1 ws.w1) (is_free 2 ws.w2) x.0 in
      let z = both_parts (is_free 3 ws.w3) (is_free 4 ws.w4) x.1 in
      (y.0, y.1, z.0, z.1)

  -- an open group meets no window that is read and has one of the tones
  pub keeps_clear : KeepsClear spacing tone tones ws slot
  keeps_clear w (first h) = let r = le-leb 1 ws.count h in never (is_read ws 1) ws.w1 all_free.0 r (listed_1 ws listed r)
  keeps_clear w (second h) = let r = le-leb 2 ws.count h in never (is_read ws 2) ws.w2 all_free.1 r (listed_2 ws listed r)
  keeps_clear w (third h) = let r = le-leb 3 ws.count h in never (is_read ws 3) ws.w3 all_free.2 r (listed_3 ws listed r)
  keeps_clear w (fourth h) = let r = le-leb 4 ws.count h in never (is_read ws 4) ws.w4 all_free.3 r (listed_4 ws listed r)

-- ---- the bitmap in force

module _ (c : Cell) (anchor other : List ℕ) where
  front : judge_of c anchor other ≡ 0 → (own : List ℕ) → own_buffer c.config anchor other ≡ own
      → Front (bytes_of c.config.bits) own (in_force_of c anchor other)
  unfolding in_force_of
  front e own o =
      let n : ℕ = bytes_of c.config.bits in
      rw (eq-eqb (judge_of c anchor other) 0 e, o)
      (record {
        rest = drop n own;
        joined = sym (take-append-drop n own);
        size = length-take-le n own (rw o at (accepted_bitmap c anchor other e).long);
      })

  pub bitmap_in_force : InForce c (judge_of c anchor other) anchor other (in_force_of c anchor other)
  bitmap_in_force = record {
    on_anchor = λ e z. front e anchor (rw (eq-eqb c.config.carrier 0 z) refl);
    on_other = λ e z. front e other (rw (ne_eqb c.config.carrier 0 (λ y. omega arith)) refl);
    refused = λ h. sym (none_in_force c anchor other h);
  }

-- ---- messages

module _ (c : Cell) (anchor other : List ℕ) (e : judge_of c anchor other ≡ 0) where
  abbrev b : List ℕ
  b = bitmap_of c anchor other

  pub messages_laid : MessagesLaid c b
  messages_laid = record {
    laid = all_laid c.messages (accepted_messages c anchor other e) (free c.config b)
        (free_again c.config b (accepted_bitmap c anchor other e).listed);
    on_anchor = λ z t. usable_anchor c b t z;
    on_other = λ z t. usable_other c b t z;
  }

-- ---- the cause

none_or_some : (x : Cause) → (x ≡ None) ⊎ ((none x ≡ false) × (0 < cause_number x))
none_or_some None = inl refl
none_or_some Npbch = inr (refl, omega arith)
none_or_some Npss = inr (refl, omega arith)
none_or_some Nsss = inr (refl, omega arith)
none_or_some Sib1 = inr (refl, omega arith)
none_or_some Message = inr (refl, omega arith)
none_or_some Bitmap = inr (refl, omega arith)

pub no_cause : (x : Cause) → none x ≡ true → x ≡ None
no_cause x h = ⊎_elim (λ e. e) (λ s. let f = s.0 in let z : ◌≡◌ {A = ℕ} 0 1 = cc in absurd (omega arith)) (none_or_some x)

pub by_number : (x : Cause) → (cause_number x ≡ 0) ↔ (none x ≡ true)
by_number x = (λ n. ⊎_elim (λ e. ap none e) (λ s. absurd (omega arith)) (none_or_some x), λ h. ap cause_number (no_cause x h))

module _ (c : Cell) (anchor other : List ℕ) (t : ℕ) where
  pub cause_told : CauseTold (judge_of c anchor other) (usable c (bitmap_of c anchor other) t ≡ true) (cause_of c anchor other t)
  unfolding cause_of
  cause_told = by (ℕ_discrete (judge_of c anchor other) 0)
    where
      by : Dec (judge_of c anchor other ≡ 0)
          → CauseTold (judge_of c anchor other) (usable c (bitmap_of c anchor other) t ≡ true) (cause_of c anchor other t)
      by (yes e) = rw (eq-eqb (judge_of c anchor other) 0 e)
          (record { number = sym e; told = λ z. by_number (why c (bitmap_of c anchor other) t); refused = λ h. absurd (h e) })
      by (no h) = rw (ne_eqb (judge_of c anchor other) 0 h) (record { number = refl; told = λ e. absurd (h e); refused = λ z. refl })

-- ---- E, and where a transmitted subframe goes out

pub counted : (c : Cell) (anchor other : List ℕ) → judge_of c anchor other ≡ 0
    → element_count_of c anchor other ≡ record { no = 0; e = eligible_count c }
unfolding element_count_of
counted c anchor other e = rw (eq-eqb (judge_of c anchor other) 0 e) refl

some_eligible : (g : Layout) → 0 < count_of g 0 subcarriers
some_eligible g = count_some g 0 subcarriers (record { starts = refl; whole = refl; some = omega arith; inside = omega arith })

module _ (c : Cell) (anchor other : List ℕ) (g : NpdschGrant) (i : ℕ) where
  pub goes_at : refusal_of c anchor other g ≡ 0 → i < sent_subframes (burst_of c.config g)
      → (forward_of c anchor other g (i * eligible_count c)).t ≡ (sending_for c anchor other g).time i
  unfolding forward_of
  goes_at e h =
      let S : Sending = sending_for c anchor other g in
      rw (all_used (layout_of c.config))
      (ap (λ (r : DownlinkPlace). r.t)
      (accepted refused_place _ _ e ∙ inside_at refused_place place_of S (i * S.W) (omega (arith, digits_lt h (some_eligible (layout_of c.config)))))
      ∙ ap S.time (mul-div_cancel i (some_eligible (layout_of c.config))))

-- ---- one element

-- the numbers of what goes out where nothing is ours
pub kind_numbers : (bits : List ℕ) (level : Float) (kind : ℕ)
    → numbers_of (answer_of bits level (goes_out (not_ours kind))) ≡ record { no = 0; state = kind; re = plus_zero; im = plus_zero }
kind_numbers bits level kind = by (ℕ_discrete kind 0)
  where
    by : Dec (kind ≡ 0)
        → numbers_of (answer_of bits level (goes_out (not_ours kind))) ≡ record { no = 0; state = kind; re = plus_zero; im = plus_zero }
    by (yes e) = rw e refl
    by (no h) = rw (ne_eqb kind 0 h) refl

module _ (c : Cell) (anchor other : List ℕ) (g : NpdschGrant) (i slot l k : ℕ) (bits : List ℕ) (level : Float) where
  abbrev refusal : ℕ
  refusal = element_refusal c anchor other g i slot l k bits level

  abbrev S : Sending
  S = sending_for c anchor other g

  abbrev here : Content
  here = content_at S (S.time i) (element_of slot l k)

  answered : refusal ≡ 0 → element_answer c anchor other g i slot l k bits level ≡ answer_of bits level (goes_out here)
  unfolding element_answer outgoing_of
  answered e = rw (eq-eqb refusal 0 e) refl

  module _ (e : refusal ≡ 0) where
    -- the grant is accepted, the subframe is one of those sent, and the element inside the grid
    parts : (refusal_of c anchor other g ≡ 0) × (i < sent_subframes (burst_of c.config g)) × (inside_grid slot l k ≡ true)
    unfolding call_refusal late_refusal
    parts =
        let a = chained (refusal_of c anchor other g) _ e in
        let b = either_parts (leb (sent_subframes (burst_of c.config g)) i) (not (inside_grid slot l k)) (passed _ 14 _ (omega arith) a.1).0 in
        (a.0, leb-false _ _ b.0, not-false _ b.1)

    stands : (backward_of c anchor other g (forward_of c anchor other g (i * eligible_count c)).t slot l k).back ≡ back_of here
    unfolding backward_of back_why back_at
    stands =
        rw (goes_at c anchor other g i parts.0 parts.1)
        (ap (λ (r : DownlinkBack). r.back) (accepted refused_why _ _ parts.0) ∙ rw parts.2 refl)

  pub element_told : ElementTold refusal
      (backward_of c anchor other g (forward_of c anchor other g (i * eligible_count c)).t slot l k).back bits level
      (numbers_of (element_answer c anchor other g i slot l k bits level))
  unfolding element_answer
  element_told = record {
    refused = λ h. rw (ne_eqb refusal 0 h) refl;
    sent = λ s p e b. ap numbers_of (answered e)
        ∙ ap (λ (x : Content). numbers_of (answer_of bits level (goes_out x))) (ours_back here s p (sym (stands e) ∙ b));
    unsent = λ kind e b.
        ap numbers_of (answered e)
        ∙ ap (λ (x : Content). numbers_of (answer_of bits level (goes_out x))) (not_ours_back here kind (sym (stands e) ∙ b))
        ∙ kind_numbers bits level kind;
  }
