-- A channel of a cell, and the answers of a question on it: by closed forms of the subframe and of its index.
use mathlib.Core.Bool.{Bool, true, false, cond}
use mathlib.Core.List.{List}
use mathlib.Core.Logic.{⊎_elim}
use mathlib.Core.Path.{◌≡◌, refl, sym, ap, ◌∙◌, subst}
use Prim.Native.Nat.{ℕ, zero, suc, ◌+◌, ◌-◌, ◌/◌, ◌%◌, ◌^◌, ◌≤◌, ◌<◌}
use native.Mathlib.Nat.{mod-lt, mod-one, mul-pos, zero-add}
use native.Mathlib.Omega.{arith}
use lib.Dec.{eqb, leb, ltb}
use Rattle.std.specs.Prelude.{Result, IsErrAnd, Option, None, Some, MatchOption}
use Rattle.std.proofs.lemmas.Result.{err_from_is_err_and}
use Rattle.refusals.specs.declared.Refusal.{Refusal}
use Rattle.refusals.specs.declared.Refusal.TheVariants.{NoSuchPlace}
use Rattle.refusals.specs.Refusal.{number_of}
use Rattle.refusals.proofs.Numbers.{never_0}
use Rattle.broadcast.specs.declared.Position.{Position}
use Rattle.broadcast.specs.Quick.{width_of, LiesAt, IsIndex, place_refusal}
use Rattle.counting.specs.Counting.{rank, count, select, among_first}
use Rattle.counting.proofs.Facts.{order, chained}
use Rattle.counting.proofs.Range.{and_none}
use Rattle.counting.proofs.Rank.{rank_zero, rank_strict, count_between}
use Rattle.counting.proofs.Select.{among}
use Rattle.counting.proofs.Period.{select_is, select_from}
use Rattle.grid.specs.Grid.{element_of}
use Rattle.sync.specs.Sync.{by_schedule, sib1_copies}
use Rattle.sync.proofs.Broadcast.{npbch_again, npbch_rank, sib1_again, sib1_rank}
use Rattle.cell.specs.declared.CellConfig.{CellConfig}
use Rattle.cell.specs.declared.Cell.{Cell}
use Rattle.cell.specs.Judge.{judge_of}
use Rattle.cell.specs.Quick.{WellFormed}
use Rattle.cell.proofs.Accepted.{layout_valid}
use Rattle.elements.proofs.Laws.{whole_part}
use Rattle.sending.specs.declared.Back.{Back}
use Rattle.sending.specs.CopyOrder.{carried}
use Rattle.sending.specs.Sending.{not_ours}
use Rattle.sending.specs.Answer.{Question, answer_of, back_of, refused_back, place_at, back_at}
use Rattle.sending.proofs.Answer.{accepted, refused_as, past_at}
use Rattle.downlink.specs.declared.Burst.{Burst}
use Rattle.downlink.specs.Fits.{Fits}
use Rattle.downlink.specs.Mapping.{sent_subframes, first_of, is_sent, sending_of, places}
use Rattle.downlink.specs.Cells.{question_refusal}
use Rattle.downlink.specs.Answers.{refused_place, place_of, inside_grid}
use Rattle.downlink.specs.declared.DownlinkPlace.{DownlinkPlace}
use Rattle.downlink.specs.Quick.{content_in, told}
use Rattle.downlink.proofs.Judging.{accepted_cell}
use Rattle.downlink.proofs.Joined.{forward_is, backward_unsent, backward_sent}
use Rattle.broadcast.specs.Channels.{Channel, npbch_of, sib1_of}
use Rattle.broadcast.specs.Questions.{carrier_refusal, question_of, forward_of, backward_of}

-- a channel of cell c sends in every one of its subframes of a period
pub record Sent (c : CellConfig) (channel : Channel) : Type 0 where
  pub again : (t : ℕ) → channel.is_own (t + channel.period) ≡ channel.is_own t
  pub all : rank channel.is_own channel.period ≡ sent_subframes channel.burst
  pub start : (channel.burst.from ≡ 0) × (channel.burst.skip ≡ 0)
  pub fits : WellFormed c → Fits channel.burst

-- ---- the answers of a question on it, by what the code has worked out

-- the question's refusal, or 14
refused_place_by : (z inside : Bool) (n : ℕ) (x : Back) (e : ℕ) → (e ≡ 0 → ⊥) → e ≡ cond z (cond inside 0 14) n
    → refused_back e ≡ cond z (cond inside x (refused_back 14)) (refused_back n)
refused_place_by true true n x e h f = absurd (h f)
refused_place_by true false n x e h f = ap refused_back f
refused_place_by false inside n x e h f = ap refused_back f

pub place_accepted : (n : ℕ) (inside : Bool) → 0 ≡ place_refusal n inside → (n ≡ 0) × (inside ≡ true)
unfolding place_refusal
place_accepted n true e = ((chained n 0 (sym e)).0, refl)
place_accepted n false e = absurd (omega (arith, (chained n 14 (sym e)).1))

-- an index that was found is small
pub index_small : (u : ℕ → Bool) (P t : ℕ) (r : Option ℕ) → IsIndex u P t r → (n : ℕ) → r ≡ Some n → n ≤ 2 ^ 20
index_small u P t r h n e = (rw e at h).2

module _ (c : Cell) (anchor other : List ℕ) (channel : Channel) (sent : Sent c.config channel) where
  abbrev u : ℕ → Bool
  u = channel.is_own

  abbrev P : ℕ
  P = channel.period

  abbrev q : Question
  q = question_of c anchor other channel

  -- at the exit of a `?` on the question
  pub forward_refused : (e : Refusal) (r : Result DownlinkPlace Refusal) → IsErrAnd r (λ y. y ≡ e) → number_of e ≡ q.no → (p : ℕ)
      → told refused_place r ≡ forward_of c anchor other channel p
  unfolding forward_of
  forward_refused e r h f p =
      let x = err_from_is_err_and r h in
      rw (x.1, x.2) (refused_as refused_place (λ S. place_at refused_place place_of S p) q (number_of e) f (never_0 e))

  -- a question on a place
  module _ (t slot l k : ℕ) where
    pub backward_refused : (e : Refusal) → number_of e ≡ place_refusal q.no (inside_grid slot l k)
        → refused_back (number_of e) ≡ backward_of c anchor other channel t slot l k
    unfolding backward_of place_refusal back_at answer_of
    backward_refused e f = refused_place_by (eqb q.no 0) (inside_grid slot l k) q.no _ (number_of e) (never_0 e) f

  -- an accepted one, with the burst that the code made
  module _ (zero : q.no ≡ 0) (b : Burst) (own : b ≡ channel.burst) where
    pub fits : Fits b
    unfolding question_refusal
    fits = subst Fits (sym own) (sent.fits (accepted_cell c anchor other (chained (judge_of c anchor other) (carrier_refusal c.config) zero).0))

    pub some : 0 < rank u P
    some = omega (arith, sent.all, ap sent_subframes own, mul-pos fits.copies fits.codeword)

    all : rank u P ≡ sent_subframes b
    all = sent.all ∙ sym (ap sent_subframes own)

    -- counted from subframe 0
    pub time_is : (i : ℕ) → select u P (first_of u P b) i ≡ select u P 0 i
    time_is i =
        rw (ap (λ (b : Burst). b.from) own ∙ sent.start.0, ap (λ (b : Burst). b.skip) own ∙ sent.start.1)
        (select_from u P sent.again some 0 0 i ∙ ap (select u P 0) (zero-add i))

    -- the last of its subframes is below the period's number of them
    pub index_below : (r : Position) (p : ℕ) → LiesAt b p r → r.i < rank u P
    index_below r p a = omega (arith, a.sent, all)

    module _ (p : ℕ) where
      shown : place_at refused_place place_of (sending_of u P b) p ≡ forward_of c anchor other channel p
      unfolding forward_of
      shown =
          ap (λ (b : Burst). place_at refused_place place_of (sending_of u P b) p) own
          ∙ sym (accepted refused_place q.no (place_at refused_place place_of q.sending p) zero)

      -- past the last place, at the exit of a `?`
      pub forward_past : (e : Refusal) (r : Result DownlinkPlace Refusal) → IsErrAnd r (λ y. y ≡ e) → e ≡ NoSuchPlace → places b ≤ p
          → told refused_place r ≡ forward_of c anchor other channel p
      forward_past e r i f h =
          let x = err_from_is_err_and r i in
          rw (x.1, x.2, f) (sym (past_at refused_place place_of (sending_of u P b) p h) ∙ shown)

      -- by where the position lies
      pub forward_at : (r : Position) → LiesAt b p r → (t : ℕ) → t ≡ select u P 0 r.i
          → place_of (record { time = t; element = r.x; symbol = r.symbol }) ≡ forward_of c anchor other channel p
      forward_at r a t h =
          forward_is u P b p (width_of b) t r.x (carried b.consecutive 1 b.codeword (p / width_of b)) r.symbol a.held refl
          (h ∙ ap (select u P 0) a.i ∙ sym (time_is (p / width_of b))) a.x refl a.symbol
          ∙ shown

    module _ (t slot l k : ℕ) where
      shown_back : back_at (sending_of u P b) (inside_grid slot l k) (t % P) (element_of slot l k) ≡ backward_of c anchor other channel t slot l k
      unfolding backward_of
      shown_back =
          ap (λ (b : Burst). back_at (sending_of u P b) (inside_grid slot l k) (t % P) (element_of slot l k)) own
          ∙ sym (accepted refused_back q.no (back_at q.sending (inside_grid slot l k) (t % P) (element_of slot l k)) zero)

      module _ (inside : inside_grid slot l k ≡ true) where
        absent : u (t % P) ≡ false → is_sent u P b (t % P) ≡ false
        unfolding among_first
        absent h = simp (h, and_none (leb (first_of u P b) (t % P)))

        pub backward_not : u (t % P) ≡ false → back_of (not_ours 0) ≡ backward_of c anchor other channel t slot l k
        backward_not h = backward_unsent u P b (t % P) slot l k inside (absent h) ∙ shown_back

        -- all that is the channel's in a period is sent
        module _ (y : u (t % P) ≡ true) (below : t % P < P) where
          first_rank : rank u (first_of u P b) ≡ 0
          first_rank =
              let z : first_of u P b ≡ select u P 0 0 = rw (ap (λ (b : Burst). b.from) own ∙ sent.start.0, ap (λ (b : Burst). b.skip) own ∙ sent.start.1) refl in
              omega (arith, ap (rank u) z, (select_is u P sent.again some 0 0).before, rank_zero u)

          late : first_of u P b ≤ t % P
          late =
              ⊎_elim (λ (h : t % P < first_of u P b). absurd (omega (arith, rank_strict u (t % P) (first_of u P b) y h, first_rank))) (λ h. h)
              (order (t % P) (first_of u P b))

          index_is : count u (first_of u P b) (t % P - first_of u P b) ≡ rank u (t % P)
          index_is = omega (arith, count_between u (first_of u P b) (t % P) late, first_rank)

          pub backward_at : (i : ℕ) → i ≡ rank u (t % P) → (r : Back) → r ≡ back_of (content_in b i (element_of slot l k))
              → r ≡ backward_of c anchor other channel t slot l k
          backward_at i e r h =
              h ∙ backward_sent u P b (t % P) slot l k inside i (element_of slot l k)
              (among u (first_of u P b) (sent_subframes b) (t % P) late y (omega (arith, index_is, rank_strict u (t % P) P y below, all)))
              (index_is ∙ sym e) refl ∙ shown_back

        -- by which of its subframes t is, if any
        pub backward_standing : 0 < P → (r : Option ℕ) → IsIndex u P t r → (x : Back)
            → MatchOption r (x ≡ back_of (not_ours 0)) (λ n. x ≡ back_of (content_in b n (element_of slot l k)))
            → x ≡ backward_of c anchor other channel t slot l k
        backward_standing z None h x e = e ∙ backward_not h
        backward_standing z (Some n) h x e = backward_at h.0 (mod-lt t z) n h.1 x e

-- ---- the two channels

pub npbch_sent : (c : CellConfig) → Sent c (npbch_of c)
npbch_sent c = record {
  again = npbch_again;
  all = npbch_rank;
  start = (refl, refl);
  fits = λ w. record {
    layout = record { shift = omega arith; narrowband = (omega arith, omega arith); cell = (omega arith, λ z. omega arith); region = omega arith };
    part = whole_part;
    codeword = omega arith;
    copies = omega arith;
    consecutive = omega arith;
    passes = refl;
    from_small = omega arith;
    skip_small = omega arith;
    codeword_small = omega arith;
    copies_small = omega arith;
    consecutive_small = omega arith;
  };
}

-- 4, 8 or 16
pub copies_few : (r : ℕ) → (0 < by_schedule r 4 8 16) × (by_schedule r 4 8 16 ≤ 16)
copies_few zero = (omega arith, omega arith)
copies_few (suc zero) = (omega arith, omega arith)
copies_few (suc (suc r)) = (omega arith, omega arith)

region_small : (b : Bool) → cond b 3 0 ≤ 3
region_small true = omega arith
region_small false = omega arith

pub sib1_sent : (c : CellConfig) → Sent c (sib1_of c)
sib1_sent c = record {
  again = sib1_again c.identity c.sib1;
  all = sib1_rank c.identity c.sib1;
  start = (refl, refl);
  fits = λ w.
      let v = layout_valid c w in
      let few = copies_few (c.sib1 % 3) in
      record {
        layout = record { shift = v.shift; narrowband = v.narrowband; cell = v.cell; region = region_small (ltb c.mode 2) };
        part = whole_part;
        codeword = omega arith;
        copies = few.0;
        consecutive = omega arith;
        passes = mod-one (sib1_copies c.sib1);
        from_small = omega arith;
        skip_small = omega arith;
        codeword_small = omega arith;
        copies_small = omega (arith, few.1);
        consecutive_small = omega arith;
      };
}
