-- DEMAND 3 of NPBCH and of SIB1, in one period: both are bursts in all subframes that a channel has there.
use mathlib.Core.Bool.{Bool, true, false, cond, ◌&&◌}
use mathlib.Core.List.{List}
use mathlib.Core.Path.{◌≡◌, refl, sym, ap, ◌∙◌, subst⁻¹}
use Prim.Native.Nat.{ℕ, ◌+◌, ◌*◌, ◌/◌, ◌%◌, ◌<◌}
use native.Mathlib.Nat.{mod-mod, mod-eq_of_lt, div-lt_iff_lt-mul}
use native.Mathlib.Omega.{arith}
use lib.Dec.{eqb}
use borrow.Author.Tests.{eq-eqb, ne_eqb, eqb-true}
use Rattle.counting.specs.Counting.{rank, select}
use Rattle.counting.proofs.Facts.{both_parts}
use Rattle.counting.proofs.Rank.{rank_zero, rank_later}
use Rattle.counting.proofs.Select.{among_parts}
use Rattle.counting.proofs.Period.{test_split, select_is}
use Rattle.grid.specs.Grid.{subcarriers, element_of}
use Rattle.grid.proofs.Numbering.{inside}
use Rattle.sync.specs.Sync.{npbch, sib1}
use Rattle.cell.specs.declared.Cell.{Cell}
use Rattle.cell.specs.declared.Cause.{Cause}
use Rattle.cell.specs.declared.Cause.TheVariants.{Npbch, Sib1}
use Rattle.cell.specs.Bitmap.{own_buffer, bitmap_in}
use Rattle.cell.specs.Usable.{anchor_cause, why_unless, why}
use Rattle.cell.specs.Judge.{judge_of}
use Rattle.elements.proofs.Laws.{element_below, count_some, whole_part, all_used}
use Rattle.elements.proofs.Cases as elements
use Rattle.sending.specs.declared.Back.{Back}
use Rattle.sending.specs.Sending.{Sending, ours, not_ours, content_at}
use Rattle.sending.specs.Answer.{Question, refused_back, back_of, back_at, backward_by}
use Rattle.sending.specs.CopyOrder.{carried}
use Rattle.sending.specs.Demand.{Lawful}
use Rattle.sending.proofs.Answer.{accepted, forward_inside, forward_map}
use Rattle.downlink.specs.declared.DownlinkPlace.{DownlinkPlace}
use Rattle.downlink.specs.Fits.{Fits}
use Rattle.downlink.specs.Mapping.{sending_of, places, codeword_symbols}
use Rattle.downlink.specs.Cells.{question_refusal}
use Rattle.downlink.specs.Answers.{refused_place, place_of, inside_grid}
use Rattle.downlink.proofs.Lawfulness.{lawful}
use Rattle.broadcast.specs.Channels.{Channel, npbch_layout, npbch_of, sib1_layout, sib1_of}
use Rattle.broadcast.specs.Questions.{carrier_refusal, question_of, forward_of, backward_of}
use Rattle.broadcast.proofs.Channels as channels
use Rattle.broadcast.proofs.Channels.{Sent, npbch_sent, sib1_sent}
use Rattle.broadcast.proofs.Frames.{npbch_at, sib1_at}
use Rattle.promises.specs.Demand.{Forward, found, Answers, Granted, Demand}
use Rattle.promises.specs.Grids.{SubframePlace, downlink_columns}
use Rattle.promises.specs.Broadcast.{period_grid, channel_answers, ChannelDemand, Placed, sib1_count, BroadcastPromises}
use Rattle.promises.proofs.Bridge.{Numbered, answers_by, Sends, ours_back, demand, demand_back}
use Rattle.promises.proofs.Framed.{downlink_numbered}

-- ---- the grid of a period

period_numbered : (P : ℕ) → Numbered (period_grid P)
period_numbered P =
    let n = downlink_numbered in
    record {
      time = n.time;
      element = n.element;
      timed = n.timed;
      numbered = n.numbered;
      back = λ x i. n.back x i.1;
      is_inside = n.is_inside;
      inside_is = λ x i. n.inside_is x i.1;
      later = n.later;
      further = n.further;
    }

-- what is ours is sent
ours_sent : (b : Bool) (s p s' p' kind : ℕ) → cond b (ours s p) (not_ours kind) ≡ ours s' p' → b ≡ true
ours_sent true s p s' p' kind e = refl
ours_sent false s p s' p' kind e = let z : ◌≡◌ {A = ℕ} 0 1 = cc in absurd (omega arith)

back_sent : (S : Sending) (b : Bool) (t x s p : ℕ) → back_at S b t x ≡ back_of (ours s p) → S.sent t ≡ true
unfolding back_at
back_sent S true t x s p e =
    (both_parts (S.sent t) (S.used x) (ours_sent (S.sent t && S.used x) _ _ s p (S.kind t x) (ours_back (content_at S t x) s p e))).0
back_sent S false t x s p e = absurd (omega (arith, ap (λ (b : Back). b.no) e))

-- ---- a channel of an accepted anchor

module _ (c : Cell) (anchor other : List ℕ) (channel : Channel) (sent : Sent c.config channel) (j : judge_of c anchor other ≡ 0)
    (carrier : c.config.carrier ≡ 0) where
  abbrev u : ℕ → Bool
  u = channel.is_own

  abbrev P : ℕ
  P = channel.period

  abbrev q : Question
  q = question_of c anchor other channel

  abbrev S : Sending
  S = q.sending

  abbrev a : Answers SubframePlace
  a = channel_answers c anchor other channel

  zero : q.no ≡ 0
  unfolding question_refusal carrier_refusal
  zero = rw (j, eq-eqb c.config.carrier 0 carrier) refl

  f : Fits channel.burst
  f = channels.fits c anchor other channel sent zero channel.burst refl

  some : 0 < rank u P
  some = channels.some c anchor other channel sent zero channel.burst refl

  L : Lawful S channel.burst.codeword channel.burst.copies
  L = lawful u P sent.again some channel.burst f

  -- counted from subframe 0
  time_is : (i : ℕ) → S.time i ≡ select u P 0 i
  time_is = channels.time_is c anchor other channel sent zero channel.burst refl

  -- all that is sent lies in the period
  within : (i : ℕ) → i < S.K → S.time i < P
  within i h =
      rank_later u (S.time i) P (omega (arith, ap (rank u) (time_is i), (select_is u P sent.again some 0 i).before, rank_zero u, sent.all))

  -- a position below the places, W of them to a subframe
  placed_at : (W p t symbol : ℕ) → S.W ≡ W → p < S.K * W → select u P 0 (p / W) ≡ t → S.carry (p / W) * W + p % W ≡ symbol
      → Placed c anchor other channel p t symbol
  unfolding forward_of
  placed_at W p t symbol w h et es =
      let e = forward_inside refused_place place_of q p zero (omega (arith, ap (λ (y : ℕ). S.K * y) w)) in
      record {
        there = ap (λ (x : DownlinkPlace). x.t) e ∙ time_is (p / S.W) ∙ ap (λ (y : ℕ). select u P 0 (p / y)) w ∙ et;
        carries = ap (λ (x : DownlinkPlace). x.symbol) e ∙ ap (λ (y : ℕ). S.carry (p / y) * y + p % y) w ∙ es;
      }

  sends : Sends (period_grid P) S channel.burst.codeword channel.burst.copies
  sends = record {
    lawful = L;
    units = f.codeword;
    copies = f.copies;
    inside = λ i e k h.
        (within i k, inside _ (element_below channel.burst.layout channel.burst.low channel.burst.width e h));
  }

  backward_is : (x : SubframePlace) → (period_grid P).Inside x → a.backward x ≡ (answers_by (period_grid P) (period_numbered P) q).backward x
  unfolding backward_of period_numbered downlink_numbered
  backward_is x h = ap (λ (t : ℕ). backward_by q (inside_grid x.slot x.l x.k) t (element_of x.slot x.l x.k)) (mod-eq_of_lt h.0)

  answers_are : a ≡ record {
    places = (answers_by (period_grid P) (period_numbered P) q).places;
    forward = (answers_by (period_grid P) (period_numbered P) q).forward;
    backward = a.backward;
  }
  unfolding forward_of
  answers_are = λ i. record {
    places = sym (accepted (λ m. 0) q.no (places channel.burst) zero) i;
    forward = λ p. forward_map downlink_columns refused_place place_of q p i;
    backward = a.backward;
  }

  own_when_ours : (x : SubframePlace) (s p : ℕ) → a.backward x ≡ back_of (ours s p) → u x.t ≡ true
  unfolding backward_of
  own_when_ours x s p e =
      let b : back_at S (inside_grid x.slot x.l x.k) (x.t % P) (element_of x.slot x.l x.k) ≡ back_of (ours s p) =
      sym (accepted refused_back q.no _ zero) ∙ e in
      test_split u P sent.again x.t ∙ (among_parts u _ _ (x.t % P) (back_sent S _ (x.t % P) _ s p b)).1

  module _ (cause : Cause) (taken : (t : ℕ) → u t ≡ true → why c (bitmap_in c.config (own_buffer c.config anchor other)) t ≡ cause)
      (copies symbols : ℕ) (r : copies ≡ channel.burst.copies) (w : symbols ≡ codeword_symbols channel.burst) where
    abbrev g : Granted
    g = record { copies = copies; symbols = symbols; sending = S }

    d : Demand (period_grid P) g a
    d =
        subst⁻¹ (Demand (period_grid P) g) answers_are
        (demand_back (period_grid P) g (answers_by (period_grid P) (period_numbered P) q) a.backward backward_is
        (demand (period_grid P) (period_numbered P) q zero _ _ sends copies symbols r w))

    channel_demand : ChannelDemand c (bitmap_in c.config (own_buffer c.config anchor other)) P cause g a
    unfolding backward_of
    channel_demand = record {
      demand = d;
      again = λ x. ap (λ (t : ℕ). backward_by q (inside_grid x.slot x.l x.k) t (element_of x.slot x.l x.k)) (sym (mod-mod x.t P));
      apart = λ x s p e. taken x.t (own_when_ours x s p e);
      caused = λ p h.
          let e = d.placed p h in
          taken _ (own_when_ours (a.forward p).place (a.forward p).symbol p
          ((d.exactly (a.forward p).place (d.inside p h) (a.forward p).symbol p).1
          (e ∙ sym (ap (λ (y : Forward SubframePlace). found y.place y.symbol) e))));
    }

-- ---- the causes

module _ (c : Cell) (bitmap : List ℕ) (t : ℕ) (carrier : c.config.carrier ≡ 0) where
  npbch_cause : npbch t ≡ true → why c bitmap t ≡ Npbch
  unfolding why_unless anchor_cause
  npbch_cause h = rw (eq-eqb c.config.carrier 0 carrier, h) refl

  -- subframe 4 is no other's
  sib1_cause : sib1 c.config.identity c.config.sib1 t ≡ true → why c bitmap t ≡ Sib1
  unfolding why_unless anchor_cause
  sib1_cause h =
      let four = eqb-true (t % 10) 4 (both_parts (eqb (t % 10) 4) _ h).0 in
      rw (
        eq-eqb c.config.carrier 0 carrier,
        ne_eqb (t % 10) 0 (λ z. omega arith),
        ne_eqb (t % 10) 5 (λ z. omega arith),
        ne_eqb (t % 10) 9 (λ z. omega arith),
        h,
      ) refl

-- ---- E, and the copy order of SIB1

npbch_count : (c : Cell) → (sending_of npbch 640 (npbch_of c.config).burst).W ≡ 100
npbch_count c = sym (all_used (npbch_layout c.config)) ∙ (elements.cases).four_ports (c.config.identity % 6) (omega arith)

sib1_some : (c : Cell) → 0 < sib1_count c
sib1_some c = omega (arith, all_used (sib1_layout c.config), count_some (sib1_layout c.config) 0 subcarriers whole_part)

in_turn : (i : ℕ) → carried 1 1 8 i ≡ i % 8
in_turn i = omega arith

pub broadcasting : BroadcastPromises
broadcasting = record {
  npbch = λ c anchor other j e.
      channel_demand c anchor other (npbch_of c.config) (npbch_sent c.config) j e Npbch (λ t h. npbch_cause c _ t e h) 8 800 refl
      (sym (ap (λ (n : ℕ). 8 * n) (npbch_count c)));
  sib1 = λ c anchor other j e.
      channel_demand c anchor other (sib1_of c.config) (sib1_sent c.config) j e Sib1 (λ t h. sib1_cause c _ t e h) _ _ refl
      (ap (λ (n : ℕ). 8 * n) (all_used (sib1_layout c.config)));
  blocks = λ c anchor other j e p h.
      placed_at c anchor other (npbch_of c.config) (npbch_sent c.config) j e 100 p _ _ (npbch_count c) h
      (npbch_at (p / 100) (omega arith)) (omega arith);
  in_sequence = λ c anchor other j e p h.
      placed_at c anchor other (sib1_of c.config) (sib1_sent c.config) j e (sib1_count c) p _ _
      (sym (all_used (sib1_layout c.config))) h
      (sib1_at c.config.identity c.config.sib1 (p / sib1_count c) ((div-lt_iff_lt-mul (sib1_some c)).1 h))
      (ap (λ (x : ℕ). x * sib1_count c + p % sib1_count c) (in_turn (p / sib1_count c)));
}
