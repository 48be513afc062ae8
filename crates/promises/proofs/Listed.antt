-- P1 to P11 and the cases of L1, of L4 to L7 and of L9 hold.
use mathlib.Core.Bool.{Bool, true, false, cond}
use mathlib.Core.List.{List, [], ◌∷◌, map}
use mathlib.Core.Path.{◌≡◌, refl, ap, ◌∙◌, fun_ext}
use mathlib.Core.Logic.{inl, inr, ⊎_elim}
use Prim.Native.Nat.{ℕ, ◌*◌, ◌%◌, ◌≤◌, ◌<◌}
use native.Mathlib.Omega.{arith}
use lib.Dec.{eqb, ltb}
use lib.ListN.{length}
use borrow.Author.Tests.{eq-eqb, ne_eqb, le-ltb}
use Rattle.counting.specs.Counting.{rank, next, select}
use Rattle.grid.specs.Grid.{subcarriers}
use Rattle.grid.specs.Tables.{downlink_delay, is_repetition}
use Rattle.bitmap.specs.Bitmap.{bytes_of, listed_length, bad_bitmap, allowed}
use Rattle.cell.specs.declared.Cell.{Cell}
use Rattle.cell.specs.Bitmap.{own_buffer}
use Rattle.messages.specs.Messages.{wants, since, in_window, remains, remaining, is_message, is_listed, are_listed, no_messages}
use Rattle.messages.specs.Cases as shown
use Rattle.cell.specs.Usable.{period, anchor_cause, free, why_unless, why, usable, cause_number}
use Rattle.cell.specs.Judge.{numbers_refusal, config_refusal, form_refusal, none_allowed, none_usable, use_refusal, cell_refusal, judge_of, cause_of}
use Rattle.cell.proofs.Taken.{unlaid}
use Rattle.cell.proofs.Cases as cell
use Rattle.elements.specs.Elements.{nrs, crs, eligible, used}
use Rattle.elements.proofs.Laws.{all_used}
use Rattle.elements.proofs.Cases as elements
use Rattle.sending.specs.Sending.{Sending, spot_at}
use Rattle.sending.specs.Answer.{extent_of, place_at}
use Rattle.sending.proofs.Answer.{accepted, inside_at}
use Rattle.downlink.specs.declared.DownlinkPlan.{DownlinkPlan}
use Rattle.cell.specs.declared.ElementCount.{ElementCount}
use Rattle.cell.specs.declared.CauseAnswer.{CauseAnswer}
use Rattle.downlink.specs.Cells.{fields_refusal, question_refusal}
use Rattle.cell.specs.Layout.{layout_of, element_count_of}
use Rattle.downlink.specs.Mapping.{sending_of}
use Rattle.downlink.specs.Answers.{refused_plan, plan_shown, refused_place, place_of}
use Rattle.npdsch.specs.Refusals.{grant_refusal, refusal_of}
use Rattle.npdsch.specs.Questions.{burst_of, plan_of, forward_of}
use Rattle.npusch.proofs.Cases as uplink
use Rattle.npusch.proofs.WindowCases.{window_cases}
use Rattle.harq_ack.proofs.Cases as ack
use Rattle.messages.proofs.Cases as messages
use Rattle.promises.specs.Promises.{eligible_count}
use Rattle.cell.specs.Cases.{anchor_cell}
use Rattle.search_space.proofs.Cases as search
use Rattle.broadcast.proofs.Cases as broadcast
use Rattle.promises.specs.Cases.{Unmapped, OneOrTwo, eight_subframes, sent_in, zero_and_five, only_four, nothing, message_cell, is_message_in, Cases}
use Rattle.promises.proofs.Further.{counted, goes_at}

-- ---- P1

module _ (c : Cell) (anchor other : List ℕ) (u : Unmapped c) where
  judged : judge_of c anchor other ≡ 0
  unfolding judge_of
  judged = cell.unmapped c (own_buffer c.config anchor other) u.numbers u.messages.listed u.messages.none u.bits

  -- E by the ports and the control region, at any shift
  count_is : (nports cports control n : ℕ) → ((v : ℕ) → v < 6 → elements.eligible_at nports cports control v ≡ n) → c.config.cports ≡ cports
      → c.config.control ≡ control
      → c.config.nports ≡ nports → element_count_of c anchor other ≡ record { no = 0; e = n }
  count_is nports cports control n e p l h =
      counted c anchor other judged ∙ ap (λ (x : ℕ). record { no = 0; e = x }) (rw (h, p, l) (e (c.config.identity % 6) (omega arith)))

-- ---- P7 to P9

listed : are_listed no_messages ≡ true
unfolding are_listed
listed = refl

-- with delay field 0, Rmax does not matter
no_delay : (rmax : ℕ) → downlink_delay rmax 0 ≡ 0
unfolding downlink_delay
no_delay rmax = by (ltb rmax 128)
  where
    by : (b : Bool) → ◌≡◌ {A = ℕ} (cond b 0 0) 0
    by true = refl
    by false = refl

-- what is sent after so many usable subframes from subframe 20 on; with no messages those that are free
abbrev after_in : (ℕ → Bool) → ℕ → ℕ → Sending
after_in u nports skip =
    sending_of u period
    (record {
      layout = layout_of (anchor_cell nports).config;
      low = 0;
      width = subcarriers;
      from = 20;
      skip = skip;
      codeword = 8;
      copies = 1;
      consecutive = 1;
    })

abbrev after : ℕ → ℕ → Sending
after nports = after_in (free (anchor_cell nports).config []) nports

module _ (nports : ℕ) (anchor other : List ℕ) (ports : OneOrTwo nports) where
  abbrev c : Cell
  c = anchor_cell nports

  plain : Unmapped c
  unfolding numbers_refusal
  plain = record {
    numbers = ⊎_elim (λ e. rw e refl) (λ e. rw e refl) ports;
    messages = record { listed = listed; none = refl };
    bits = refl;
  }

  -- with no messages what is free is usable
  same : usable c [] ≡ free c.config []
  same = fun_ext (λ t. unlaid c [] t refl)

  module _ (delay rmax : ℕ) (d : delay ≤ 7) (r : is_repetition rmax ≡ true) where
    unrefused : refusal_of c anchor other (eight_subframes delay rmax) ≡ 0
    unfolding question_refusal fields_refusal grant_refusal
    unrefused = rw (judged c anchor other plain, le-ltb 7 delay d, r) refl

    planned : plan_of c anchor other (eight_subframes delay rmax) ≡ plan_shown (extent_of (after nports (downlink_delay rmax delay)))
    unfolding plan_of bytes_of
    planned =
        accepted refused_plan _ _ unrefused
        ∙ ap (λ (u : ℕ → Bool). plan_shown (extent_of (sending_of u period (burst_of c.config (eight_subframes delay rmax))))) same

    placed : (p : ℕ) → p < 8 * eligible_count c
        → forward_of c anchor other (eight_subframes delay rmax) p ≡ place_of (spot_at (after nports (downlink_delay rmax delay)) p)
    unfolding forward_of bytes_of
    placed p h =
        accepted refused_place _ _ unrefused
        ∙ ap (λ (u : ℕ → Bool). place_at refused_place place_of (sending_of u period (burst_of c.config (eight_subframes delay rmax))) p) same
        ∙ inside_at refused_place place_of (after nports (downlink_delay rmax delay)) p (rw all_used at h)

    sent : (i : ℕ) → i < 8 → sent_in c anchor other (eight_subframes delay rmax) i ≡ (after nports (downlink_delay rmax delay)).time i
    unfolding bytes_of
    sent i h =
        ap (λ (x : ElementCount). (forward_of c anchor other (eight_subframes delay rmax) (i * x.e)).t)
        (counted c anchor other (judged c anchor other plain))
        ∙ goes_at c anchor other (eight_subframes delay rmax) i unrefused h
        ∙ ap (λ (u : ℕ → Bool). (sending_of u period (burst_of c.config (eight_subframes delay rmax))).time i) same

  -- the first usable ones from 20 on
  seventh : (rmax : ℕ) → is_repetition rmax ≡ true → (i : ℕ) → i < 8
      → sent_in c anchor other (eight_subframes 0 rmax) i ≡ (after nports 0).time i
  seventh rmax r i h = sent 0 rmax (omega arith) r i h ∙ ap (λ (skip : ℕ). (after nports skip).time i) (no_delay rmax)

-- computed, whatever the ports
times : (nports : ℕ) → map (after nports 0).time (0 ∷ 1 ∷ 2 ∷ 3 ∷ 4 ∷ 5 ∷ 6 ∷ 7 ∷ []) ≡ 21 ∷ 22 ∷ 23 ∷ 26 ∷ 27 ∷ 28 ∷ 31 ∷ 32 ∷ []
unfolding next select allowed free anchor_cause
times nports = refl

delayed : (nports : ℕ) → ((after nports (downlink_delay 64 1)).time 0 ≡ 27) × ((after nports (downlink_delay 128 1)).time 0 ≡ 43)
unfolding next select allowed free anchor_cause downlink_delay
delayed nports = (refl, refl)

repetitions : (is_repetition 64 ≡ true) × (is_repetition 128 ≡ true)
unfolding is_repetition
repetitions = (refl, refl)

-- with one port or two
plans : (plan_shown (extent_of (after 1 0)) ≡ record { no = 0; first = 21; last = 32; copies = 1; places = 1280 })
    × (plan_shown (extent_of (after 2 0)) ≡ record { no = 0; first = 21; last = 32; copies = 1; places = 1216 })
unfolding rank next select nrs crs eligible used allowed free anchor_cause
plans = (refl, refl)

ninth : (place_of (spot_at (after 1 0) 60) ≡ record { no = 0; t = 21; slot = 0; l = 5; k = 1; symbol = 60 })
    × (place_of (spot_at (after 1 0) 73) ≡ record { no = 0; t = 21; slot = 0; l = 6; k = 4; symbol = 73 })
unfolding rank next select nrs crs eligible used allowed free anchor_cause
ninth = (refl, refl)

module _ (rmax : ℕ) (anchor other : List ℕ) (r : is_repetition rmax ≡ true) where
  plan_at : (nports : ℕ) → OneOrTwo nports
      → plan_of (anchor_cell nports) anchor other (eight_subframes 0 rmax) ≡ plan_shown (extent_of (after nports 0))
  plan_at nports h =
      planned nports anchor other h 0 rmax (omega arith) r ∙ ap (λ (skip : ℕ). plan_shown (extent_of (after nports skip))) (no_delay rmax)

  place_at_lem : (p : ℕ) → p < 1280 → forward_of (anchor_cell 1) anchor other (eight_subframes 0 rmax) p ≡ place_of (spot_at (after 1 0) p)
  place_at_lem p h =
      placed 1 anchor other (inl refl) 0 rmax (omega arith) r p (omega (arith, (elements.cases).standalone_one 0 (omega arith)))
      ∙ ap (λ (skip : ℕ). place_of (spot_at (after 1 skip) p)) (no_delay rmax)

-- ---- P10 and P11: only the carrier's own buffer is read

own_anchor : (c : Cell) (anchor other : List ℕ) → c.config.carrier ≡ 0 → judge_of c anchor other ≡ cell_refusal c anchor
unfolding judge_of
own_anchor c anchor other e = rw (eq-eqb c.config.carrier 0 e) refl

own_other : (c : Cell) (anchor other : List ℕ) → c.config.carrier ≡ 1 → judge_of c anchor other ≡ cell_refusal c other
unfolding judge_of
own_other c anchor other e = rw (ne_eqb c.config.carrier 0 (λ z. omega arith)) refl

-- ---- L5

-- the first copy has its eight before subframe 13
thirteenth : usable message_cell [] 13 ≡ true
unfolding why_unless free anchor_cause allowed is_message remaining remains since in_window wants
thirteenth = refl

-- of the first 27, and what is sent
taken : shown.listed (λ t. eqb (cause_number (why message_cell [] t)) 5) 27 ≡ 26 ∷ 23 ∷ 22 ∷ 21 ∷ 12 ∷ 11 ∷ 8 ∷ 7 ∷ 6 ∷ 3 ∷ 2 ∷ 1 ∷ []
unfolding why_unless free anchor_cause allowed is_message remaining remains since in_window wants
taken = refl

sent_around : plan_shown (extent_of (after_in (usable message_cell []) 1 0))
    ≡ record { no = 0; first = 33; last = 54; copies = 1; places = 1280 }
unfolding rank next select nrs crs eligible used why_unless free anchor_cause allowed is_message remaining remains since in_window wants
sent_around = refl

formed : (numbers_refusal message_cell.config ≡ 0) × (are_listed message_cell.messages ≡ true)
unfolding numbers_refusal are_listed is_listed
formed = (refl, refl)

no_bitmap : (own : List ℕ) → bad_bitmap 0 own ≡ false
unfolding bad_bitmap listed_length bytes_of
no_bitmap own = rw (le-ltb (length own) 0 (omega arith)) refl

module _ (anchor other : List ℕ) where
  accepted_with : judge_of message_cell anchor other ≡ 0
  unfolding judge_of cell_refusal form_refusal config_refusal use_refusal bytes_of allowed
  accepted_with =
      let a : none_allowed message_cell anchor ≡ false = cell.some_pass _ 0 (omega arith) refl in
      let u : none_usable message_cell anchor ≡ false = cell.some_pass (usable message_cell []) 13 (omega arith) thirteenth in
      rw (formed.0, no_bitmap anchor, formed.1, a, u) refl

  caused : (t : ℕ) → cause_of message_cell anchor other t ≡ record { no = 0; cause = why message_cell [] t }
  unfolding cause_of bytes_of
  caused t = rw accepted_with refl

  message_causes : shown.listed (is_message_in message_cell anchor other) 27 ≡ 26 ∷ 23 ∷ 22 ∷ 21 ∷ 12 ∷ 11 ∷ 8 ∷ 7 ∷ 6 ∷ 3 ∷ 2 ∷ 1 ∷ []
  message_causes =
      ap (λ (f : ℕ → Bool). shown.listed f 27) (fun_ext (λ t. ap (λ (x : CauseAnswer). eqb (cause_number x.cause) 5) (caused t))) ∙ taken

  message_plan : (rmax : ℕ) → is_repetition rmax ≡ true
      → plan_of message_cell anchor other (eight_subframes 0 rmax) ≡ record { no = 0; first = 33; last = 54; copies = 1; places = 1280 }
  unfolding plan_of bytes_of question_refusal fields_refusal grant_refusal
  message_plan rmax r =
      accepted refused_plan _ _ (rw (accepted_with, r) refl)
      ∙ ap (λ (skip : ℕ). plan_shown (extent_of (after_in (usable message_cell []) 1 skip))) (no_delay rmax)
      ∙ sent_around

pub cases : Cases
cases = record {
  p1_one_port = λ c anchor other s. count_is c anchor other s.unmapped 1 0 0 160 (elements.cases).standalone_one s.cports
      s.control;
  p1_two_ports = λ c anchor other s. count_is c anchor other s.unmapped 2 0 0 152 (elements.cases).standalone_two s.cports
      s.control;
  p1_four_cell_ports = λ c anchor other s n p. count_is c anchor other s.unmapped 2 4 3 100 (elements.cases).four_ports p s.control n;
  p1_two_cell_ports = λ c anchor other s n p. count_is c anchor other s.unmapped 2 2 3 104 (elements.cases).two_ports p s.control n;
  p1_one_and_one = λ c anchor other s n p. count_is c anchor other s.unmapped 1 1 3 118 (elements.cases).one_and_one p s.control n;
  p2_to_p6 = uplink.uplink_cases;
  p7 = λ nports rmax anchor other h r.
      let s = seventh nports anchor other h rmax r in
      (λ j.
      s 0 (omega arith) j ∷ s 1 (omega arith) j ∷ s 2 (omega arith) j ∷ s 3 (omega arith) j
      ∷ s 4 (omega arith) j ∷ s 5 (omega arith) j ∷ s 6 (omega arith) j ∷ s 7 (omega arith) j ∷ [])
      ∙ times nports;
  p7_one_port = λ rmax anchor other r. plan_at rmax anchor other r 1 (inl refl) ∙ plans.0;
  p7_two_ports = λ rmax anchor other r. plan_at rmax anchor other r 2 (inr refl) ∙ plans.1;
  p8_64 = λ nports anchor other h.
      ap (λ (x : DownlinkPlan). x.first) (planned nports anchor other h 1 64 (omega arith) repetitions.0) ∙ (delayed nports).0;
  p8_128 = λ nports anchor other h.
      ap (λ (x : DownlinkPlan). x.first) (planned nports anchor other h 1 128 (omega arith) repetitions.1) ∙ (delayed nports).1;
  p9_60 = λ rmax anchor other r. place_at_lem rmax anchor other r 60 (omega arith) ∙ ninth.0;
  p9_73 = λ rmax anchor other r. place_at_lem rmax anchor other r 73 (omega arith) ∙ ninth.1;
  p10_anchor = λ c other n m a b. own_anchor c zero_and_five other a ∙ cell.ten_anchor c n m b a;
  p10_other = λ c anchor n m a b. own_other c anchor zero_and_five a ∙ cell.ten_other c n m.listed b m.none a;
  p11_schedule_2 = λ c other n m a i b s. own_anchor c only_four other a ∙ cell.forty_16 c n m a i b s;
  p11_schedule_1 = λ c other n m a i b s. own_anchor c only_four other a ∙ cell.forty_8 c n m.listed a i b m.none s;
  nothing_anchor = λ c other n m a b. own_anchor c nothing other a ∙ cell.ten_nothing c n m b;
  nothing_other = λ c anchor n m a b. own_other c anchor nothing a ∙ cell.ten_nothing c n m b;
  acknowledgements = ack.ack_cases;
  windows = window_cases;
  messages = messages.cases;
  message_causes = message_causes;
  message_plan = λ rmax anchor other r. message_plan anchor other rmax r;
  search = search.cases;
  same_ports = cell.same_ports;
  broadcast = broadcast.cases;
}
